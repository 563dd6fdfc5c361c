pub mod CallLemmas
pub mod Cutting
pub mod Firsts
pub mod NameLemmas
pub mod ObjectLemmas
pub mod SayingLemmas
pub mod Scripts
pub mod Values
