pub mod Arena
pub mod LinkedLists
pub mod Links
pub mod NodeList
pub mod inner
