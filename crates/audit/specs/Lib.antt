pub mod Below
pub mod Holds
pub mod Waiting
pub mod Ledger
pub mod Verdict
pub mod Auditor
pub mod Totals
pub mod inner
