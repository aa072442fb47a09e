pub mod Asked
pub mod Ledger
