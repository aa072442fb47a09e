pub mod Log
pub mod Batch
pub mod Batches
