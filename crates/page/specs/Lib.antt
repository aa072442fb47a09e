pub mod Page
pub mod Store
