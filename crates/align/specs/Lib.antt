pub mod Sync
pub mod Search
