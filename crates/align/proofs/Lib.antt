pub mod FirstSync
pub mod Search
