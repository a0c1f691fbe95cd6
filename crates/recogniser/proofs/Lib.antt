pub mod Events
pub mod Windows
