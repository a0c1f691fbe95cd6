pub mod Sight
pub mod Event
