pub mod Hurry
pub mod Deal
