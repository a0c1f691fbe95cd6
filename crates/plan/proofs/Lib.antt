pub mod Plans
pub mod Rows
