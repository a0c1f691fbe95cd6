pub mod Fits
pub mod Plan
pub mod Refusal
