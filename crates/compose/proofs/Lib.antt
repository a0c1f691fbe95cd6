pub mod Laying
pub mod Refusal
