pub mod Signal
