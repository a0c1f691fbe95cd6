pub mod Each
pub mod Table
pub mod Places
pub mod Lines
