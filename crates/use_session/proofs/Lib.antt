pub mod Beyond
pub mod Benches
pub mod Cut
pub mod Held
