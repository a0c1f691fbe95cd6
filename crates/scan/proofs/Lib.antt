pub mod Packets
pub mod Pieces
pub mod Remade
pub mod Walk
