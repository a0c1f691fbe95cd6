pub mod Pieces
pub mod Mended
pub mod Regions
