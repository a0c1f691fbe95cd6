pub mod Lawful
pub mod Laid
pub mod MadeWords
