pub mod Walking
pub mod Skimming
pub mod Rushing
pub mod Taking
