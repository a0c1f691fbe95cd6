pub mod File
pub mod Serving
pub mod Promises
