pub mod Comparing
pub mod Laid
pub mod Inside
