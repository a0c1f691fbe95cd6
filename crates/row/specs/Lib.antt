pub mod Before
pub mod Row
