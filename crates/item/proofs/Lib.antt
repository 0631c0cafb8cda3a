pub mod Marks
pub mod PartsRows
pub mod Sizes
pub mod Untwisted
pub mod Versions
