pub mod Letters
pub mod Marks
