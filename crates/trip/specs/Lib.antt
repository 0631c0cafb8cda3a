pub mod Input
pub mod Items
pub mod Modes
