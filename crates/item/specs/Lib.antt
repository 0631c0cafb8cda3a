pub mod Version
pub mod Mark
pub mod Start
pub mod Item
pub mod Example
