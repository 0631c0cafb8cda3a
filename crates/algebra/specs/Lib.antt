pub mod Mod
pub mod Prime
