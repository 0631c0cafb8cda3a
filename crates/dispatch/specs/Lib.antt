pub mod Blocks
pub mod Made
pub mod Named
pub mod Told
