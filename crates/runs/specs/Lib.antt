pub mod Trip
pub mod Passes
pub mod Items
pub mod Stacks
pub mod Buffers
