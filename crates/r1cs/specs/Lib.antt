pub mod Product
pub mod Claim
pub mod Check
pub mod Example
