pub mod Number
pub mod Limit
pub mod Outcome
pub mod Refusal
