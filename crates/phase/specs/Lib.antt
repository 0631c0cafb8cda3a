pub mod Cases
pub mod Level
pub mod Order
pub mod Turn
