pub mod Integer
pub mod Total
pub mod Number
pub mod Modulus
pub mod Examples
