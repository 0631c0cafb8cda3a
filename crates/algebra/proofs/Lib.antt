pub mod Congruence
pub mod Polynomial
pub mod Ring
pub mod Laws
pub mod Primes
pub mod Inverse
