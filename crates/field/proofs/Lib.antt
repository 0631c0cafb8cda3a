pub mod Reduction
pub mod Residues
pub mod Signed
pub mod Integers
pub mod Totals
pub mod ModulusLaws
pub mod Checks
