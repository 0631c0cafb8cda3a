pub mod Facts
pub mod Taking
pub mod BlockLaws
pub mod OpeningValues
pub mod LentOpening
pub mod LentFacts
