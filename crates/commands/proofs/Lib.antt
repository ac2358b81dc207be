-- What several proofs cite.
pub mod NoNumber
pub mod Laws
pub mod Spelled
