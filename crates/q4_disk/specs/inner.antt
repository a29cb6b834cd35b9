-- What only proofs cite.
pub mod Laws
