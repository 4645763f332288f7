-- What the proofs of the calls cite too.
pub mod Laws
