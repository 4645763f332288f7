-- `Laws` is what the functions' proofs cite.
pub mod Laws
