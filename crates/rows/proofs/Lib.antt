-- `Laws`: what is read and written at a place, for the functions' proofs here and in the crates above.
pub mod Laws
