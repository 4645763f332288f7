-- `Laws` is what the functions' proofs cite, here and in the crates above.
pub mod Laws
