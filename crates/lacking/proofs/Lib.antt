-- `Laws` is what the functions' proofs cite, here and in `graph`.
pub mod Laws
