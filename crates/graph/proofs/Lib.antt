-- `Laws` is what the functions' proofs cite, here and in `evaluating`.
pub mod Laws
