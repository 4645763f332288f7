-- `Laws` is what the functions' proofs cite, here and in `compiling`.
pub mod Laws
