-- `Laws` is what the functions' proofs cite, here and in the calls above.
pub mod Laws
