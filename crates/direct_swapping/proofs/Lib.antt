-- `Laws` is what the functions' proofs cite, here and in the crates that remove and rename.
pub mod Laws
