-- `Laws` is what the functions' proofs cite, here and in the crate that wires.
pub mod Laws
