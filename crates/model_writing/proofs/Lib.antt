-- `Theorems`: the round trip. `Laws`: what the functions' proofs cite.
pub mod Laws
pub mod Theorems
