-- `Theorems`: what decodes, and a model in bytes worked out. `Laws`: what the functions' proofs cite.
pub mod Laws
pub mod Theorems
