-- `Laws`: what the functions' proofs cite. `Theorems`: what follows from the contracts.
mod Laws
pub mod Theorems
