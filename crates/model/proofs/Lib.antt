-- `Theorems` is what document 01 claims of the definitions, for other crates and for docs/PROOFS.md; `Laws` is what they rest on, and what the functions' proofs cite.
pub mod Laws
pub mod Theorems
