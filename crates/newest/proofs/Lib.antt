-- `Theorems` is for other crates and for docs/PROOFS.md.
pub mod Theorems
