-- `Theorems` is for other crates; `Entries` is what the functions' proofs cite. `Arms`: what the kinds with no parameter list.
pub mod Theorems
mod Entries
pub mod Arms
