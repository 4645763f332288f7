-- `Laws` is what the functions' proofs and renaming's cite.
pub mod Laws
