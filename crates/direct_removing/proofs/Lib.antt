-- `Laws` is what the functions' proofs cite.
mod Laws
