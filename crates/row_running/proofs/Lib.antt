-- What the functions' proofs cite.
mod Laws
