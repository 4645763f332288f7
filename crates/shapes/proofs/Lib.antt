-- What the functions' proofs cite, and document 01's cases.
mod Signed
mod Cases
