-- `Laws` is what the proofs of the edits cite, in the crates above.
pub mod Laws
