-- `Laws` is what the function's proof cites, and the crates above.
pub mod Laws
