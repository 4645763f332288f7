-- `Laws` is what the function's proof cites.
pub mod Laws
