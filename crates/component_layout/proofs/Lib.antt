-- `Laws`: kinds past the last. `Numbers`, `Examples`: components as words.
pub mod Laws
mod Numbers
pub mod Examples
