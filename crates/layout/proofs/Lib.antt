-- `Laws`: of words and strings. `Put` and `Kept`: of what is written.
pub mod Laws
pub mod Put
pub mod Kept
