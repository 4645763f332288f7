-- `Laws`: of rows and of lists of them.
pub mod Laws
