-- `Laws`: what stands in bytes, by its checks.
pub mod Laws
