pub mod Components
pub mod Numbers
pub mod Places
