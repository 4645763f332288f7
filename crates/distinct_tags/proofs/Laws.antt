-- `Behind`: a row held against those behind it.
pub mod Behind
