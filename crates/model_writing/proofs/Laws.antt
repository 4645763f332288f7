-- `Sizes`: a record within its sizes. `Writing`: rows that are written. `Encoding`: the model.
pub mod Sizes
pub mod Writing
pub mod Encoding
