-- `Grown`: the record with one component more. `Plain`: each way out of adding a component without inputs.
pub mod Grown
pub mod Plain
