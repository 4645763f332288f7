-- `Setting`: each way out of `set_parameter`.
pub mod Setting
