-- `Unwiring`: each way out of `remove_input`.
pub mod Unwiring
