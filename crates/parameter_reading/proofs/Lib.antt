-- `Named` is what the proof of `read_parameter` cites. `Arms`: what the kinds with no parameter answer.
mod Named
pub mod Arms
