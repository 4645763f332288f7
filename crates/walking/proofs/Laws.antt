-- `Walk`: the walk over rows answers what the walk over tags is defined to. `Line`: the walk in the code, step by step.
pub mod Walk
pub mod Line
