-- `Swapping`: places that name a tag changed. `Swapped`: the model of the bytes with its places swapped.
pub mod Swapping
pub mod Swapped
