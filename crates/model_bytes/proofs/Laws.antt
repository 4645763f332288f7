-- `Reading`: what is read at a place, and rows. `Decoding`: the model. `Local`: what is read of a row depends on its own bytes alone.
pub mod Reading
pub mod Decoding
pub mod Local
