-- `Tests`: tests as facts. `Reading`: what is read at a place, and rows. `Local`: what is read depends on its own bytes alone. `Writing`: what is written at a place, and rows.
pub mod Tests
pub mod Reading
pub mod Local
pub mod Writing
