-- `Swept`: a loop that changes the rows of a table in place. `Swapping`: places that name a tag changed. `Holding`: a record that stands and holds what a model does. `Taken`: a row taken off. `Removing`: each way out of the edit.
pub mod Swept
pub mod Swapping
pub mod Holding
pub mod Taken
pub mod Removing
