-- `Node`: the node of a tag. `Places`: what stands in a list. `Slots`: the wires of the slots, and what they say of the record.
pub mod Node
pub mod Places
pub mod Slots
