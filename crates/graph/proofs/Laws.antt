-- `Names`: what nodes show of the tags that they stand for. `Drawing`: the wires made of those of the lists. `Answer`: what compile answers.
pub mod Names
pub mod Drawing
pub mod Answer
