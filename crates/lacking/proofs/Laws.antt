-- `Least`: the least of a list of tags, or of what a run gave by a key. `Shown`: what the marked lists show.
pub mod Least
pub mod Shown
