-- `Newest`: the newest tag is the one that sparing speaks of.
pub mod Newest
