-- `Loops`: one more entry stored. `Rows`: the row that is sought. `Places`: the tag that is read in a place.
pub mod Loops
pub mod Rows
pub mod Places
