-- `Table`: a table whose rows change. `Parts`: the model of some bytes, part by part. `Found`: what a search by tag shows of the model. `Took`: an edit made in the bytes. `Put`: rows written by the functions here.
-- `Written`: the model after one row was written.
pub mod Table
pub mod Parts
pub mod Found
pub mod Took
pub mod Put
pub mod Written
