-- Of the record. `Rows`: live rows. `Search`: a search by tag. `Changes`: tables changed in place. `Standing`: 7, part by part. `Reading`: what stands at a position, and a new record.
pub mod Rows
pub mod Search
pub mod Changes
pub mod Standing
pub mod Reading
