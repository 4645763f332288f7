-- `Said`: reports, the model that bytes hold, and a tag as a record.
pub mod Said
