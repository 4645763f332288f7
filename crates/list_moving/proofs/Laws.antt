-- `Moving`: the row of one tag moved to another.
pub mod Moving
