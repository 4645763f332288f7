-- `Arms`: what several kinds at once answer.
pub mod Arms
