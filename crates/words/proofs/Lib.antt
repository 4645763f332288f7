-- `Columns`: a product of two numbers of two digits each, column by column.
pub mod Columns
