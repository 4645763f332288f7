-- `Lists`: tests of all rows, and an input list as 7 judges it.
pub mod Lists
