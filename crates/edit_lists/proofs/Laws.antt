-- `Lists`: the contracts of a new model and of a list of edits.
pub mod Lists
