-- `Words`: edits made of words.
pub mod Words
