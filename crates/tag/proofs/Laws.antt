-- `Is`: two byte strings for which `is` holds are the same, and whether two are is decided. `Order`: `before` is a strict total order.
-- `View`: the bytes of a tag's record, and a record made of bytes. `Digits`: decimal numbers. `Numbered`: numbered tags, and whether they fit.
pub mod Is
pub mod Order
pub mod View
pub mod Digits
pub mod Numbered
