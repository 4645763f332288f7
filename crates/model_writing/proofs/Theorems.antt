-- `RoundTrip`: encoding and decoding, both ways.
pub mod RoundTrip
