-- `Laws`: a tag in 32 bytes, and the 64 bytes as runs one behind the other.
mod Laws
