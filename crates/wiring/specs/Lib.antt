pub mod Wiring
