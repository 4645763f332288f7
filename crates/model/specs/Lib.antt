pub mod Table
pub mod Model
pub mod Walk
pub mod Edit
pub mod Form
pub mod Steady
pub mod Answer
pub mod View
