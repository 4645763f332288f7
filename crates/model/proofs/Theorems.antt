-- `Keep`: every edit keeps 7. `Walk`: the wiring walk meets what the source reaches, each tag once, and ends by itself. `Free`: a free numbered tag exists. `Positions`: an edit does not see table positions.
-- `Order`: a target closes a cycle or has an order, as long as its reach is large. `Number`: what compiles has one number. `Worked`: what has a number compiles. `Compile`, `Evaluate`: one answer, and always one.
-- `Carry`: a form carried into another model. `Agree`: same reach, same everything. `Kept`: a refused edit changes nothing. `Outside`, `Renaming`: which edits spare a form. `Steady`: demand 3.
pub mod Keep
pub mod Walk
pub mod Free
pub mod Positions
pub mod Order
pub mod Number
pub mod Worked
pub mod Compile
pub mod Evaluate
pub mod Carry
pub mod Agree
pub mod Kept
pub mod Outside
pub mod Renaming
pub mod Steady
pub mod Cases
