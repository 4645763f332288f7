-- `Step`: an edit meets its contract check by check. `Tests`: the code's tests are the definition's. `Stored`: one row of a table overwritten or appended.
pub mod Step
pub mod Tests
pub mod Stored
