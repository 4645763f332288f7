-- `Along`: what holds between two edits of the list, and the contract after the last. `Rows`: the rows of the list. `Promise`: the contract.
pub mod Along
pub mod Rows
pub mod Promise
