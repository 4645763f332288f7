-- Of the definitions. `Bool`: tests as facts. `Table`: what a table holds after a change. `Valid`: what 7 asks, by lookups. `Change`: what is found after a change. `Places`: the places of a list after a change. `Numbered`: the tag that is made. `Line`, `Fresh`: the line of the walk, and the tags that join it. `Even`: tables that hold the same.
-- `Once`: lists without repetition, and how long they are. `Reach`: reach wire after wire, and lists with inputs ahead of users. `Least`: the least tag of a list.
pub mod Bool
pub mod Table
pub mod Valid
pub mod Change
pub mod Places
pub mod Numbered
pub mod Line
pub mod Fresh
pub mod Even
pub mod Once
pub mod Reach
pub mod Least
