-- `Free`: the first free tag, number by number. `Component`: each way out of `add_component`.
pub mod Free
pub mod Component
