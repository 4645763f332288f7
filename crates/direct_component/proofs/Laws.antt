-- `Free`: the first free tag. `Component`: what `add_component` answers.
pub mod Free
pub mod Component
