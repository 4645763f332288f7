-- For other crates, which name them as `Rattle.component.proofs.Theorems` and `Rattle.component.proofs.Arms`. `Arms`: the kinds with no parameter. `Numbers`: the rule on two ends that lie near.
pub mod Theorems
pub mod Arms
pub mod Numbers
