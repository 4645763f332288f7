-- `Order`: any wires: closure, stuck means cyclic, an order has no cycle. `Wires`: the wires in an array. `Lists`: distinct nodes. `Laying`: the reach, and laying it.
pub mod Order
pub mod Wires
pub mod Lists
pub mod Laying
