-- `Order`: a form's order.
pub mod Order
