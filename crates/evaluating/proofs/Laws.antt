-- `Along`: the numbers along an order, and what evaluate_at answers.
pub mod Along
