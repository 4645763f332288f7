-- `Form`: a form's number.
pub mod Form
