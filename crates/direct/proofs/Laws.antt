-- `Ready`: which components served places name. `Numbers`: one more number. `Clear`: rows closed under their wires, and the walk from one of them. `Answer`: what evaluate_in answers.
pub mod Ready
pub mod Numbers
pub mod Answer
pub mod Clear
