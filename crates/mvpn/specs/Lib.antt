-- What the calls from C answer, and what holds of it.
pub mod Answers
pub mod Rules
