-- A run that arrives in pieces: what start, feed and finish answer; the loop that a caller writes; and what holds of it.
pub mod Feeding
pub mod Handing
pub mod Rules
