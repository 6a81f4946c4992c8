-- Runs of NLRIs: the step and the walk, then the statements of the theorems; then the walk by its mode, what holds of it, and of a Source Active route that is discarded.
pub mod Walking
pub mod Modes
pub mod Rules
