-- Mixed calls: owners, books, what is due to each call, and the calls in another order.
pub mod DueSteps
pub mod Runs
pub mod Reorders
pub mod Turns
pub mod Premise
pub mod BookSteps
pub mod BookRules
pub mod MixedCalls
