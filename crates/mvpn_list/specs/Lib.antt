-- The listing program: what it prints for every run, and what holds of it.
pub mod Listing
pub mod Rules
