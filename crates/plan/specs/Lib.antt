-- A plan for the wildcards (request W-214): flows and what they want, the judge, the planner, the refusals, and what holds of them.
pub mod Flows
pub mod Commonest
pub mod Judging
pub mod Planning
pub mod Refusing
pub mod Calls
pub mod Inner
pub mod Rules
