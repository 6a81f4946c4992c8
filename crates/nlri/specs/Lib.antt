-- MCAST-VPN NLRI: definitions in document 01's order, then what the calls answer, then what inner functions cite, then the statements of the theorems, of the definitions and of the answers.
pub mod Family
pub mod Bodies
pub mod Fields
pub mod Reading
pub mod Layouts
pub mod Groups
pub mod Writing
pub mod Answers
pub mod Inner
pub mod Standing
pub mod Rules
