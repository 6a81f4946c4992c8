-- Definitions of the PMSI Tunnel attribute: `Identifier`, `Attribute` are document 01's, `Bier` those of a BIER identifier, with their rule; `TunnelTypes` has the tunnel types by name; `Answers` says
-- what the public calls answer; `Inner` has what only inner functions cite; `Statements` has what is proved of the definitions.
pub mod Identifier
pub mod TunnelTypes
pub mod Attribute
pub mod Bier
pub mod Answers
pub mod Inner
pub mod Rules
