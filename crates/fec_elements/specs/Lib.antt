-- Definitions of mLDP FEC elements: `Fields` has one on the wire, `Nested` those that hold one another, `Reading` how each is judged, `FecTypes` their types by name, `Inner` what
-- only inner functions cite; `Statements` has what is proved of the definitions.
pub mod Fields
pub mod Nested
pub mod Reading
pub mod FecTypes
pub mod Inner
pub mod Rules
