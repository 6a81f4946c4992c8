-- The bit string of a BIER packet: strings of BFR-ids, Leaf routes and which of them count, what the call answers; what inner functions cite; and what is
-- stated of the definitions, with examples.
pub mod BitStrings
pub mod LeafRoutes
pub mod BierString
pub mod Inner
pub mod Rules
