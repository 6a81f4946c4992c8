-- What the inner functions of writing an NLRI cite.
pub mod Inner
