-- For the crates above: which states a chart can be in.
pub mod States
