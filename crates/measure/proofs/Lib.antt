-- For the crates above: sums as if they were always given, and what `compare` says.
pub mod Sums
pub mod Compared
mod Unlawful
