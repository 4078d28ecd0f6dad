pub mod Heaps
pub mod Moves
pub mod Within
