-- Walks, what they cost, and that any two marks are apart or have one distance
pub mod Pigeons
pub mod Walks
pub mod Bills
pub mod Cuts
pub mod Decided
pub mod Rounds
pub mod Distance
pub mod Metric
pub mod Between
-- hosts, balls, and the near table
pub mod Hosts
pub mod Counted
pub mod Balls
pub mod Near
pub mod Stretch
-- routes
pub mod Steps
pub mod Routes
-- labels, and a measure's prices
pub mod Written
pub mod Priced
-- the theory in one place, and a waterway worked by it
mod Theory
mod WorkedOut
