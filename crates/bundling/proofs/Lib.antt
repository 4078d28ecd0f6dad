-- The search by bundles over any graph: what it knows of one, and why its labels end as the distances
pub mod Graph
pub mod Queue
pub mod Nearby
pub mod Crossing
pub mod Labels
pub mod Steps
pub mod Draw
pub mod Bundle
pub mod Again
pub mod End
-- a waterway is such a graph, so the labels at the end are its distances
pub mod Water
pub mod Pivots
pub mod Answer
-- how many pivots are drawn
pub mod Listed
pub mod Tally
-- what stands in the hosts that are read
pub mod Written
