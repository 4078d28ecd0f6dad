pub mod Refusals
pub mod State
pub mod Calls
pub mod Sound
pub mod Possible
pub mod Shown
