pub mod Calling
pub mod Filing
pub mod Law
pub mod Refusals
