pub mod Relaxing
pub mod Answers
