-- For those who write a queue or call one.
pub mod Alikes
pub mod Orders
pub mod Answering
pub mod Tally
pub mod Numbered
