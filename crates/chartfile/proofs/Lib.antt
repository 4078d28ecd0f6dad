mod Answered
mod Canonical
mod Counting
mod Digits
mod KindsOf
mod Loaded
pub mod Marking
mod Places
mod Puts
mod Splices
mod Unframing
mod Unread
pub mod Whole
mod Written
