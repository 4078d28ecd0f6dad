pub mod Law
pub mod Words
