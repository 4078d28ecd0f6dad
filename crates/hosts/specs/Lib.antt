pub mod Local
pub mod Rounds
pub mod Made
