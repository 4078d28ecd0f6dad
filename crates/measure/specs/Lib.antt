pub mod Kind
pub mod Legal
pub mod Limited
pub mod Numbers
pub mod Tenths
pub mod Passage
pub mod Unlawful
