pub mod Rounding
pub mod Nearing
pub mod Hosting
