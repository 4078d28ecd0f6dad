pub mod Offers
pub mod Search
pub mod Bundles
