pub mod Finding
pub mod StepsHome
