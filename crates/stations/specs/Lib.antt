pub mod Stations
pub mod Images
