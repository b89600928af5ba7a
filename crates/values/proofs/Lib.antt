pub mod Arrays
pub mod Filling
pub mod Outcomes
pub mod Tables
pub mod Tests
