pub mod Written
pub mod Ahead
pub mod Edited
