pub mod Words
pub mod Counting
pub mod Logging
pub mod Scripts
pub mod Replay
