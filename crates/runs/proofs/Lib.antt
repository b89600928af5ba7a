pub mod Idling
pub mod Lent
pub mod Running
