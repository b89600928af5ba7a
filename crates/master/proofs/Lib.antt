pub mod Lending
pub mod Placing
pub mod Reading
