pub mod Masters
pub mod Driving
pub mod Lending
