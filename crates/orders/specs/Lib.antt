pub mod Orders
pub mod Queues
pub mod Management
