pub mod Rows
pub mod Modes
pub mod Records
pub mod Edits
pub mod Editing
pub mod Ahead
