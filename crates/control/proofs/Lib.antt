pub mod Visiting
pub mod Parts
pub mod Whole
pub mod AnyReplies
pub mod Resting
pub mod Serving
pub mod Turning
