pub mod Definitions
pub mod Tool
