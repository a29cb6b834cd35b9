pub mod Basics
pub mod Holding
pub mod Adding
pub mod Founding
pub mod Splitting
pub mod Joining
