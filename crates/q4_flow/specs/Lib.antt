pub mod Flow
pub mod Memory
pub mod Reading
pub mod Lines
pub mod All
