pub mod Row
pub mod Fit
pub mod Spelling
pub mod Reading
pub mod Escape
pub mod Names
