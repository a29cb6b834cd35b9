pub mod Obeying
pub mod Showing
pub mod Spelling
pub mod Completing
pub mod Conversing
pub mod Causing
pub mod Opening
pub mod Standing
