pub mod Fields
pub mod Commands
pub mod Told
pub mod Text
pub mod Inner
pub mod Pieces
