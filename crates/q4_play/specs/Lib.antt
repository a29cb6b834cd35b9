pub mod Labels
pub mod Seated
pub mod Turns
pub mod Plays
pub mod Playing
pub mod Whole
