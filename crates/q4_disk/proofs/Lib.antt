pub mod Mixed
pub mod Replayed
pub mod Counted
pub mod Picks
pub mod Moments
pub mod Ranges
pub mod Pieced
