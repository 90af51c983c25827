pub mod Ends
pub mod Performing
pub mod Sayings
pub mod Tally
pub mod Twice
