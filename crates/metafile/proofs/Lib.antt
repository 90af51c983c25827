pub mod Numbered
pub mod Outcomes
pub mod Seen
