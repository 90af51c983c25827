pub mod Areas
pub mod Lines
pub mod Tasks
