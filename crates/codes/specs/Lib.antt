pub mod Bits
pub mod Operations
pub mod Refusals
pub mod Modes
