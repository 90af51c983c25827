pub mod Shifts
pub mod Sweeps
