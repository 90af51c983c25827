pub mod Pictures
pub mod Worked
