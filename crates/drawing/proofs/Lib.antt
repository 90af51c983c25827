pub mod Rows
pub mod Cuts
pub mod Performing
pub mod Independence
