pub mod Layers
pub mod Bounds
pub mod Rows
pub mod Sounds
