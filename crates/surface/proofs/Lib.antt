pub mod Keeping
pub mod Strokes
pub mod Sames
pub mod Ranges
