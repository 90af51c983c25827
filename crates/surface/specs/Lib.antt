pub mod Meaning
pub mod Rects
pub mod Drawing
pub mod Facts
pub mod Sameness
