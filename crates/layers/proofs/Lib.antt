pub mod Cells
pub mod Fences
pub mod Mirrors
pub mod Meters
pub mod Rowwise
pub mod Piles
pub mod Finds
