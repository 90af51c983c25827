pub mod Tools
pub mod Pencils
