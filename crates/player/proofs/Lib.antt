pub mod Strides
pub mod Wholes
pub mod Single
