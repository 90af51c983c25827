pub mod Draughting
pub mod Shadows
pub mod Objects
pub mod Apart
pub mod Along
pub mod Bounds
pub mod Played
pub mod Exactness
