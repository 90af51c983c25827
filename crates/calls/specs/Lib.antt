pub mod Planes
pub mod Seeing
pub mod Machine
pub mod Promise
pub mod Metering
