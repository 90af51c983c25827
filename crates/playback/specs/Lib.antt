pub mod Objects
pub mod Places
pub mod Contexts
pub mod Records
