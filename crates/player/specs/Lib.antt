pub mod Faults
pub mod Finding
pub mod Views
pub mod Runs
pub mod Playing
pub mod Texts
