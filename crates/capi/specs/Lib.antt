pub mod Reports
pub mod Listening
pub mod Playing
