pub mod Firsts
pub mod Ontos
