pub mod Hatches
