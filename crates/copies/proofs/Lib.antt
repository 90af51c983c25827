mod Sweeps
mod Sources
