mod Octets
mod Cells
mod Bounds
mod Lists
