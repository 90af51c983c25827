mod Pixels
mod Headers
