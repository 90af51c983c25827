pub mod Bytes
pub mod Header
pub mod Frames
pub mod Functions
pub mod Decoding
pub mod Exact
pub mod Layers
