pub mod Linear
pub mod Bytes
pub mod Frames
pub mod Powers
pub mod StatusLemmas
pub mod Flipped
pub mod FlippedFrames
