pub mod BlockSamples
pub mod CommandSamples
pub mod Header
pub mod Labels
pub mod LineCheck
pub mod Samples
pub mod WaveText
pub mod WaveView
