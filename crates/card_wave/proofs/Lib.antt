pub mod BlockLaws
pub mod CheckLemmas
pub mod DrawLemmas
pub mod LabelLemmas
pub mod Linear
pub mod NoRemainder
