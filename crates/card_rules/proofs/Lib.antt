pub mod RuledLemmas
pub mod StepLemmas
pub mod TextLemmas
