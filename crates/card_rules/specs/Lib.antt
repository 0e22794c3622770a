pub mod Chosen
pub mod Moments
pub mod RuledCards
pub mod Rules
pub mod RuleTexts
