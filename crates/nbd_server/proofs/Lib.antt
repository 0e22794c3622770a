pub mod AnswerLemmas
pub mod DataLemmas
pub mod DeskLemmas
pub mod InputLemmas
pub mod LongLemmas
pub mod PartsLemmas
pub mod SessionLemmas
pub mod TimesLemmas
