pub mod ColumnLemmas
pub mod EscapeLemmas
