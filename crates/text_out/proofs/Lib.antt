pub mod HexLemmas
pub mod PieceLemmas
pub mod RepeatLemmas
pub mod WritingLemmas
