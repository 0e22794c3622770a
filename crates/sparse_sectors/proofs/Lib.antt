pub mod ChunkLemmas
pub mod ValueLemmas
