-- Sectors in chunks.
use Rattle.std.specs.Prelude.{◌++◌, ◌-◌, ◌∷◌, ◌≡◌, List, [], length, replicate, ℕ, ⊤}
use Rattle.std.specs.List.{flat_map}
use Rattle.sparse_sectors.specs.declared.chunk.TheConstants.{CHUNK}

-- the sectors of a chunk: those that are there, and after them blank ones
abbrev pub filled : List ℕ → List (List ℕ) → List (List ℕ)
filled blank front = front ++ replicate (CHUNK - length front) blank

-- the sectors of all chunks, one after the other
abbrev pub joined : List (List (List ℕ)) → List (List ℕ)
joined chunks = flat_map (λ (chunk : List (List ℕ)). chunk) chunks

-- each of them has so many sectors
abbrev pub AreChunks : List (List (List ℕ)) → Type 0
AreChunks [] = ⊤
AreChunks (chunk ∷ chunks) = (length chunk ≡ CHUNK) × AreChunks chunks
