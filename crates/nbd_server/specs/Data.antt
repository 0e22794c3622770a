-- The data of a write in pieces.
use Rattle.std.specs.Prelude.{List, ◌<◌, ◌≡◌, ◌≤◌, ◌∷◌, [], length, ℕ, ⊤}
use Rattle.std.specs.List.{flat_map}
use Rattle.nbd_server.specs.declared.data.TheConstants.{PIECE}

-- the bytes of all pieces, one after the other
abbrev pub joined : List (List ℕ) → List ℕ
joined pieces = flat_map (λ (piece : List ℕ). piece) pieces

-- each has so many bytes, but the last one, which has some and may have fewer
abbrev pub AreCut : List (List ℕ) → Type 0
AreCut [] = ⊤
AreCut (piece ∷ pieces) =
    (0 < length piece) × (length piece ≤ PIECE) × (0 < length pieces → length piece ≡ PIECE) × AreCut pieces
