-- What went to C and came from it, record by record.
use Rattle.std.specs.Prelude.{◌∷◌, [], List, ℕ}

pub data Talk : Type 0 where
  -- this record was put
  Told : List ℕ → Talk
  -- this record was put, and these bytes came for it: as many as were asked for, and zeros where C gave none
  Asked : List ℕ → List ℕ → Talk
  -- so many bytes of a block came, and after that its room held these
  Came : ℕ → List ℕ → Talk

-- the bytes that came last
abbrev pub last_answer : List Talk → List ℕ
last_answer [] = []
last_answer (Told put ∷ past) = []
last_answer (Asked put answer ∷ past) = answer
last_answer (Came count bytes ∷ past) = bytes

-- how many bytes of a block came last
abbrev pub last_count : List Talk → ℕ
last_count [] = 0
last_count (Told put ∷ past) = 0
last_count (Asked put answer ∷ past) = 0
last_count (Came count bytes ∷ past) = count
