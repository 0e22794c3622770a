-- The line of an answer as an object, by the words of the line.
use Rattle.std.specs.Prelude.{◌∷◌, List, None, Option, Some, [], codes, if◌then◌else◌, ℕ}
use Rattle.serde_json.specs.Data.{Data, number, unsigned}
use Rattle.card_json.specs.Words.{is_word, number_at, text_at}

-- after how many exchanges an answer came
abbrev pub after_said : ℕ → List (List ℕ × Option Data)
after_said after = (codes "after", Some (number (unsigned after))) ∷ []

-- WHO N refused NO NAME
abbrev pub refused_said : List ℕ → List (List ℕ) → ℕ → List (List ℕ × Option Data)
refused_said who words after =
    (who, number_at words 1) ∷ (codes "answer", text_at words 2) ∷ (codes "code", number_at words 3)
    ∷ (codes "cause", text_at words 4) ∷ after_said after

-- the bytes of a read
abbrev pub data_word : List (List ℕ) → Option Data
data_word words = if is_word words 3 (codes "data") then text_at words 4 else None

-- the number of the cause of a failure
abbrev pub code_of : List (List ℕ) → Option Data
code_of words = if is_word words 3 (codes "data") then None else number_at words 4

-- T client C ANSWER, and the data of a read or the cause of a failure
abbrev pub given_said : List (List ℕ) → ℕ → List (List ℕ × Option Data)
given_said words after =
    (codes "ticket", number_at words 0) ∷ (codes "client", number_at words 2) ∷ (codes "answer", text_at words 3)
    ∷ (codes "data", data_word words) ∷ (codes "code", code_of words) ∷ (codes "cause", text_at words 5) ∷ after_said after

-- T cancelled
abbrev pub cancelled_said : List (List ℕ) → ℕ → List (List ℕ × Option Data)
cancelled_said words after = (codes "ticket", number_at words 0) ∷ (codes "answer", text_at words 1) ∷ after_said after

-- the line of an answer
abbrev pub answer_said : List (List ℕ) → ℕ → List (List ℕ × Option Data)
answer_said words after =
    if is_word words 0 (codes "client") then refused_said (codes "client") words after
    else if is_word words 0 (codes "cancel") then refused_said (codes "cancel") words after
    else if is_word words 1 (codes "client") then given_said words after
    else cancelled_said words after
