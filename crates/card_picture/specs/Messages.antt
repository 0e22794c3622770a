-- What a client and the driver say to each other, in a sequence diagram.
use Rattle.std.specs.Prelude.{ℕ, Bool, false, true, List, ◌++◌, codes}
use Rattle.card_picture.specs.Rows.{label_text, open_text}
use Rattle.card_picture.specs.declared.message.Message.{Message}

-- its arrow, with the beginning of its words
abbrev pub message_arrow : Bool → List ℕ
message_arrow true = codes "<use href='#answers'/><text x='318' y='25' class='e'>"
message_arrow false = codes "<use href='#asks'/><text x='112' y='25'>"

-- the row of a message at this place
unfoldable pub message_row : ℕ → Message → List ℕ
message_row place message =
    open_text place false ++ (label_text (message_arrow message.is_answer) message.words.now ++ codes "</g>\n")
