-- A page in HTML.
use Rattle.std.specs.Prelude.{ℕ, List, ◌++◌}
use Rattle.card_explain.specs.declared.exchange.KnownCard.{KnownCard}
use Rattle.card_explain.specs.declared.step.Step.{Step}
use Rattle.card_picture.specs.Escapes.{escaped}
use Rattle.card_picture.specs.Sequence.{sequence_text}
use Rattle.card_picture.specs.Table.{table_rows}
use Rattle.card_picture.specs.declared.message.Message.{Message}
use Rattle.card_picture.specs.declared.page.Page.{Page}
use Rattle.card_picture.specs.declared.page.TheConstants.{BEFORE_ANSWERS, BEFORE_CONTENTS, BEFORE_PICTURE, BEFORE_STATISTICS, BEFORE_TABLE, END}

-- a text in a part of the page that begins so
unfoldable pub part_text : List ℕ → List ℕ → List ℕ
part_text front text = front ++ escaped text

-- the exchanges as a sequence diagram, and in words
unfoldable pub exchanges_text : KnownCard → List Step → List Message → List ℕ
exchanges_text card steps messages =
    BEFORE_PICTURE.now ++ (sequence_text card steps messages ++ (BEFORE_TABLE.now ++ table_rows card steps))

-- the answers, the exchanges, what happened, and what the card holds
unfoldable pub page_text : KnownCard → Page → List ℕ
page_text card page =
    part_text BEFORE_ANSWERS.now page.answers.now
    ++ (exchanges_text card page.steps.now page.messages.now
    ++ (part_text BEFORE_STATISTICS.now page.statistics.now
    ++ (part_text BEFORE_CONTENTS.now page.contents.now ++ END.now)))
