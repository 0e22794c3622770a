-- What is said of the lines of a script that are wrong.
use Rattle.std.specs.Prelude.{ℕ, List, None, Option, Some, codes}
use Rattle.card_check.specs.Strays.{stray_in, stray_words}
use Rattle.card_check.specs.declared.stray.Stray.{Stray}

abbrev pub event_words_by : Option Stray → List ℕ
event_words_by (Some stray) = stray_words stray
event_words_by None =
    codes "a line is CLIENT read|erase|trim PART START COUNT, CLIENT write PART START COUNT HH*N,HH*N.., cancel TICKET, turn or run; PART is user, boot1, boot2 or gp1 to gp4, and one space stands between two fields"

abbrev pub event_words : List ℕ → List ℕ
event_words line = event_words_by (stray_in line)
