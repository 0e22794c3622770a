-- Headline (docs/AUDIT.md, "What to read").
-- What requests do with their sectors.
use Rattle.std.specs.Prelude.{Bool, false, true}
use Rattle.mmc_erase.specs.declared.how.How.{How}
use Rattle.mmc_erase.specs.declared.how.How.TheVariants as how
use Rattle.mmc_requests.specs.declared.kind.Kind.{Kind}
use Rattle.mmc_requests.specs.declared.kind.Kind.TheVariants.{Erase, Read, Trim, Write}

-- it changes nothing
abbrev pub is_read : Kind → Bool
is_read Read = true
is_read Write = false
is_read Erase = false
is_read Trim = false

-- it moves blocks between host and card
abbrev pub moves_blocks : Kind → Bool
moves_blocks Read = true
moves_blocks Write = true
moves_blocks Erase = false
moves_blocks Trim = false

-- what gives sectors up by whole units, or each by itself
abbrev pub kind_of_how : How → Kind
kind_of_how how.Erase = Erase
kind_of_how how.Trim = Trim
