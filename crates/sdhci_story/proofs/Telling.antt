-- A list of accesses is told from each other one by its code, a tree of numbers.
use Rattle.std.proofs.Common.{◌≡◌, Bool, List, true}
use base.Stored.{Coded, coded_list}
use denote.Struct.Codes.{codes}
use Rattle.mmc_story.proofs.Telling.{alike, itself, same}
use Rattle.sdhci_story.specs.Access.{Access}

accesses : Coded (List Access)
accesses = coded_list (hlevel codes)

pub are_same : List Access → List Access → Bool
are_same a b = same (accesses.code a) (accesses.code b)

pub are_alike : (a b : List Access) → are_same a b ≡ true → a ≡ b
unfolding are_same
are_alike a b p = accesses.inj a b (alike (accesses.code a) (accesses.code b) p)

pub are_themselves : (a : List Access) → are_same a a ≡ true
unfolding are_same
are_themselves a = itself (accesses.code a)
