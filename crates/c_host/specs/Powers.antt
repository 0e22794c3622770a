-- How functions switch the card's power.
use Rattle.std.specs.Prelude.{◌∷◌, ◌≡◌, Bool, List, false, true}
use Rattle.c_host.specs.Records.{power_record}
use Rattle.c_host.specs.Talk.{Talk}
use Rattle.c_host.specs.Talk.Talk.{Told}

-- functions that can are told so
abbrev pub TellsPower : Bool → Bool → List Talk → List Talk → Type 0
TellsPower true is_on old new = new ≡ Told (power_record is_on) ∷ old
TellsPower false is_on old new = new ≡ old
