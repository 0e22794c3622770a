-- What is told of an access is told of what is made of it, and of two after each other.
use Rattle.std.proofs.Common.{◌≡◌, List, None, Option, Some, subst, sym}
use Rattle.sdhci_board.specs.Accesses.{Access, Tells}

pub tells_as : (Does Then : List Access → List Access → Type 0) → ((old new : List Access) → Does old new → Then old new)
    → (old new : Option (List Access)) → Tells Does old new → Tells Then old new
tells_as Does Then each old None tells = tt
tells_as Does Then each old (Some new) tells = (tells.0, tells.1, each tells.0 new tells.2)

some_is : (a b : List Access) → Some a ≡ Some b → a ≡ b
some_is a b same = cc

pub tells_both : (First Second Then : List Access → List Access → Type 0)
    → ((old between new : List Access) → First old between → Second between new → Then old new)
    → (old between new : Option (List Access)) → Tells First old between → Tells Second between new → Tells Then old new
tells_both First Second Then both old between None first second = tt
tells_both First Second Then both old None (Some new) first second = absurd (cc (second.1))
tells_both First Second Then both old (Some middle) (Some new) first second = (
  first.0,
  first.1,
  both first.0 middle new first.2 (subst (λ (xs : List Access). Second xs new) (sym (some_is middle second.0 second.1)) second.2),
)
