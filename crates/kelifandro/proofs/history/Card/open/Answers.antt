use Rattle.std.proofs.Common.{◌∙◌, ◌∷◌, ap, rules, w32}
use Rattle.std.proofs.lemmas.Int.{to_z-of_z}
use Rattle.std.specs.Prelude.{ℤ}
use Rattle.kelifandro.specs.Done.{done_of, stories_of}
use Rattle.kelifandro.specs.History.{CardHistory}
use Rattle.kelifandro.specs.History.Call.{Opened}
use Rattle.kelifandro.proofs.CardLemmas.{calls_seen, continues}
use Rattle.kelifandro.proofs.history.Card.open.Goals as goal

pub invariant_of-self : goal.invariant_of-self
invariant_of-self g c =
    let inside = c.self.inside in
    let opened = c.open_by-number in
    continues (stories_of g.S.HasStory.story g.S.HasRegisterStory.story) inside.way (done_of inside.did) (done_of opened.new.did)
    inside.card opened.new.card inside.calls.past _ (Opened opened.result) c.self.invariant opened.ensures.fit_again opened.ensures.goes_on
    (c.then-self-inside.ensures ∙ ap (λ (n : ℤ). Opened n ∷ inside.calls.past) (to_z-of_z w32 opened.result (search rules)))

pub returns : goal.returns
returns g c = record {
  continues = record {
    way = ap (λ (h : CardHistory). h.way) c.self.view_is;
    calls = calls_seen c.self.view_is c.then-self-inside.ensures;
    served = λ is. ((invariant_of-self g c).1 is).1;
  };
}
