use Rattle.std.proofs.Common.{◌∙◌, ◌∷◌, ap, of_z, rules, to_z, w32}
use Rattle.std.proofs.lemmas.Int.{to_z-of_z}
use Rattle.kelifandro.specs.Done.{done_of, stories_of}
use Rattle.kelifandro.specs.History.{CardHistory, Told}
use Rattle.kelifandro.specs.History.Call.{Served}
use Rattle.kelifandro.proofs.CardLemmas.{calls_seen, continues}
use Rattle.kelifandro.proofs.history.Card.serve.Goals as goal

pub invariant_of-self : goal.invariant_of-self
invariant_of-self g c =
    let inside = c.self.inside in
    let served = c.serve_told-number in
    let told : Told = record { asked = c.args.wanted.now.asked; before = c.args.blocks.now; after = served.new.blocks; number = served.result } in
    let number = to_z-of_z w32 served.result (search rules) in
    continues (stories_of g.S.HasStory.story g.S.HasRegisterStory.story) inside.way (done_of inside.did) (done_of served.new.did)
    inside.card served.new.card inside.calls.past _ (Served told) c.self.invariant served.ensures.fit_again served.ensures.goes_on
    (c.then-self-inside.ensures
    ∙ (λ i. Served (record {
      asked = c.args.wanted.now.asked;
      before = c.of-before.ensures i;
      after = served.new.blocks;
      number = number i;
    }) ∷ inside.calls.past))

pub returns : goal.returns
returns g c = record {
  continues = record {
    way = ap (λ (h : CardHistory). h.way) c.self.view_is;
    calls = calls_seen c.self.view_is (c.then-self-inside.ensures ∙ (λ i. Served (record {
      asked = c.args.wanted.now.asked;
      before = c.of-before.ensures i;
      after = c.serve_told-number.new.blocks;
      number = to_z w32 (of_z w32 c.serve_told-number.result);
    }) ∷ c.self.inside.calls.past));
    served = λ is. ((invariant_of-self g c).1 is).1;
  };
}
