use Rattle.std.proofs.Common.{◌<◌, ◌∙◌, ◌≡◌, subst, sym}
use Rattle.std.specs.Prelude.{IfSome, Option, slice_index}
use Rattle.mmc_bus.specs.Together.{MovesAtMost}
use Rattle.mmc_bus.specs.declared.moved.Moved.{Moved}
use Rattle.mmc_card.specs.CardAnswer.{Silent}
use Rattle.mmc_card.specs.declared.exchange.DataOut.{DataOut}
use Rattle.mmc_card.specs.declared.exchange.DataOut.TheVariants.{Accepted}
use Rattle.mmc_host.specs.Hosts.{answer_heard}
use Rattle.mmc_card.specs.declared.response.Response.{Response}
use Rattle.c_host.proofs.MovedLemmas.{few_moved, is_other_out, some_failed}
use Rattle.c_host.proofs.WritesLemmas.{none_went, some_went}
use Rattle.c_host.proofs.stream.Stream.write_with.Goals as goal

pub returns-then-not-is_word-clause-writes : goal.returns-then-not-is_word-clause-writes
returns-then-not-is_word-clause-writes g c =
    none_went c.args.command (g.D.Blocks.blocks c.args.blocks.now) c.heard_by-heard.result

pub returns-clause-writes : goal.returns-clause-writes
returns-clause-writes g c =
    some_went c.args.command (g.D.Blocks.blocks c.args.blocks.now) c.heard_by-heard.result
    (λ silent. c.is_word.ensures.heard c.if-not-is_word.false c.args.command.index
    (subst (λ (r : Response). answer_heard r c.args.command.index c.heard_by-heard.result ≡ Silent) c.requires silent))
    c.moved_by.result
    (subst (λ n. MovesAtMost c.moved_by.result n) c.len-count.ensures
    (subst (λ (m : Moved DataOut). MovesAtMost m c.len-count.result) (sym c.moved_by.ensures)
    (few_moved c.refused_by.result c.good_by.result c.len-count.result)))
    (λ got is. let f = some_failed (λ (x : DataOut). x ≡ Accepted → ⊥) c.refused_by.result c.good_by.result c.len-count.result got
    (subst (λ (x : Option DataOut). IfSome x (λ y. y ≡ Accepted → ⊥)) (sym c.refused_by.ensures)
    (is_other_out (slice_index c.send_with-answer.result 18)))
    (sym c.moved_by.ensures ∙ is) in (f.0, subst (λ n. 0 < n) c.len-count.ensures f.1))
