-- An exchange of a card after a fault was planned for it is one of the card as it was before.
use Rattle.std.proofs.Common.{[], ap, refl, subst, sym, ◌∙◌, ◌∷◌, ◌≡◌, List, ℕ}
use Rattle.std.specs.Prelude.{Option, min, ◌+◌, ◌-◌, ◌^◌}
use Rattle.mmc_card.specs.BusView.{BusView}
use Rattle.mmc_card.specs.Card.{IsCard}
use Rattle.mmc_card.specs.Faults.{FallNoMore}
use Rattle.mmc_card.specs.declared.exchange.Exchange.{Exchange}
use Rattle.mmc_bus.specs.Exchanges.{Exchanged}
use Rattle.mmc_card_sim.specs.Plan.{fault_at}
use Rattle.mmc_card_sim.specs.SimView.{SimView, planned_fault, sim_bus_view}
use Rattle.mmc_card_sim.specs.declared.fault.Fault.{Fault}
use Rattle.card_rules.specs.RuledCards.{Prepares, may_fall_by, planned_between, ruled_view}
use Rattle.card_rules.specs.declared.rule.Rule.{Rule}
use Rattle.card_rules.specs.declared.ruled_card.RuledCard.{RuledCard}
use Rattle.card_rules.specs.declared.rules.Rules.{Rules}

-- what is seen of the card alone with these rules
abbrev pub seen : List Rule → SimView → BusView
seen rules card = record (sim_bus_view card) { may_fall = may_fall_by rules card }

bounded_by : (rules : List Rule) (old mid new : SimView) → mid ≡ record old { plan = mid.plan }
    → (rules ≡ [] → mid.plan ≡ old.plan) → FallNoMore (sim_bus_view mid) (sim_bus_view new)
    → FallNoMore (seen rules old) (seen rules new)
bounded_by [] old mid new is unruled bounded =
    subst (λ (m : SimView). FallNoMore (sim_bus_view m) (sim_bus_view new))
    (is ∙ ap (λ p. record old { plan = p }) (unruled refl)) bounded
bounded_by (rule ∷ rules) old mid new is unruled bounded = λ most none. none

-- an exchange as the card says it, without its own bound
pub ruled : (rules : List Rule) (old mid new : SimView) (exchange : Exchange) (Step : BusView → BusView → Type 0)
    → mid ≡ record old { plan = mid.plan } → (rules ≡ [] → mid.plan ≡ old.plan)
    → ((a b : Option ℕ) → Step (sim_bus_view mid) (sim_bus_view new)
    → Step (record (sim_bus_view mid) { may_fall = a }) (record (sim_bus_view new) { may_fall = b }))
    → Exchanged (sim_bus_view mid) exchange (Step (sim_bus_view mid) (sim_bus_view new)) (sim_bus_view new)
    → Exchanged (seen rules old) exchange (Step (seen rules old) (seen rules new)) (seen rules new)
ruled rules old mid new exchange Step is unruled step e =
    record {
      lines = e.lines ∙ ap (λ (m : SimView). m.wire.lines) is;
      limits = e.limits ∙ ap (λ (m : SimView). m.wire.limits) is;
      last = e.last;
      exchanges = e.exchanges ∙ ap (λ (m : SimView). min (m.wire.exchanges + 1) (2 ^ 64 - 1)) is;
      kept = λ k.
          let was = e.kept k in
          record {
            was_kept = refl;
            was_card = subst (λ (m : SimView). IsCard m.card) is was.was_card;
            step = subst (λ (m : SimView). Step (record (sim_bus_view m) { may_fall = may_fall_by rules old }) (seen rules new)) is
                (step (may_fall_by rules old) (may_fall_by rules new) was.step);
            is_card = was.is_card;
            bounded = bounded_by rules old mid new is unruled was.bounded;
          };
    }

-- the same of a card with its rules, after it was prepared
pub exchanged : (old mid last : RuledCard) (new : SimView) (exchange : Exchange) (Step : BusView → BusView → Type 0)
    → Prepares old mid → last.card ≡ new → last.rules ≡ mid.rules
    → ((a b : Option ℕ) → Step (sim_bus_view mid.card) (sim_bus_view new)
    → Step (record (sim_bus_view mid.card) { may_fall = a }) (record (sim_bus_view new) { may_fall = b }))
    → Exchanged (sim_bus_view mid.card) exchange (Step (sim_bus_view mid.card) (sim_bus_view new)) (sim_bus_view new)
    → Exchanged (ruled_view old) exchange (Step (ruled_view old) (ruled_view last)) (ruled_view last)
exchanged old mid last new exchange Step prepared is_new same step e =
    let rules = old.rules.rules.items in
    let is_rules : last.rules.rules.items ≡ rules =
    ap (λ (r : Rules). r.rules.items) same ∙ (λ i. (prepared.plans.rules i).items) in
    subst (λ (card : SimView). Exchanged (ruled_view old) exchange (Step (ruled_view old) (seen last.rules.rules.items card))
    (seen last.rules.rules.items card)) (sym is_new)
    (subst (λ rs. Exchanged (ruled_view old) exchange (Step (ruled_view old) (seen rs new)) (seen rs new)) (sym is_rules)
    (ruled rules old.card mid.card new exchange Step prepared.plans.card prepared.unruled step e))

-- what is planned for an exchange after a card was prepared is what falls in it
pub falls_as : (old mid new last : SimView) → mid ≡ record old { plan = mid.plan } → new.plan ≡ mid.plan → last ≡ new
    → (Does : Option Fault → SimView → SimView → Type 0)
    → (Does (fault_at mid.plan old.wire.exchanges) (record old { plan = mid.plan }) new
    → Does (fault_at mid.plan old.wire.exchanges) old new)
    → Does (planned_fault mid) mid new → Does (planned_between old last) old last
falls_as old mid new last is same is_last Does free does =
    subst (λ (n : SimView). Does (planned_between old n) old n) (sym is_last)
    (subst (λ p. Does (fault_at p old.wire.exchanges) old new) (sym same)
    (free (subst (λ (m : SimView). Does (fault_at mid.plan m.wire.exchanges) m new) is does)))

-- without rules it is seen as the card alone
pub plain : (rules : List Rule) (card : SimView) → rules ≡ [] → seen rules card ≡ sim_bus_view card
plain rules card none = ap (λ (rs : List Rule). seen rs card) none
