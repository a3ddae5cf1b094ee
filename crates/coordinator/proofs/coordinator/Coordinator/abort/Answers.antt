use Rattle.std.proofs.Common.{inr, ⊎_elim, ℕ, List, [], Contains, refl, sym, subst}
use Rattle.tuples.specs.declared.entry.WriteId.{WriteId}
use Rattle.decisions.specs.Values.{IsAborted}
use Rattle.decisions.specs.Coordinators.{IsDecidedAbove, IsGivenAt}
use Rattle.coordinator.specs.Keeping.{newest_first}
use Rattle.coordinator.proofs.Facts.{aborted_now, decided_above, none_above, remembers_now}
use Rattle.coordinator.proofs.Kept.{kept_open}
use Rattle.coordinator.proofs.OpenIds.{without_none}
use Rattle.coordinator.proofs.coordinator.Coordinator.abort.Goals as goal

pub returns-then-contains-clause-aborted : goal.returns-then-contains-clause-aborted
returns-then-contains-clause-aborted g c = λ running.
    let s = c.self.inside in
    let v = c.args.self.now in
    let r = remembers_now g.D.Device.state g.D.Device.honest s.journal s.me s.ledger s.epoch s.kept s.horizon s.rising s.open_numbers.items s.given c.self.invariant v c.self.view_is running in
    let p = c.if-contains.ensures.found refl in (
      λ is. inr (subst (IsDecidedAbove v) c.id-id.ensures (decided_above v s.ledger s.epoch s.kept s.horizon s.rising r c.id-id.result p.0 p.1)),
      λ cause. refl,
    )

pub new-requires : goal.new-requires
new-requires g c = record {
  aborted = λ ha hb.
      let s = c.self.inside in
      let id = c.id-id.result in
      let numbers = c.close.new.numbers.items in
      let closed : Contains (newest_first s.epoch numbers []) id → ⊥ = λ there. without_none id (newest_first s.epoch s.open_numbers.items []) (subst (λ (l : List WriteId). Contains l id) c.close.ensures.ids there) in
      subst (λ (l : List ℕ). IsAborted g.D.Device.state s.journal s.given l id) (sym c.deref.ensures.value)
      (aborted_now g.D.Device.state g.D.Device.honest s.journal s.me s.ledger s.epoch s.kept s.horizon s.rising s.open_numbers.items s.given c.self.invariant c.args.self.now c.self.view_is (sym c.if-is_down.ensures) ha hb id numbers
      (c.if-contains.ensures.other refl) (λ running. (c.if-not-was_given.ensures running).0 refl) closed);
}

pub invariant_of-self : goal.invariant_of-self
invariant_of-self g c =
    let s = c.self.inside in
    kept_open g.D.Device.state g.D.Device.honest s.journal s.journal s.ledger s.ledger s.epoch s.kept s.horizon s.rising s.open_numbers.items c.close.new.numbers.items s.given c.self.invariant s.given
    (c.close.ensures.given s.given c.self.invariant.numbers_given) c.self.invariant.given_fits

pub returns-clause-aborted : goal.returns-clause-aborted
returns-clause-aborted g c = λ running.
    let s = c.self.inside in
    let v = c.args.self.now in
    let r = remembers_now g.D.Device.state g.D.Device.honest s.journal s.me s.ledger s.epoch s.kept s.horizon s.rising s.open_numbers.items s.given c.self.invariant v c.self.view_is running in
    let given : IsGivenAt v c.args.intent.write.id = subst (IsGivenAt v) c.id-id.ensures ((c.if-not-was_given.ensures running).0 refl) in
    let none : IsDecidedAbove v c.args.intent.write.id → ⊥ = subst (λ (i : WriteId). IsDecidedAbove v i → ⊥) c.id-id.ensures (none_above v s.ledger s.epoch s.kept s.horizon s.rising r c.id-id.result (c.if-contains.ensures.other refl)) in (
      λ is. absurd cc,
      λ cause. ⊎_elim (λ never. absurd (never given)) (λ above. absurd (none above)) cause,
    )
