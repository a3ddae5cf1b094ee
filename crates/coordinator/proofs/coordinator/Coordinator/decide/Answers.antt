use Rattle.std.proofs.Common.{◌≡◌, ◌++◌, ◌∷◌, inr, ⊎_elim, [], None, Contains, ◌∙◌, refl, sym, ap, subst, arith}
use Rattle.tuples.specs.declared.entry.Entry.{Entry}
use Rattle.tuples.specs.declared.entry.WriteId.{WriteId}
use Rattle.refusal.specs.declared.refusal.Refusal.TheVariants.{Aborted, Full, NoMemory}
use Rattle.ledger.specs.Ledgers.{LedgerValue}
use Rattle.decisions.specs.Values.{IsIntent}
use Rattle.decisions.specs.Coordinators.{CoordinatorView, DecidesAt, IsDecidedAbove, without_id}
use Rattle.coordinator.specs.Keeping.{newest_first}
use Rattle.coordinator.proofs.Calls.{decided_view, runs_on}
use Rattle.coordinator.proofs.Facts.{decided_above, none_above, remembers_now, view_of}
use Rattle.coordinator.proofs.Kept.{kept_decided}
use Rattle.coordinator.proofs.OpenIds.{open_numbers}
use Rattle.coordinator.proofs.coordinator.Coordinator.decide.Goals as goal

pub returns-then-contains-clause-aborted : goal.returns-then-contains-clause-aborted
returns-then-contains-clause-aborted g c = λ running.
    let s = c.self.inside in
    let v = c.args.self.now in
    let r = remembers_now g.D.Device.state g.D.Device.honest s.journal s.me s.ledger s.epoch s.kept s.horizon s.rising s.open_numbers.items s.given c.self.invariant v c.self.view_is running in
    let p = c.if-contains.ensures.found refl in (
      λ is. inr (subst (IsDecidedAbove v) c.id-id.ensures (decided_above v s.ledger s.epoch s.kept s.horizon s.rising r c.id-id.result p.0 p.1)),
      λ cause. c.spent-then-contains.ensures.0,
    )

pub invariant_of-self : goal.invariant_of-self
invariant_of-self g c =
    let s = c.self.inside in
    kept_decided g.D.Device.state g.D.Device.honest s.journal c.list.new.journal s.ledger c.list.new.ledger s.epoch s.kept s.horizon s.rising s.open_numbers.items c.close.new.numbers.items s.given c.self.invariant
    c.in-Ok.place c.into_entry.result c.list.ensures.staged
    (c.list.ensures.listed ∙ ap (λ (l : LedgerValue). record l { log = l.log ++ c.into_entry.result ∷ []; awaited = None }) c.in-Ok.ensures.ledger)
    (c.close.ensures.given s.given c.self.invariant.numbers_given)

pub returns-in-Ok-clause-ok : goal.returns-in-Ok-clause-ok
returns-in-Ok-clause-ok g c = λ running.
    let s = c.self.inside in
    let v = c.args.self.now in
    let k = c.list.new.journal in
    let x = c.into_entry.result in
    let r = remembers_now g.D.Device.state g.D.Device.honest s.journal s.me s.ledger s.epoch s.kept s.horizon s.rising s.open_numbers.items s.given c.self.invariant v c.self.view_is running in
    let is : x ≡ c.args.intent.write = c.into_entry.ensures.value in
    let id : c.id-id.result ≡ x.id = c.id-id.ensures ∙ ap (λ (w : Entry). w.id) (sym is) in
    let there : Contains v.open_ids x.id = subst (Contains v.open_ids) id (c.if-not-is_open.ensures.0 refl) in
    let own : x.id.epoch ≡ s.epoch = (open_numbers s.epoch x.id s.open_numbers.items (subst (λ (w : CoordinatorView g.row.D.Denot). Contains w.open_ids x.id) (sym c.self.view_is) there)).0 in
    let place = c.in-Ok.ensures.place.0 in
    let end = r.end_is in
    let ids = c.close.ensures.ids ∙ ap (λ (i : WriteId). without_id i (newest_first s.epoch s.open_numbers.items [])) id in
    let decided : DecidesAt v x (record { place = c.in-Ok.place; epoch = s.epoch }) (view_of k s.me s.epoch c.close.new.numbers.items s.given) = record {
      was_up = running.up;
      is_open = there;
      whole = subst IsIntent (sym is) c.into_entry.ensures.whole;
      own_epoch = own ∙ sym r.epoch_is;
      place = omega (arith, place, end);
      place_fits = c.in-Ok.ensures.place.1;
      epoch = sym r.epoch_is;
      new_is = decided_view g.D.Device.state g.D.Device.honest s.journal k s.me s.epoch s.open_numbers.items c.close.new.numbers.items s.given s.given v c.self.view_is c.in-Ok.place x c.list.ensures.staged ids;
    } in (
      subst (λ (w : Entry). DecidesAt v w (record { place = c.in-Ok.place; epoch = s.epoch }) (view_of k s.me s.epoch c.close.new.numbers.items s.given)) is decided,
      runs_on g.D.Device.state g.D.Device.honest s.journal k s.me s.epoch s.open_numbers.items c.close.new.numbers.items s.given s.given v c.self.view_is _ c.list.ensures.staged running,
    )

pub returns-in-Err-clause-aborted : goal.returns-in-Err-clause-aborted
returns-in-Err-clause-aborted g c = λ running.
    let s = c.self.inside in
    let v = c.args.self.now in
    let r = remembers_now g.D.Device.state g.D.Device.honest s.journal s.me s.ledger s.epoch s.kept s.horizon s.rising s.open_numbers.items s.given c.self.invariant v c.self.view_is running in
    let there : Contains v.open_ids c.args.intent.write.id = subst (Contains v.open_ids) c.id-id.ensures (c.if-not-is_open.ensures.0 refl) in
    let none : IsDecidedAbove v c.args.intent.write.id → ⊥ = subst (λ (i : WriteId). IsDecidedAbove v i → ⊥) c.id-id.ensures (none_above v s.ledger s.epoch s.kept s.horizon s.rising r c.id-id.result (c.if-contains.ensures.other refl)) in (
      λ is. ⊎_elim
          (λ full. absurd (let e : Aborted ≡ Full = sym is ∙ full.0 in cc))
          (λ memory. absurd (let e : Aborted ≡ NoMemory = sym is ∙ memory.0 in cc))
          c.in-Err.ensures.err.1,
      λ cause. ⊎_elim (λ closed. absurd (closed there)) (λ above. absurd (none above)) cause,
    )
