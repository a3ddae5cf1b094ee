use Rattle.std.proofs.Common.{◌≡◌, ◌+◌, ◌++◌, ◌∷◌, ⊎_elim, ℕ, List, [], All, ◌∙◌, refl, sym, ap, subst, arith}
use Rattle.std.proofs.lemmas.Result.{err_from_is_err_and}
use Rattle.tuples.specs.declared.change.Condition.{Condition}
use Rattle.refusal.specs.declared.refusal.Refusal.TheVariants.{Collected, Future}
use Rattle.records.specs.Coordinators.{end_of}
use Rattle.decisions.specs.Coordinators.{FirstIs, IsInRange, NamesCollected, NamesFuture, kept_of, memory_of}
use Rattle.coordinator.specs.Keeping.{IsGivenNumber}
use Rattle.coordinator.proofs.Calls.{all_in_range, begun_view, end_now, first_collected, first_future, has_an_id, has_no_id, still_running}
use Rattle.coordinator.proofs.Facts.{remembers_now, view_of}
use Rattle.coordinator.proofs.Kept.{given_more, kept_open}
use Rattle.coordinator.proofs.coordinator.Coordinator.begin.Goals as goal

pub returns-in_err-test-clause-future : goal.returns-in_err-test-clause-future
returns-in_err-test-clause-future g c = λ running is.
    let s = c.self.inside in
    let v = c.args.self.now in
    let r = remembers_now g.D.Device.state g.D.Device.honest s.journal s.me s.ledger s.epoch s.kept s.horizon s.rising s.open_numbers.items s.given c.self.invariant v c.self.view_is running in
    let end : c.end.result ≡ end_of (memory_of v) = c.end.ensures.value ∙ end_now v s.ledger s.epoch s.kept s.horizon s.rising r in
    let horizon : s.horizon ≡ (kept_of v).horizon = sym r.horizon_is in
    let conditions : c.conditions.result.now ≡ c.args.write.conditions = c.conditions.ensures in
    let p = err_from_is_err_and c.from_residual.result c.from_residual.ensures.1 in
    let same : c.in_err-test.field-0.0 ≡ Future = (let e = rw (p.1, p.2) at is in cc) in
    ⊎_elim
    (λ first. subst (λ (cs : List Condition). FirstIs v cs (NamesFuture v)) conditions (first_future v c.end.result s.horizon end horizon c.conditions.result.now first.1))
    (λ other. absurd (let e : Collected ≡ Future = sym other.0 ∙ same in cc))
    c.in_err-test.ensures.err

pub returns-in_err-test-clause-collected : goal.returns-in_err-test-clause-collected
returns-in_err-test-clause-collected g c = λ running is.
    let s = c.self.inside in
    let v = c.args.self.now in
    let r = remembers_now g.D.Device.state g.D.Device.honest s.journal s.me s.ledger s.epoch s.kept s.horizon s.rising s.open_numbers.items s.given c.self.invariant v c.self.view_is running in
    let end : c.end.result ≡ end_of (memory_of v) = c.end.ensures.value ∙ end_now v s.ledger s.epoch s.kept s.horizon s.rising r in
    let horizon : s.horizon ≡ (kept_of v).horizon = sym r.horizon_is in
    let conditions : c.conditions.result.now ≡ c.args.write.conditions = c.conditions.ensures in
    let p = err_from_is_err_and c.from_residual.result c.from_residual.ensures.1 in
    let same : c.in_err-test.field-0.0 ≡ Collected = (let e = rw (p.1, p.2) at is in cc) in
    ⊎_elim
    (λ other. absurd (let e : Future ≡ Collected = sym other.0 ∙ same in cc))
    (λ first. subst (λ (cs : List Condition). FirstIs v cs (NamesCollected v)) conditions (first_collected v c.end.result s.horizon end horizon c.conditions.result.now first.1))
    c.in_err-test.ensures.err

pub returns-then-not-has_id-clause-full : goal.returns-then-not-has_id-clause-full
returns-then-not-has_id-clause-full g c = λ running is.
    let s = c.self.inside in
    let v = c.args.self.now in
    let r = remembers_now g.D.Device.state g.D.Device.honest s.journal s.me s.ledger s.epoch s.kept s.horizon s.rising s.open_numbers.items s.given c.self.invariant v c.self.view_is running in
    let end : c.end.result ≡ end_of (memory_of v) = c.end.ensures.value ∙ end_now v s.ledger s.epoch s.kept s.horizon s.rising r in
    let horizon : s.horizon ≡ (kept_of v).horizon = sym r.horizon_is in
    let conditions : c.conditions.result.now ≡ c.args.write.conditions = c.conditions.ensures in (
      subst (All (IsInRange v)) conditions (all_in_range v c.end.result s.horizon end horizon c.conditions.result.now c.in_ok-test.ensures.ok),
      has_no_id g.D.Device.state g.D.Device.honest s.journal s.journal s.me s.epoch s.open_numbers.items s.open_numbers.items s.given s.given v c.self.view_is c.len.result (c.len.ensures ∙ s.open_numbers.ok.0) (c.if-not-has_id.ensures.no refl),
    )

pub returns-in_err-reserve-clause-memory : goal.returns-in_err-reserve-clause-memory
returns-in_err-reserve-clause-memory g c = λ running is.
    let s = c.self.inside in
    let v = c.args.self.now in
    let r = remembers_now g.D.Device.state g.D.Device.honest s.journal s.me s.ledger s.epoch s.kept s.horizon s.rising s.open_numbers.items s.given c.self.invariant v c.self.view_is running in
    let end : c.end.result ≡ end_of (memory_of v) = c.end.ensures.value ∙ end_now v s.ledger s.epoch s.kept s.horizon s.rising r in
    let horizon : s.horizon ≡ (kept_of v).horizon = sym r.horizon_is in
    let conditions : c.conditions.result.now ≡ c.args.write.conditions = c.conditions.ensures in
    let room = c.if-not-has_id.ensures.yes refl in (
      subst (All (IsInRange v)) conditions (all_in_range v c.end.result s.horizon end horizon c.conditions.result.now c.in_ok-test.ensures.ok),
      has_an_id g.D.Device.state g.D.Device.honest s.journal s.journal s.me s.epoch s.open_numbers.items s.open_numbers.items s.given s.given v c.self.view_is c.len.result (c.len.ensures ∙ s.open_numbers.ok.0) room.0 room.1,
    )

pub invariant_of-self-2 : goal.invariant_of-self-2
invariant_of-self-2 g c =
    let s = c.self.inside in
    let room = c.if-not-has_id.ensures.yes refl in
    let less = room.1 in
    let items : c.push_reserved.new.self.items ≡ s.open_numbers.items ++ (s.given + 1) ∷ [] = c.push_reserved.ensures.items ∙ ap (λ (l : List ℕ). l ++ (s.given + 1) ∷ []) c.in_ok-reserve.ensures.items in
    kept_open g.D.Device.state g.D.Device.honest s.journal s.journal s.ledger s.ledger s.epoch s.kept s.horizon s.rising s.open_numbers.items c.push_reserved.new.self.items s.given c.self.invariant (s.given + 1)
    (subst (All (IsGivenNumber (s.given + 1))) (sym items) (given_more s.given (s.given + 1) s.open_numbers.items c.self.invariant.numbers_given refl)) (omega (arith, less))

pub returns-clause-ok : goal.returns-clause-ok
returns-clause-ok g c = λ running.
    let s = c.self.inside in
    let v = c.args.self.now in
    let r = remembers_now g.D.Device.state g.D.Device.honest s.journal s.me s.ledger s.epoch s.kept s.horizon s.rising s.open_numbers.items s.given c.self.invariant v c.self.view_is running in
    let end : c.end.result ≡ end_of (memory_of v) = c.end.ensures.value ∙ end_now v s.ledger s.epoch s.kept s.horizon s.rising r in
    let horizon : s.horizon ≡ (kept_of v).horizon = sym r.horizon_is in
    let conditions : c.conditions.result.now ≡ c.args.write.conditions = c.conditions.ensures in
    let room = c.if-not-has_id.ensures.yes refl in
    let kept = r.kept_is in
    let own : s.epoch ≡ (memory_of v).epoch = sym r.epoch_is in
    let number : s.given ≡ v.given = ap (λ x. x.given) c.self.view_is in
    let items : c.push_reserved.new.self.items ≡ s.open_numbers.items ++ (s.given + 1) ∷ [] = c.push_reserved.ensures.items ∙ ap (λ (l : List ℕ). l ++ (s.given + 1) ∷ []) c.in_ok-reserve.ensures.items in (
      record {
        was_up = running.up;
        in_range = subst (All (IsInRange v)) conditions (all_in_range v c.end.result s.horizon end horizon c.conditions.result.now c.in_ok-test.ensures.ok);
        has_id = has_an_id g.D.Device.state g.D.Device.honest s.journal s.journal s.me s.epoch s.open_numbers.items s.open_numbers.items s.given s.given v c.self.view_is c.len.result (c.len.ensures ∙ s.open_numbers.ok.0) room.0 room.1;
        write = c.begin-intent.ensures.write
            ∙ ap (λ (e : ℕ). record { id = record { epoch = e; number = s.given + 1 }; changes = c.args.write.changes; conditions = c.args.write.conditions }) own
            ∙ ap (λ (n : ℕ). record { id = record { epoch = (memory_of v).epoch; number = n + 1 }; changes = c.args.write.changes; conditions = c.args.write.conditions }) number;
        kept = c.begin-intent.ensures.kept ∙ sym kept;
        new_is = ap (λ (l : List ℕ). view_of s.journal s.me s.epoch l (s.given + 1)) items
            ∙ begun_view g.D.Device.state g.D.Device.honest s.journal s.journal s.me s.epoch s.open_numbers.items s.open_numbers.items s.given (s.given + 1) v c.self.view_is refl own;
      },
      still_running g.D.Device.state g.D.Device.honest s.journal s.journal s.me s.epoch s.open_numbers.items c.push_reserved.new.self.items s.given (s.given + 1) v c.self.view_is running,
    )
