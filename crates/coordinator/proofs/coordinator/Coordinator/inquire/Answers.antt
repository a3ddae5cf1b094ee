use Rattle.std.proofs.Common.{◌≡◌, inl, inr, ℕ, List, [], Contains, ◌∙◌, refl, sym, ap, subst}
use Rattle.decisions.specs.Values.{IsAborted}
use Rattle.decisions.specs.Coordinators.{CoordinatorView, FindsAt, IsGivenAt}
use Rattle.coordinator.specs.Keeping.{newest_first}
use Rattle.coordinator.proofs.Facts.{aborted_now, finds_at, finds_none, finds_staged, finds_waiting, remembers_now}
use Rattle.coordinator.proofs.coordinator.Coordinator.inquire.Goals as goal

pub returns-then-place-self-clause-commit : goal.returns-then-place-self-clause-commit
returns-then-place-self-clause-commit g c = λ place running is.
    let s = c.self.inside in
    let v = c.args.self.now in
    let r = remembers_now g.D.Device.state g.D.Device.honest s.journal s.me s.ledger s.epoch s.kept s.horizon s.rising s.open_numbers.items s.given c.self.invariant v c.self.view_is running in
    let same : c.in-Some.place ≡ place = cc in
    subst (FindsAt v c.args.id) same (finds_at v s.ledger s.epoch s.kept s.horizon s.rising r c.args.id running.up c.in-Some.place c.in-Some.ensures c.if-place-self.true)

pub returns-else-place-self-clause-undecided : goal.returns-else-place-self-clause-undecided
returns-else-place-self-clause-undecided g c = λ running is.
    let s = c.self.inside in
    let v = c.args.self.now in
    let r = remembers_now g.D.Device.state g.D.Device.honest s.journal s.me s.ledger s.epoch s.kept s.horizon s.rising s.open_numbers.items s.given c.self.invariant v c.self.view_is running in
    finds_staged v s.ledger s.epoch s.kept s.horizon s.rising r c.args.id running.up c.in-Some.place c.in-Some.ensures c.if-place-self.false

pub returns-then-is_open-clause-undecided : goal.returns-then-is_open-clause-undecided
returns-then-is_open-clause-undecided g c = λ running is.
    let s = c.self.inside in
    let v = c.args.self.now in
    let r = remembers_now g.D.Device.state g.D.Device.honest s.journal s.me s.ledger s.epoch s.kept s.horizon s.rising s.open_numbers.items s.given c.self.invariant v c.self.view_is running in
    finds_waiting v s.ledger s.epoch s.kept s.horizon s.rising r c.args.id running.up c.in-None.ensures (inl (c.if-is_open.ensures.0 refl))

pub returns-then-not-was_given-clause-undecided : goal.returns-then-not-was_given-clause-undecided
returns-then-not-was_given-clause-undecided g c = λ running is.
    let s = c.self.inside in
    let v = c.args.self.now in
    let r = remembers_now g.D.Device.state g.D.Device.honest s.journal s.me s.ledger s.epoch s.kept s.horizon s.rising s.open_numbers.items s.given c.self.invariant v c.self.view_is running in
    finds_waiting v s.ledger s.epoch s.kept s.horizon s.rising r c.args.id running.up c.in-None.ensures (inr (λ given. absurd (let t = (c.if-not-was_given.ensures running).1 given in cc)))

pub new-verdict-requires : goal.new-verdict-requires
new-verdict-requires g c = record {
  aborted = λ ha hb.
      let s = c.self.inside in
      let closed : Contains (newest_first s.epoch s.open_numbers.items []) c.args.id → ⊥ = λ there.
      absurd (let t = c.if-is_open.ensures.1 (subst (λ (w : CoordinatorView g.row.D.Denot). Contains w.open_ids c.args.id) c.self.view_is there) in cc) in
      subst (λ (l : List ℕ). IsAborted g.D.Device.state s.journal s.given l c.args.id) (sym c.deref.ensures.value)
      (aborted_now g.D.Device.state g.D.Device.honest s.journal s.me s.ledger s.epoch s.kept s.horizon s.rising s.open_numbers.items s.given c.self.invariant c.args.self.now c.self.view_is (sym c.if-is_down.ensures) ha hb c.args.id s.open_numbers.items c.in-None.ensures (λ running. (c.if-not-was_given.ensures running).0 refl) closed);
}

pub returns-else-not-was_given-clause-abort : goal.returns-else-not-was_given-clause-abort
returns-else-not-was_given-clause-abort g c = λ told running is.
    let s = c.self.inside in
    let v = c.args.self.now in
    let r = remembers_now g.D.Device.state g.D.Device.honest s.journal s.me s.ledger s.epoch s.kept s.horizon s.rising s.open_numbers.items s.given c.self.invariant v c.self.view_is running in
    let same : c.new-verdict.result ≡ told = cc in
    let given : IsGivenAt v c.args.id = (c.if-not-was_given.ensures running).0 refl in
    let closed : Contains v.open_ids c.args.id → ⊥ = λ there. absurd (let t = c.if-is_open.ensures.1 there in cc) in
    let id : told.id ≡ c.args.id = ap (λ d. d.id) (sym same) ∙ ap (λ d. d.id) c.new-verdict.ensures in
    (id, finds_none v s.ledger s.epoch s.kept s.horizon s.rising r c.args.id running.up c.in-None.ensures closed given)
