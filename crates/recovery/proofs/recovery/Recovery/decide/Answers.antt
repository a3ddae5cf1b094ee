use Rattle.std.proofs.Common.{◌≡◌, ◌+◌, List, [], ◌∷◌, ◌++◌, Option, Some, None, IfSome, MatchOption, length, length-append, sym, ◌∙◌, ap, ℕ, arith, subst, option_map}
use Rattle.std.proofs.Common.{BTreeMap}
use Rattle.std.specs.BTreeMap.{get}
use Rattle.tuples.specs.declared.change.Change.{Change}
use Rattle.tuples.specs.declared.entry.Entry.{Entry}
use Rattle.tuples.specs.declared.tuple.Tuple.{Tuple}
use Rattle.tuples.specs.Order.{tuple_cmp}
use Rattle.records.specs.Coordinators.{CoordinatorState, MayDecide}
use Rattle.ledger.specs.Ledgers.{LedgerValue}
use Rattle.recovery.specs.declared.latest.LastChange.{LastChange}
use Rattle.recovery.specs.Latest.{AreLatestFrom, IsRecovered, last_change, latest_from}
use Rattle.recovery.proofs.LastChanges.{latest_more}
use Rattle.recovery.proofs.recovery.Recovery.decide.Goals as goal

abbrev Index : Type 0
Index = BTreeMap Tuple LastChange

abbrev told : Option Index → Option (Tuple → Option LastChange)
told o = option_map (λ m t. get tuple_cmp m t) o

-- an index of the log, if one is kept, is one of the log with the write after it
kept_more : (base place : ℕ) (log : List Entry) (w : Entry) (before after : Option Index) → place ≡ base + length log + 1 → IfSome (told before) (λ f. AreLatestFrom (base + 1) f log)
    → MatchOption before (after ≡ None) (λ old. IfSome after (λ new. (t : Tuple) → get tuple_cmp new t ≡ last_change place w.changes t (get tuple_cmp old t)))
    → IfSome (told after) (λ f. AreLatestFrom (base + 1) f (log ++ w ∷ []))
kept_more base place log w None after next was none = subst (λ (o : Option Index). IfSome (told o) (λ f. AreLatestFrom (base + 1) f (log ++ w ∷ []))) (sym none) _
kept_more base place log w (Some old) None next was entered = _
kept_more base place log w (Some old) (Some new) next was entered = λ t.
    entered t ∙ ap (last_change place w.changes t) (was t)
    ∙ ap (λ (n : ℕ). last_change n w.changes t (latest_from (base + 1) log t None)) (let e : place ≡ base + 1 + length log = omega (arith, next) in e)
    ∙ sym (latest_more (base + 1) t w log None)

-- one more decision, entered at its place
recovered_more : (old new : LedgerValue) (before after : Option Index) (horizon epoch place : ℕ) (w : Entry) → IsRecovered old (told before) horizon epoch
    → new ≡ record old { log = old.log ++ w ∷ []; awaited = None } → place ≡ old.base + length old.log + 1
    → MatchOption before (after ≡ None) (λ o. IfSome after (λ n. (t : Tuple) → get tuple_cmp n t ≡ last_change place w.changes t (get tuple_cmp o t)))
    → IsRecovered new (told after) horizon epoch
recovered_more old new before after horizon epoch place w was is next entered = record {
  settled = ap (λ (l : LedgerValue). l.awaited) is;
  latest = subst (λ (l : LedgerValue). IfSome (told after) (λ f. AreLatestFrom (l.base + 1) f l.log)) (sym is) (kept_more old.base place old.log w before after next was.latest entered);
  horizon_behind = let h = was.horizon_behind in omega (arith, h, base);
  horizon_within = let h = was.horizon_within in let len : length new.log ≡ length old.log + 1 = ap length log ∙ length-append old.log (w ∷ []) in omega (arith, h, len, base);
  epoch_fits = was.epoch_fits;
}
  where
    log : new.log ≡ old.log ++ w ∷ []
    log = ap (λ (l : LedgerValue). l.log) is

    base : new.base ≡ old.base
    base = ap (λ (l : LedgerValue). l.base) is

pub invariant_of-result : goal.invariant_of-result
invariant_of-result c =
    let s = c.self.inside in
    let may : MayDecide c.args.self c.args.place c.args.write = c.in_ok-may_decide.ensures.ok.0 c.if-not-branch.false in
    let view : record { base = s.ledger.base; log = s.ledger.log; horizon = s.horizon; epoch = s.epoch } ≡ c.args.self = c.self.view_is ∙ c.may_decide.ensures.same in
    let next : c.args.place ≡ s.ledger.base + length s.ledger.log + 1 = (let n = may.next in let base : c.args.self.base ≡ s.ledger.base = ap (λ (v : CoordinatorState). v.base) (sym view) in let len : length c.args.self.log ≡ length s.ledger.log = ap (λ (v : CoordinatorState). length v.log) (sym view) in omega (arith, n, base, len)) in
    let entered = subst (λ (l : List Change). MatchOption s.latest (c.enter_where_kept.new.latest ≡ None) (λ o. IfSome c.enter_where_kept.new.latest (λ n. (t : Tuple) → get tuple_cmp n t ≡ last_change c.args.place l t (get tuple_cmp o t))))
    c.as_slice.ensures c.in_ok-enter_where_kept.ensures in
    recovered_more s.ledger c.push_reserved.new.self s.latest c.enter_where_kept.new.latest s.horizon s.epoch c.args.place c.args.write c.self.invariant
    (c.push_reserved.ensures ∙ ap (λ (l : LedgerValue). record l { log = l.log ++ c.args.write ∷ []; awaited = None }) c.in_ok-reserve.ensures.ok)
    next entered
