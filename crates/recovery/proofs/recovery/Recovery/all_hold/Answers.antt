use Rattle.std.proofs.Common.{◌≡◌, ◌↔◌, ◌+◌, ◌==◌, ℕ, Bool, List, Option, All, IsTrue, true, sym, ◌∙◌, ap, subst, get_or}
use Rattle.std.specs.BTreeMap.{get}
use Rattle.std.specs.List.{list_all}
use Rattle.std.proofs.lemmas.List.Sums.{AllPass-from_list_all, list_all-from_AllPass}
use Rattle.tuples.specs.declared.change.Condition.{Condition}
use Rattle.tuples.specs.declared.tuple.Tuple.{Tuple}
use Rattle.tuples.specs.Order.{tuple_cmp}
use Rattle.records.specs.Coordinators.{CoordinatorState, HoldsKnown}
use Rattle.recovery.specs.declared.latest.LastChange.{LastChange}
use Rattle.recovery.specs.Latest.{AreLatestFrom, holds_after}
use Rattle.recovery.proofs.LastChanges.{known_by_index}
use Rattle.recovery.proofs.recovery.Recovery.all_hold.Goals as goal

abbrev hold : (Tuple → Option LastChange) → Bool → Condition → Bool
hold at are_all c = holds_after are_all c.want (at c.tuple)

known_by_all : (at : Tuple → Option LastChange) (s : CoordinatorState) (cs : List Condition) → AreLatestFrom (s.base + 1) at s.log → (list_all (hold at (s.base == 0)) cs ≡ true) ↔ All (HoldsKnown s) cs
known_by_all at s cs latest = (
  (λ all k d lt. (known_by_index at s (get_or cs k d) latest).0 (AllPass-from_list_all (hold at (s.base == 0)) cs all k d lt)),
  (λ all. list_all-from_AllPass (hold at (s.base == 0)) cs (λ k d lt. (known_by_index at s (get_or cs k d) latest).1 (all k d lt))),
)

pub returns-clause-ok : goal.returns-clause-ok
returns-clause-ok c =
    let s = c.self.inside in
    let at : Tuple → Option LastChange = λ t. get tuple_cmp c.in_ok-latest.latest t in
    let v : CoordinatorState = record { base = s.ledger.base; log = s.ledger.log; horizon = s.horizon; epoch = s.epoch } in
    let both = known_by_all at v c.args.conditions.now c.in_ok-latest.ensures in
    let same : c.all_hold-all.result ≡ list_all (hold at (s.ledger.base == 0)) c.args.conditions.now =
    c.all_hold-all.ensures ∙ ap (λ (n : ℕ). list_all (hold at (n == 0)) c.args.conditions.now) c.base.ensures in
    subst (λ (x : CoordinatorState). IsTrue c.all_hold-all.result ↔ All (HoldsKnown x) c.args.conditions.now) c.self.view_is
    ((λ is. both.0 (sym same ∙ is)), (λ all. same ∙ both.1 all))
