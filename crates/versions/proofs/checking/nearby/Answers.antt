use Rattle.tuples.specs.Order.{tuple_cmp}
use Rattle.std.proofs.Common.{◌≡◌, ◌++◌, ◌∷◌, [], ◌&&◌, true, false, List, filter, sym, ap, subst, ◌∙◌, append-nil, append_assoc, rules}
use Rattle.std.specs.Ordering.{is_le}
use Rattle.tuples.specs.declared.tuple.Tuple.{Tuple}
use Rattle.tuples.specs.Checking.{holding}
use Rattle.tuples.specs.Versions.{there_at}
use Rattle.tuples.specs.Walking.{meets_check}
use Rattle.versions.specs.Rows.{IsPicked, is_one_of, is_own_or_set, listed, versions_of}
use Rattle.versions.specs.declared.history.Row.{Row}
use Rattle.versions.proofs.Asked.{asked_of, selection_from, unasked_of}
use Rattle.versions.proofs.Counted.{counted_more, counted_none}
use Rattle.versions.proofs.Firsts.{check_before, check_within}
use Rattle.versions.proofs.Selected.{IsWalk, from_low, keeps_first, kept_from_first, kept_of, kept_selection, low_from, none_past, passes_first, skips_first, walk_from, walk_rest}
use Rattle.versions.proofs.Tables.{Entries}
use Rattle.versions.proofs.checking.nearby.Goals as goal

pub loop-tuple-init : goal.loop-tuple-init
loop-tuple-init g c =
    let place = c.args.place in
    let x = c.args.userset.now in
    let u = c.args.user.now in
    let first = holding x u in
    let es : Entries = c.args.table.now.entries in
    let is : c.in_ok-first.first ≡ first = search rules in
    let given : c.into_iter-tuple-iterator.result ≡ filter (λ e. is_le (tuple_cmp c.in_ok-first.first e.0) && true) es = c.into_iter-tuple-iterator.ensures.into_iter_gives ∙ c.range-tuple-items.ensures.between tt in
    let gives : c.into_iter-tuple-iterator.result ≡ filter (λ e. is_le (tuple_cmp first e.0) && true) es = given ∙ ap (λ (f : Tuple). filter (λ e. is_le (tuple_cmp f e.0) && true) es) is in (
      subst (IsWalk first) (sym gives) (walk_from first (λ t. is_le (tuple_cmp first t) && true) (low_from first) es c.requires.table.in_order),
      ap (λ (l : List Tuple). l ++ kept_of place (meets_check x u) c.into_iter-tuple-iterator.result) c.new-tuples.ensures.items
          ∙ ap (λ (l : Entries). kept_of place (meets_check x u) l) gives
          ∙ kept_from_first place (meets_check x u) (λ t. is_le (tuple_cmp first t) && true) (λ t spelled has. from_low first t (check_before x u c.requires.plain t has)) es c.requires.table.spelled,
      counted_none c.new-tuples.result.items _ c.new-tuples.ensures.items,
    )

pub returns-then-not-is_of-clause-rows : goal.returns-then-not-is_of-clause-rows
returns-then-not-is_of-clause-rows g c =
    let place = c.args.place in
    let x = c.args.userset.now in
    let u = c.args.user.now in
    let q = meets_check x u in
    let t = c.in-Some.tuple.now in
    let h = c.in-Some.rows.now in
    let rest : Entries = c.next.new.self in
    let items : List Tuple = c.loop-tuple.tuples.items in
    let cut : c.loop-tuple.tuple-iterator ≡ (t, h) ∷ rest = search rules in
    let out : is_one_of x t ≡ false = search rules in
    let none : kept_of place q c.loop-tuple.tuple-iterator ≡ [] = ap (λ (l : Entries). kept_of place q l) cut
    ∙ none_past place q (is_one_of x) (holding x u) t h rest (check_within x u) (unasked_of x u t out) (subst (IsWalk (holding x u)) cut c.loop-tuple.invariant.0) out in
    let all : items ≡ kept_of place q c.args.table.now.entries = sym (append-nil items) ∙ ap (λ (l : List Tuple). items ++ l) (sym none) ∙ c.loop-tuple.invariant.1 in
    selection_from (there_at (listed c.args.table.now.entries) place) x u items
    (subst (IsPicked (there_at (listed c.args.table.now.entries) place) q) (sym all) (kept_selection place q c.args.table.now.entries c.requires.table.in_order))

pub returns-clause-rows : goal.returns-clause-rows
returns-clause-rows g c =
    let place = c.args.place in
    let x = c.args.userset.now in
    let u = c.args.user.now in
    let q = meets_check x u in
    let items : List Tuple = c.loop-tuple.tuples.items in
    let all : items ≡ kept_of place q c.args.table.now.entries = sym (append-nil items) ∙ ap (λ (l : Entries). items ++ kept_of place q l) (sym c.in-None.ensures.steps.0) ∙ c.loop-tuple.invariant.1 in
    selection_from (there_at (listed c.args.table.now.entries) place) x u items
    (subst (IsPicked (there_at (listed c.args.table.now.entries) place) q) (sym all) (kept_selection place q c.args.table.now.entries c.requires.table.in_order))

pub loop-tuple-preserved-in_ok-push : goal.loop-tuple-preserved-in_ok-push
loop-tuple-preserved-in_ok-push g c =
    let place = c.args.place in
    let x = c.args.userset.now in
    let u = c.args.user.now in
    let q = meets_check x u in
    let t = c.in-Some.tuple.now in
    let h = c.in-Some.rows.now in
    let rest : Entries = c.next.new.self in
    let items : List Tuple = c.loop-tuple.tuples.items in
    let cut : c.loop-tuple.tuple-iterator ≡ (t, h) ∷ rest = search rules in
    let own : is_one_of x t ≡ true = search rules in
    let asked : is_own_or_set u t ≡ true = search rules in
    let has : q t ≡ true = asked_of x u t own ∙ asked in
    let there : there_at (versions_of t h) place t ≡ true = ap (λ (l : List Row). there_at (versions_of t l) place t) (sym c.lent.ensures) ∙ sym (c.is_there_at.ensures.there t) ∙ c.if-is_there_at.true in
    let pushed : c.push.new.self.items ≡ items ++ t ∷ [] = search rules in (
      walk_rest (holding x u) t h rest (subst (IsWalk (holding x u)) cut c.loop-tuple.invariant.0),
      ap (λ (l : List Tuple). l ++ kept_of place q rest) pushed
          ∙ append_assoc items (t ∷ []) (kept_of place q rest)
          ∙ ap (λ (l : List Tuple). items ++ l) (sym (keeps_first place q t h rest has there))
          ∙ ap (λ (l : Entries). items ++ kept_of place q l) (sym cut)
          ∙ c.loop-tuple.invariant.1,
      counted_more items c.push.new.self.items t _ _ _ pushed c.in_ok-copy.ensures.counted c.loop-tuple.invariant.2,
    )

pub loop-tuple-preserved-else-is_there_at : goal.loop-tuple-preserved-else-is_there_at
loop-tuple-preserved-else-is_there_at g c =
    let place = c.args.place in
    let x = c.args.userset.now in
    let u = c.args.user.now in
    let q = meets_check x u in
    let t = c.in-Some.tuple.now in
    let h = c.in-Some.rows.now in
    let rest : Entries = c.next.new.self in
    let items : List Tuple = c.loop-tuple.tuples.items in
    let cut : c.loop-tuple.tuple-iterator ≡ (t, h) ∷ rest = search rules in
    let gone : there_at (versions_of t h) place t ≡ false = ap (λ (l : List Row). there_at (versions_of t l) place t) (sym c.lent.ensures) ∙ sym (c.is_there_at.ensures.there t) ∙ c.if-is_there_at.false in (
      walk_rest (holding x u) t h rest (subst (IsWalk (holding x u)) cut c.loop-tuple.invariant.0),
      ap (λ (l : List Tuple). items ++ l) (sym (skips_first place q t h rest gone)) ∙ ap (λ (l : Entries). items ++ kept_of place q l) (sym cut) ∙ c.loop-tuple.invariant.1,
      c.loop-tuple.invariant.2,
    )

pub loop-tuple-preserved : goal.loop-tuple-preserved
loop-tuple-preserved g c =
    let place = c.args.place in
    let x = c.args.userset.now in
    let u = c.args.user.now in
    let q = meets_check x u in
    let t = c.in-Some.tuple.now in
    let h = c.in-Some.rows.now in
    let rest : Entries = c.next.new.self in
    let items : List Tuple = c.loop-tuple.tuples.items in
    let cut : c.loop-tuple.tuple-iterator ≡ (t, h) ∷ rest = search rules in
    let own : is_one_of x t ≡ true = search rules in
    let asked : is_own_or_set u t ≡ false = search rules in
    let misses : q t ≡ false = asked_of x u t own ∙ asked in (
      walk_rest (holding x u) t h rest (subst (IsWalk (holding x u)) cut c.loop-tuple.invariant.0),
      ap (λ (l : List Tuple). items ++ l) (sym (passes_first place q t h rest misses)) ∙ ap (λ (l : Entries). items ++ kept_of place q l) (sym cut) ∙ c.loop-tuple.invariant.1,
      c.loop-tuple.invariant.2,
    )
