use Rattle.tuples.specs.Order.{tuple_cmp}
use Rattle.std.proofs.Common.{◌≡◌, ◌++◌, ◌∷◌, [], ◌&&◌, true, false, List, filter, sym, ap, subst, ◌∙◌, ◌≤◌, append-nil, append_assoc, arith, rules}
use Rattle.std.specs.Ordering.{is_le}
use Rattle.tuples.specs.declared.tuple.Tuple.{Tuple}
use Rattle.tuples.specs.Versions.{there_at}
use Rattle.versions.specs.Index.{count_of}
use Rattle.versions.specs.Rows.{IsPicked, listed, versions_of}
use Rattle.versions.specs.declared.history.Row.{Row}
use Rattle.versions.proofs.Counted.{count_fewer, counted_more, counted_none, looked, rows_seen, within_most}
use Rattle.versions.proofs.Selected.{IsWalk, from_low, keeps_first, kept_from_first, kept_of, kept_selection, low_from, none_left, skips_first, walk_from, walk_rest}
use Rattle.versions.proofs.Tables.{Entries}
use Rattle.versions.proofs.kept.kept_from.Goals as goal

pub loop-tuple-init : goal.loop-tuple-init
loop-tuple-init g c =
    let place = c.args.place in
    let q = g.Q.Asks.asks c.args.asked.now in
    let first = c.args.first in
    let es : Entries = c.args.table.now.entries in
    let gives : c.into_iter-tuple-iterator.result ≡ filter (λ e. is_le (tuple_cmp first e.0) && true) es = c.into_iter-tuple-iterator.ensures.into_iter_gives ∙ c.range-tuple-items.ensures.between tt in (
      subst (IsWalk first) (sym gives) (walk_from first (λ t. is_le (tuple_cmp first t) && true) (low_from first) es c.requires.table.in_order),
      ap (λ (l : List Tuple). l ++ kept_of place q c.into_iter-tuple-iterator.result) c.new-tuples.ensures.items
          ∙ ap (λ (l : Entries). kept_of place q l) gives
          ∙ kept_from_first place q (λ t. is_le (tuple_cmp first t) && true) (λ t spelled has. from_low first t (c.requires.first.before t spelled has)) es c.requires.table.spelled,
      let fewer : count_of q (listed c.into_iter-tuple-iterator.result) ≤ count_of q (listed es) = subst (λ (l : Entries). count_of q (listed l) ≤ count_of q (listed es)) (sym gives) (count_fewer q (λ t. is_le (tuple_cmp first t) && true) es) in
          omega (arith, fewer),
      counted_none c.new-tuples.result.items _ c.new-tuples.ensures.items,
    )

pub loop-tuple-preserved : goal.loop-tuple-preserved
loop-tuple-preserved g c =
    let place = c.args.place in
    let q = g.Q.Asks.asks c.args.asked.now in
    let t = c.in-Some.tuple.now in
    let h = c.in-Some.rows.now in
    let rest : Entries = c.next.new.self in
    let items : List Tuple = c.loop-tuple.tuples.items in
    let cut : c.loop-tuple.tuple-iterator ≡ (t, h) ∷ rest = search rules in
    let has : q t ≡ true = search rules in
    let gone : there_at (versions_of t h) place t ≡ false = ap (λ (l : List Row). there_at (versions_of t l) place t) (sym c.lent.ensures) ∙ sym (c.is_there_at.ensures.there t) ∙ c.if-is_there_at.false in (
      walk_rest c.args.first t h rest (subst (IsWalk c.args.first) cut c.loop-tuple.invariant.0),
      ap (λ (l : List Tuple). items ++ l) (sym (skips_first place q t h rest gone)) ∙ ap (λ (l : Entries). items ++ kept_of place q l) (sym cut) ∙ c.loop-tuple.invariant.1,
      looked q t h rest c.loop-tuple.tuple-iterator _ _ _ has (rows_seen _ _ h (sym c.lent.ensures) c.is_there_at.ensures.steps) cut c.loop-tuple.invariant.2,
      c.loop-tuple.invariant.3,
    )

pub loop-tuple-preserved-in_ok-push : goal.loop-tuple-preserved-in_ok-push
loop-tuple-preserved-in_ok-push g c =
    let place = c.args.place in
    let q = g.Q.Asks.asks c.args.asked.now in
    let t = c.in-Some.tuple.now in
    let h = c.in-Some.rows.now in
    let rest : Entries = c.next.new.self in
    let items : List Tuple = c.loop-tuple.tuples.items in
    let cut : c.loop-tuple.tuple-iterator ≡ (t, h) ∷ rest = search rules in
    let has : q t ≡ true = search rules in
    let there : there_at (versions_of t h) place t ≡ true = ap (λ (l : List Row). there_at (versions_of t l) place t) (sym c.lent.ensures) ∙ sym (c.is_there_at.ensures.there t) ∙ c.if-is_there_at.true in
    let pushed : c.push.new.self.items ≡ items ++ t ∷ [] = search rules in (
      walk_rest c.args.first t h rest (subst (IsWalk c.args.first) cut c.loop-tuple.invariant.0),
      ap (λ (l : List Tuple). l ++ kept_of place q rest) pushed
          ∙ append_assoc items (t ∷ []) (kept_of place q rest)
          ∙ ap (λ (l : List Tuple). items ++ l) (sym (keeps_first place q t h rest has there))
          ∙ ap (λ (l : Entries). items ++ kept_of place q l) (sym cut)
          ∙ c.loop-tuple.invariant.1,
      looked q t h rest c.loop-tuple.tuple-iterator _ _ _ has (rows_seen _ _ h (sym c.lent.ensures) c.is_there_at.ensures.steps) cut c.loop-tuple.invariant.2,
      counted_more items c.push.new.self.items t _ _ _ pushed c.in_ok-copy.ensures.counted c.loop-tuple.invariant.3,
    )

pub returns-then-not-asks_for-clause-rows : goal.returns-then-not-asks_for-clause-rows
returns-then-not-asks_for-clause-rows g c =
    let place = c.args.place in
    let q = g.Q.Asks.asks c.args.asked.now in
    let t = c.in-Some.tuple.now in
    let h = c.in-Some.rows.now in
    let rest : Entries = c.next.new.self in
    let items : List Tuple = c.loop-tuple.tuples.items in
    let cut : c.loop-tuple.tuple-iterator ≡ (t, h) ∷ rest = search rules in
    let misses : q t ≡ false = search rules in
    let none : kept_of place q c.loop-tuple.tuple-iterator ≡ [] = ap (λ (l : Entries). kept_of place q l) cut ∙ none_left place q c.args.first t h rest c.requires.first (subst (IsWalk c.args.first) cut c.loop-tuple.invariant.0) misses in
    let all : items ≡ kept_of place q c.args.table.now.entries = sym (append-nil items) ∙ ap (λ (l : List Tuple). items ++ l) (sym none) ∙ c.loop-tuple.invariant.1 in
    subst (IsPicked (there_at (listed c.args.table.now.entries) place) q) (sym all) (kept_selection place q c.args.table.now.entries c.requires.table.in_order)

pub returns-clause-rows : goal.returns-clause-rows
returns-clause-rows g c =
    let items : List Tuple = c.loop-tuple.tuples.items in
    let place = c.args.place in
    let q = g.Q.Asks.asks c.args.asked.now in
    let all : items ≡ kept_of place q c.args.table.now.entries = sym (append-nil items) ∙ ap (λ (l : Entries). items ++ kept_of place q l) (sym c.in-None.ensures.steps.0) ∙ c.loop-tuple.invariant.1 in
    subst (IsPicked (there_at (listed c.args.table.now.entries) place) q) (sym all) (kept_selection place q c.args.table.now.entries c.requires.table.in_order)

pub returns-in_err-copy-clause-steps : goal.returns-in_err-copy-clause-steps
returns-in_err-copy-clause-steps g c =
    let q = g.Q.Asks.asks c.args.asked.now in
    let t = c.in-Some.tuple.now in
    let h = c.in-Some.rows.now in
    let rest : Entries = c.next.new.self in
    let cut : c.loop-tuple.tuple-iterator ≡ (t, h) ∷ rest = search rules in
    let has : q t ≡ true = search rules in
    within_most q rest _ _ (looked q t h rest c.loop-tuple.tuple-iterator _ _ _ has (rows_seen _ _ h (sym c.lent.ensures) c.is_there_at.ensures.steps) cut c.loop-tuple.invariant.2)

pub returns-in_err-push-clause-steps : goal.returns-in_err-push-clause-steps
returns-in_err-push-clause-steps g c =
    let q = g.Q.Asks.asks c.args.asked.now in
    let t = c.in-Some.tuple.now in
    let h = c.in-Some.rows.now in
    let rest : Entries = c.next.new.self in
    let cut : c.loop-tuple.tuple-iterator ≡ (t, h) ∷ rest = search rules in
    let has : q t ≡ true = search rules in
    within_most q rest _ _ (looked q t h rest c.loop-tuple.tuple-iterator _ _ _ has (rows_seen _ _ h (sym c.lent.ensures) c.is_there_at.ensures.steps) cut c.loop-tuple.invariant.2)
