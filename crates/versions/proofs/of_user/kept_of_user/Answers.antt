use Rattle.std.proofs.Common.{◌≡◌, ◌≤◌, ℕ, ◌+◌, ◌++◌, ◌∷◌, [], ◌&&◌, true, false, Bool, List, filter, length, sym, ap, subst, ◌∙◌, append-nil, append_assoc, arith, rules}
use Rattle.std.proofs.lemmas.Bool.{and_right}
use Rattle.std.specs.Ordering.{is_eq, is_le}
use Rattle.tuples.specs.declared.tuple.Tuple.{Tuple}
use Rattle.tuples.specs.Order.{user_cmp}
use Rattle.tuples.specs.Reads.{IsSelection, has_relation, meets, same_name}
use Rattle.tuples.specs.Versions.{there_at}
use Rattle.versions.specs.Alike.{of_tuple}
use Rattle.tuples.specs.ByUser.{by_user_cmp}
use Rattle.versions.specs.Budget.{weight}
use Rattle.versions.specs.Index.{IsFirstOf, is_of_user}
use Rattle.versions.specs.Kept.{lent_rows}
use Rattle.versions.specs.Rows.{found, listed, rows_in, versions_of}
use Rattle.versions.proofs.Counted.{counted_more, counted_none, rows_count, seen, sum_fewer, sum_most, sum_of, unseen}
use Rattle.versions.proofs.OfUser.{IsWalkBy, asked_of, by_low, chosen_from_first, chosen_of, chosen_selection, index_spelled, keeps_tuple, low_by, met, missed, none_left_by, of_user_meets, skips_tuple, there_by_own, walk_by_from, walk_by_rest}
use Rattle.versions.proofs.Selected.{there_in}
use Rattle.versions.proofs.Tables.{Entries}
use Rattle.versions.proofs.of_user.kept_of_user.Goals as goal
use Rattle.versions.proofs.of_user.kept_of_user.Goals.{else-has_given-via-then-has_given+else-is_there_at, else-has_given-via-else-has_given}

pub loop-named-init : goal.loop-named-init
loop-named-init g c =
    let place = c.args.place in
    let q = meets (asked_of c.args.asked) in
    let n = c.args.asked.namespace.now in
    let u = c.args.asked.user.now in
    let r = c.args.asked.relation.now in
    let first = c.in_ok-start.start in
    let starts : IsFirstOf n u first = c.in_ok-start.ensures in
    let es : Entries = c.args.table.now.entries in
    let us : List Tuple = c.args.users.now.keys in
    let p : Tuple → Bool = λ t. is_le (by_user_cmp first t) && true in
    let gives : c.into_iter-named-iterator.result ≡ filter p us = c.into_iter-named-iterator.ensures.into_iter_gives ∙ c.range-named-items.ensures.between tt in (
      (first, starts, subst (IsWalkBy first) (sym gives) (walk_by_from first p (low_by first) us c.range-named-items.ensures.ordered)),
      ap (λ (l : List Tuple). l ++ chosen_of place q es c.into_iter-named-iterator.result) c.new-tuples.ensures.items
          ∙ ap (λ (l : List Tuple). chosen_of place q es l) gives
          ∙ chosen_from_first place q p es (λ t spelled has. by_low first t (starts.before t spelled (of_user_meets n u r t has))) us (index_spelled us es c.requires.table c.requires.index),
      let fewer : sum_of q (listed es) c.into_iter-named-iterator.result ≤ sum_of q (listed es) us = subst (λ (l : List Tuple). sum_of q (listed es) l ≤ sum_of q (listed es) us) (sym gives) (sum_fewer q p (listed es) us) in
          omega (arith, fewer),
      counted_none c.new-tuples.result.items _ c.new-tuples.ensures.items,
    )

pub returns-then-not-is_of-clause-rows : goal.returns-then-not-is_of-clause-rows
returns-then-not-is_of-clause-rows g c =
    let place = c.args.place in
    let q = meets (asked_of c.args.asked) in
    let es : Entries = c.args.table.now.entries in
    let t : Tuple = c.in-Some.named.now in
    let rest : List Tuple = c.next.new.self in
    let cut : c.loop-named.named-iterator ≡ t ∷ rest = search rules in
    let n = c.args.asked.namespace.now in
    let u = c.args.asked.user.now in
    let r = c.args.asked.relation.now in
    let items : List Tuple = c.loop-named.tuples.items in
    let tuple : c.in_ok-tuple.tuple ≡ t = search rules in
    let misses : is_of_user n u t ≡ false = search rules in
    let none : chosen_of place q es c.loop-named.named-iterator ≡ [] =
    ap (λ (l : List Tuple). chosen_of place q es l) cut
    ∙ none_left_by place n u q es c.loop-named.invariant.0.0 t rest (of_user_meets n u r) c.loop-named.invariant.0.1 (subst (IsWalkBy c.loop-named.invariant.0.0) cut c.loop-named.invariant.0.2) misses
    in
    let all : items ≡ chosen_of place q es c.args.users.now.keys = sym (append-nil items) ∙ ap (λ (l : List Tuple). items ++ l) (sym none) ∙ c.loop-named.invariant.1 in
    subst (IsSelection (there_at (listed es) place) (asked_of c.args.asked)) (sym all) (chosen_selection place n u r es c.args.users.now.keys c.requires.table.in_order c.requires.index c.range-named-items.ensures.ordered)

pub returns-then-not-is_of-clause-steps : goal.returns-then-not-is_of-clause-steps
returns-then-not-is_of-clause-steps g c = sum_most (meets (asked_of c.args.asked)) (listed c.args.table.now.entries) c.args.users.now.keys c.loop-named.named-iterator c.loop-named.steps c.args.steps.now c.range-named-items.ensures.ordered c.loop-named.invariant.2

pub returns-clause-rows : goal.returns-clause-rows
returns-clause-rows g c =
    let place = c.args.place in
    let q = meets (asked_of c.args.asked) in
    let es : Entries = c.args.table.now.entries in
    let items : List Tuple = c.loop-named.tuples.items in
    let all : items ≡ chosen_of place q es c.args.users.now.keys = sym (append-nil items) ∙ ap (λ (l : List Tuple). items ++ chosen_of place q es l) (sym c.in-None.ensures.steps.0) ∙ c.loop-named.invariant.1 in
    subst (IsSelection (there_at (listed es) place) (asked_of c.args.asked)) (sym all) (chosen_selection place c.args.asked.namespace.now c.args.asked.user.now c.args.asked.relation.now es c.args.users.now.keys c.requires.table.in_order c.requires.index c.range-named-items.ensures.ordered)

pub returns-clause-steps : goal.returns-clause-steps
returns-clause-steps g c = sum_most (meets (asked_of c.args.asked)) (listed c.args.table.now.entries) c.args.users.now.keys c.loop-named.named-iterator c.loop-named.steps c.args.steps.now c.range-named-items.ensures.ordered c.loop-named.invariant.2

pub returns-in_err-tuple-clause-steps : goal.returns-in_err-tuple-clause-steps
returns-in_err-tuple-clause-steps g c = sum_most (meets (asked_of c.args.asked)) (listed c.args.table.now.entries) c.args.users.now.keys c.loop-named.named-iterator c.loop-named.steps c.args.steps.now c.range-named-items.ensures.ordered c.loop-named.invariant.2

pub returns-in_err-push_counted-clause-steps : goal.returns-in_err-push_counted-clause-steps
returns-in_err-push_counted-clause-steps g c =
    let place = c.args.place in
    let q = meets (asked_of c.args.asked) in
    let es : Entries = c.args.table.now.entries in
    let t : Tuple = c.in-Some.named.now in
    let rest : List Tuple = c.next.new.self in
    let cut : c.loop-named.named-iterator ≡ t ∷ rest = search rules in
    let tuple : c.in_ok-tuple.tuple ≡ t = search rules in
    let has : q t ≡ true = met (same_name t.object.namespace c.args.asked.namespace.now) (is_eq (user_cmp t.user c.args.asked.user.now)) (has_relation c.args.asked.relation.now t) (search rules) (search rules) in
    let own : versions_of t (lent_rows c.rows_of.result) ≡ of_tuple t (listed es) = subst (λ (x : Tuple). versions_of x (lent_rows c.rows_of.result) ≡ of_tuple x (listed es)) tuple c.rows_of.ensures.versions in
    let more : c.is_there_at.new.steps ≡ c.loop-named.steps + length (of_tuple t (listed es)) = c.is_there_at.ensures.steps ∙ ap (λ (m : ℕ). c.loop-named.steps + m) (rows_count t (lent_rows c.rows_of.result) (listed es) own) in
    let counted = seen q t (listed es) rest c.loop-named.named-iterator c.is_there_at.new.steps c.loop-named.steps (c.args.steps.now + sum_of q (listed es) c.args.users.now.keys) has more cut c.loop-named.invariant.2 in
    sum_most q (listed es) c.args.users.now.keys rest c.is_there_at.new.steps c.args.steps.now c.range-named-items.ensures.ordered counted

pub loop-named-preserved-then-is_there_at : goal.loop-named-preserved-then-is_there_at
loop-named-preserved-then-is_there_at g c =
    let place = c.args.place in
    let q = meets (asked_of c.args.asked) in
    let es : Entries = c.args.table.now.entries in
    let t : Tuple = c.in-Some.named.now in
    let rest : List Tuple = c.next.new.self in
    let cut : c.loop-named.named-iterator ≡ t ∷ rest = search rules in
    let tuple : c.in_ok-tuple.tuple ≡ t = search rules in
    let has : q t ≡ true = met (same_name t.object.namespace c.args.asked.namespace.now) (is_eq (user_cmp t.user c.args.asked.user.now)) (has_relation c.args.asked.relation.now t) (search rules) (search rules) in
    let own : versions_of t (lent_rows c.rows_of.result) ≡ of_tuple t (listed es) = subst (λ (x : Tuple). versions_of x (lent_rows c.rows_of.result) ≡ of_tuple x (listed es)) tuple c.rows_of.ensures.versions in
    let more : c.is_there_at.new.steps ≡ c.loop-named.steps + length (of_tuple t (listed es)) = c.is_there_at.ensures.steps ∙ ap (λ (m : ℕ). c.loop-named.steps + m) (rows_count t (lent_rows c.rows_of.result) (listed es) own) in
    let counted = seen q t (listed es) rest c.loop-named.named-iterator c.is_there_at.new.steps c.loop-named.steps (c.args.steps.now + sum_of q (listed es) c.args.users.now.keys) has more cut c.loop-named.invariant.2 in
    let items : List Tuple = c.loop-named.tuples.items in
    let here : there_in place t es ≡ true =
    there_by_own place t es (lent_rows c.rows_of.result) (subst (λ (x : Tuple). (lent_rows c.rows_of.result) ≡ rows_in (found x es)) tuple c.rows_of.ensures.rows)
    ∙ sym (c.is_there_at.ensures.there t) ∙ c.if-is_there_at.true
    in
    let pushed : c.push_counted.new.tuples.items ≡ items ++ t ∷ [] = subst (λ (x : Tuple). c.push_counted.new.tuples.items ≡ items ++ x ∷ []) tuple c.in_ok-push_counted.ensures.0 in (
      (c.loop-named.invariant.0.0, c.loop-named.invariant.0.1, walk_by_rest c.loop-named.invariant.0.0 t rest (subst (IsWalkBy c.loop-named.invariant.0.0) cut c.loop-named.invariant.0.2)),
      ap (λ (l : List Tuple). l ++ chosen_of place q es rest) pushed
          ∙ append_assoc items (t ∷ []) (chosen_of place q es rest)
          ∙ ap (λ (l : List Tuple). items ++ l) (sym (keeps_tuple place q es t rest has here))
          ∙ ap (λ (l : List Tuple). items ++ chosen_of place q es l) (sym cut)
          ∙ c.loop-named.invariant.1,
      counted,
      counted_more items c.push_counted.new.tuples.items t c.loop-named.budget c.push_counted.new.budget _ pushed (subst (λ (x : Tuple). c.push_counted.new.budget + weight x ≡ c.loop-named.budget) tuple c.in_ok-push_counted.ensures.1) c.loop-named.invariant.3,
    )

pub loop-named-preserved : goal.loop-named-preserved
loop-named-preserved g c =
    let place = c.args.place in
    let q = meets (asked_of c.args.asked) in
    let es : Entries = c.args.table.now.entries in
    let t : Tuple = c.in-Some.named.now in
    let rest : List Tuple = c.next.new.self in
    let cut : c.loop-named.named-iterator ≡ t ∷ rest = search rules in
    let tuple : c.in_ok-tuple.tuple ≡ t = search rules in
    let items : List Tuple = c.loop-named.tuples.items in
    let most = c.args.steps.now + sum_of q (listed es) c.args.users.now.keys in
    let left : (q t && there_in place t es) ≡ false → items ++ chosen_of place q es rest ≡ chosen_of place q es c.args.users.now.keys =
    λ gone. ap (λ (l : List Tuple). items ++ l) (sym (skips_tuple place q es t rest gone)) ∙ ap (λ (l : List Tuple). items ++ chosen_of place q es l) (sym cut) ∙ c.loop-named.invariant.1
    in
    let walk = walk_by_rest c.loop-named.invariant.0.0 t rest (subst (IsWalkBy c.loop-named.invariant.0.0) cut c.loop-named.invariant.0.2) in
    elim c.else-has_given.branch [
      | else-has_given-via-then-has_given+else-is_there_at w ↦
          let own : versions_of t (lent_rows w.rows_of.result) ≡ of_tuple t (listed es) = subst (λ (x : Tuple). versions_of x (lent_rows w.rows_of.result) ≡ of_tuple x (listed es)) tuple w.rows_of.ensures.versions in
          let has : q t ≡ true = met (same_name t.object.namespace c.args.asked.namespace.now) (is_eq (user_cmp t.user c.args.asked.user.now)) (has_relation c.args.asked.relation.now t) (search rules) (search rules) in
          let gone : there_in place t es ≡ false =
          there_by_own place t es (lent_rows w.rows_of.result) (subst (λ (x : Tuple). (lent_rows w.rows_of.result) ≡ rows_in (found x es)) tuple w.rows_of.ensures.rows)
          ∙ sym (w.is_there_at.ensures.there t) ∙ w.if-is_there_at.false
          in
          let more : c.else-has_given.steps ≡ c.loop-named.steps + length (of_tuple t (listed es)) =
          w.steps-is ∙ w.is_there_at.ensures.steps ∙ ap (λ (m : ℕ). c.loop-named.steps + m) (rows_count t (lent_rows w.rows_of.result) (listed es) own)
          in (
            (c.loop-named.invariant.0.0, c.loop-named.invariant.0.1, walk),
            left (and_right (q t) (there_in place t es) gone),
            seen q t (listed es) rest c.loop-named.named-iterator c.else-has_given.steps c.loop-named.steps most has more cut c.loop-named.invariant.2,
            c.loop-named.invariant.3,
          )
      | else-has_given-via-else-has_given w ↦
          let misses : q t ≡ false = missed (same_name t.object.namespace c.args.asked.namespace.now) (is_eq (user_cmp t.user c.args.asked.user.now)) (has_relation c.args.asked.relation.now t) (search rules) in (
            (c.loop-named.invariant.0.0, c.loop-named.invariant.0.1, walk),
            left (ap (λ (b : Bool). b && there_in place t es) misses),
            subst (λ (m : ℕ). m + sum_of q (listed es) rest ≤ most) (sym w.steps-is) (unseen q t (listed es) rest c.loop-named.named-iterator c.loop-named.steps most cut c.loop-named.invariant.2),
            c.loop-named.invariant.3,
          )
    ]
