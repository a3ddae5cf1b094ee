-- Each step keeps the rule of the queue.
use Rattle.std.proofs.Common.{◌≡◌, ◌≢◌, ℕ, zero, suc, ◌+◌, ◌≤◌, Bool, List, [], ◌∷◌, ◌++◌, Option, Some, None, if◌then◌else◌, length, set, true, false, refl, sym, ap, ◌∙◌, subst, ⊎_elim, arith, length-append, unwrap_or}
use Rattle.std.proofs.lemmas.List.{map-append}
use Rattle.std.proofs.lemmas.Bool.{false≢true}
use mathlib.Core.Option.{some, some-ne-none, some-injective}
use lib.ListN.{get_elem?}
use Rattle.crossbeam_queue.specs.Fifo.{Pushes, Pops, Forks, Merges, Learns}
use Rattle.crossbeam_queue.proofs.Lists.{at_set, at_snoc}
use Rattle.atomic_table.proofs.Lists.{set_again}
use Rattle.connections.specs.declared.connections.rule.View.{View}
use Rattle.connections.specs.declared.connections.rule.Numbered.{Numbered}
use Rattle.connections.specs.Ends.{End}
use Rattle.connections.specs.Numbers.{times, behind, IsEach, IsUpTo, IsOnceEach}
use Rattle.connections.specs.Waiting.{acceptor, worker, one_more, taken_in_all, shares_in_all, Fits, numbers, Ruled, Put, Took, Waits, end_of, gathered, note, told_of}
use Rattle.connections.proofs.Counting.{times-append, behind-suc, up_to_more, up_to_push, up_to_both, once_at_most}

-- ---- what all passes have

-- a number of each view, over all of them
abbrev total : (View → ℕ) → List View → ℕ
total f [] = 0
total f (v ∷ vs) = f v + total f vs

-- the total after a change of one pass
total_set : (f : View → ℕ) (views : List View) (port : ℕ) (v w : View) → get_elem? views port ≡ some v → total f (set views port w) + f v ≡ total f views + f w
total_set f [] port v w at = absurd (some-ne-none v (sym at))
total_set f (u ∷ vs) zero v w at = let is : f u ≡ f v = ap f (some-injective u v at) in omega arith
total_set f (u ∷ vs) (suc port) v w at = let more = total_set f vs port v w at in omega arith

total-append : (f : View → ℕ) (us vs : List View) → total f (us ++ vs) ≡ total f us + total f vs
total-append f [] vs = omega arith
total-append f (u ∷ us) vs = let more = total-append f us vs in omega arith

-- what one pass has is among what all have
among : (f : View → ℕ) (views : List View) (port : ℕ) (v : View) → get_elem? views port ≡ some v → f v ≤ total f views
among f [] port v at = absurd (some-ne-none v (sym at))
among f (u ∷ vs) zero v at = let is : f u ≡ f v = ap f (some-injective u v at) in omega arith
among f (u ∷ vs) (suc port) v at = let more = among f vs port v at in omega arith

abbrev took : ℕ → View → ℕ
took x v = times x v.taken

abbrev share : View → ℕ
share v = v.share

taken_is : (x : ℕ) (views : List View) → taken_in_all x views ≡ total (took x) views
taken_is x [] = refl
taken_is x (v ∷ vs) = ap (λ (n : ℕ). times x v.taken + n) (taken_is x vs)

shares_are : (views : List View) → shares_in_all views ≡ total share views
shares_are [] = refl
shares_are (v ∷ vs) = ap (λ (n : ℕ). v.share + n) (shares_are vs)

-- a pass that was gathered in another took nothing
abbrev AreEmpty : List View → Type 0
AreEmpty views = (j : ℕ) (u : View) → get_elem? views j ≡ some u → u.share ≡ 0 → u.taken ≡ []

none_took : (x : ℕ) (views : List View) → AreEmpty views → total share views ≡ 0 → total (took x) views ≡ 0
none_took x [] empty none = refl
none_took x (u ∷ vs) empty none =
    let first : times x u.taken ≡ 0 = ap (times x) (empty 0 u refl (omega (arith, none))) in
    let rest = none_took x vs (λ j w e. empty (suc j) w e) (omega (arith, none)) in
    omega arith

-- so one pass that stands for all took what all took
took_all : (x : ℕ) (views : List View) (port : ℕ) (v : View) → AreEmpty views → get_elem? views port ≡ some v → total share views ≡ v.share → times x v.taken ≡ total (took x) views
took_all x [] port v empty at all = absurd (some-ne-none v (sym at))
took_all x (u ∷ vs) zero v empty at all =
    let is : u ≡ v = some-injective u v at in
    let same : u.share ≡ v.share = ap share is in
    let taken : times x u.taken ≡ times x v.taken = ap (took x) is in
    let rest = none_took x vs (λ j w e. empty (suc j) w e) (omega arith) in
    omega arith
took_all x (u ∷ vs) (suc port) v empty at all =
    let mine = among share vs port v at in
    let first : times x u.taken ≡ 0 = ap (times x) (empty 0 u refl (omega arith)) in
    let rest = took_all x vs port v (λ j w e. empty (suc j) w e) at (omega arith) in
    omega arith

-- ---- a change of one pass

-- all passes fit if the others do, and the one that changed does
passes_set : (F : ℕ → View → Type 0) (views : List View) (port : ℕ) (w : View) → ((j : ℕ) (u : View) → j ≢ port → get_elem? views j ≡ some u → F j u) → F port w → (j : ℕ) (u : View) → get_elem? (set views port w) j ≡ some u → F j u
passes_set F views port w others mine j u e =
    ⊎_elim (λ (t : (j ≡ port) × (w ≡ u)). subst (λ (y : ℕ × View). F y.0 y.1) (λ i. (sym t.0 i, t.1 i)) mine) (λ (t : (j ≢ port) × (get_elem? views j ≡ some u)). others j u t.0 t.1) (at_set views port j w u e)

-- another pass is as before if one has changed
other_was : (views : List View) (port other : ℕ) (w u : View) → other ≢ port → get_elem? (set views port w) other ≡ some u → get_elem? views other ≡ some u
other_was views port other w u apart there = ⊎_elim (λ (t : (other ≡ port) × (w ≡ u)). absurd (apart t.0)) (λ (t : (other ≢ port) × (get_elem? views other ≡ some u)). t.1) (at_set views port other w u there)

-- the totals if a change of one pass keeps what it took or its share
same_taken : (x : ℕ) (views : List View) (port : ℕ) (v w : View) → get_elem? views port ≡ some v → w.taken ≡ v.taken → taken_in_all x (set views port w) ≡ taken_in_all x views
same_taken x views port v w at same =
    let t = total_set (took x) views port v w at in
    let is : times x w.taken ≡ times x v.taken = ap (times x) same in
    let a = taken_is x (set views port w) in
    let b = taken_is x views in
    omega arith

same_shares : (views : List View) (port : ℕ) (v w : View) → get_elem? views port ≡ some v → w.share ≡ v.share → shares_in_all (set views port w) ≡ shares_in_all views
same_shares views port v w at same =
    let t = total_set share views port v w at in
    let a = shares_are (set views port w) in
    let b = shares_are views in
    omega arith

module _ {C : Type 0} where
  pub begins : Ruled {C = C} [] (acceptor 0 1 [] ∷ [])
  begins = record { writer = 0; made = 1; gone = 0; waiting = refl; once = λ x. omega arith; shares = refl; passes = one }
    where
      one : (port : ℕ) (v : View) → get_elem? (acceptor 0 1 [] ∷ []) port ≡ some v → Fits 0 (0 + 0) 1 0 port v
      one zero v e = subst (Fits 0 (0 + 0) 1 0 0) (some-injective _ _ e) record { writes = λ _. (refl, omega arith, refl); took = tt; told = tt; empty = λ _. refl }
      one (suc port) v e = absurd (some-ne-none v (sym e))

  pub puts : (n port : ℕ) (v : View) (x : Numbered C) → v.puts ≡ true → x.number ≡ suc v.put → Pushes Ruled n port v x (Put v x)
  puts n port v x writes is items views _ r at =
      let w : View = record v { put = suc v.put } in
      let mine = r.passes port v at in
      let mine' = mine.writes writes in
      let k = length items in
      let len : length (items ++ x ∷ []) ≡ suc k = omega (arith, length-append items (x ∷ [])) in
      let put : suc v.put ≡ r.gone + length (items ++ x ∷ []) = omega (arith, mine'.1) in
      let next : x.number ≡ suc (r.gone + k) = is ∙ ap suc mine'.1 in (
        w,
        record {
          writer = r.writer;
          made = r.made;
          gone = r.gone;
          waiting = map-append (λ (i : Numbered C). i.number) items (x ∷ []) ∙ ap (λ l. l ++ x.number ∷ []) r.waiting ∙ ap (λ y. behind r.gone k ++ y ∷ []) next ∙ behind-suc r.gone k ∙ ap (behind r.gone) (sym len);
          once = λ y. same_taken y views port v w at refl ∙ r.once y;
          shares = same_shares views port v w at refl ∙ r.shares;
          passes = passes_set (Fits r.writer (r.gone + length (items ++ x ∷ [])) r.made r.gone) views port w
              (λ j u apart e. let f = r.passes j u e in record { writes = λ l. absurd (apart ((f.writes l).0 ∙ sym mine'.0)); took = f.took; told = f.told; empty = f.empty })
              record { writes = λ _. (mine'.0, put, mine'.2); took = mine.took; told = mine.told; empty = mine.empty };
        },
        refl,
      )

  pub takes : (port : ℕ) (v : View) → 1 ≤ v.share → Pops Ruled port v (Took {C = C} v)
  takes port v has x items views r at =
      let w : View = record v { taken = v.taken ++ x.number ∷ [] } in
      let mine = r.passes port v at in
      let head : x.number ≡ suc r.gone = cc (r.waiting) in
      let rest : numbers items ≡ behind (suc r.gone) (length items) = cc (r.waiting) in
      let all : r.gone + suc (length items) ≡ suc r.gone + length items = omega arith in
      let up : r.gone ≤ suc r.gone = omega arith in (
        w,
        record {
          writer = r.writer;
          made = r.made;
          gone = suc r.gone;
          waiting = rest;
          once = λ y.
              let t = total_set (took y) views port v w at in
              let before = taken_is y views in
              let after = taken_is y (set views port w) in
              let o = r.once y in
              let a = times-append y v.taken (x.number ∷ []) in
              let b : times y (x.number ∷ []) ≡ times y (suc r.gone ∷ []) = ap (λ (k : ℕ). times y (k ∷ [])) head in
              omega arith;
          shares = same_shares views port v w at refl ∙ r.shares;
          passes = passes_set (Fits r.writer (suc r.gone + length items) r.made (suc r.gone)) views port w
              (λ j u _ e. let f = r.passes j u e in
              record { writes = λ l. let m = f.writes l in (m.0, m.1 ∙ all, m.2); took = up_to_more r.gone (suc r.gone) u.taken up f.took; told = up_to_more r.gone (suc r.gone) u.told up f.told; empty = f.empty })
              record {
                writes = λ l. let m = mine.writes l in (m.0, m.1 ∙ all, m.2);
                took = up_to_push (suc r.gone) x.number v.taken (omega (arith, head)) (omega (arith, head)) (up_to_more r.gone (suc r.gone) v.taken up mine.took);
                told = up_to_more r.gone (suc r.gone) v.told up mine.told;
                empty = λ none. absurd (omega (arith, none, has));
              };
        },
        (refl, (r.gone, head, mine.took)),
      )

  -- a new pass of the one that puts
  pub forks_worker : (port : ℕ) (v : View) → v.puts ≡ true → Forks (Ruled {C = C}) port v (one_more v) (worker 1)
  forks_worker port v writes items views r at =
      let mine = r.passes port v at in
      let m = mine.writes writes in
      let now = set views port (one_more v) in record {
        writer = r.writer;
        made = suc r.made;
        gone = r.gone;
        waiting = r.waiting;
        once = λ y.
            let s = same_taken y views port v (one_more v) at refl in
            let a = total-append (took y) now (worker 1 ∷ []) in
            let b = taken_is y now in
            let c = taken_is y (now ++ worker 1 ∷ []) in
            let o = r.once y in
            omega arith;
        shares =
            let s = same_shares views port v (one_more v) at refl in
            let a = total-append share now (worker 1 ∷ []) in
            let b = shares_are now in
            let c = shares_are (now ++ worker 1 ∷ []) in
            let o = r.shares in
            omega arith;
        passes = λ j u e. ⊎_elim
            (λ was. passes_set (Fits r.writer (r.gone + length items) (suc r.made) r.gone) views port (one_more v)
            (λ i z apart e'. let f = r.passes i z e' in record { writes = λ l. absurd (apart ((f.writes l).0 ∙ sym m.0)); took = f.took; told = f.told; empty = f.empty })
            record { writes = λ _. (m.0, m.1, ap suc m.2); took = mine.took; told = mine.told; empty = mine.empty } j u was)
            (λ (same : worker 1 ≡ u). subst (Fits r.writer (r.gone + length items) (suc r.made) r.gone j) same record { writes = λ l. absurd (false≢true l); took = tt; told = tt; empty = λ _. refl })
            (at_snoc now (worker 1) u j e);
      }

  -- a note, which took nothing, and was told of no more than was taken
  pub forks_note : (port : ℕ) (v : View) → Forks (Ruled {C = C}) port v v (note v)
  forks_note port v items views r at =
      let same = set_again views port v at in record {
        writer = r.writer;
        made = r.made;
        gone = r.gone;
        waiting = r.waiting;
        once = λ y.
            let a = total-append (took y) (set views port v) (note v ∷ []) in
            let b = taken_is y (set views port v) in
            let c = taken_is y (set views port v ++ note v ∷ []) in
            let s : taken_in_all y (set views port v) ≡ taken_in_all y views = ap (taken_in_all y) same in
            let o = r.once y in
            omega arith;
        shares =
            let a = total-append share (set views port v) (note v ∷ []) in
            let b = shares_are (set views port v) in
            let c = shares_are (set views port v ++ note v ∷ []) in
            let s : shares_in_all (set views port v) ≡ shares_in_all views = ap shares_in_all same in
            let o = r.shares in
            omega arith;
        passes = λ j u e. ⊎_elim
            (λ was. r.passes j u (subst (λ l. get_elem? l j ≡ some u) same was))
            (λ (is : note v ≡ u). subst (Fits r.writer (r.gone + length items) r.made r.gone j) is record { writes = λ l. absurd (false≢true l); took = tt; told = (r.passes port v at).took; empty = λ _. refl })
            (at_snoc (set views port v) (note v) u j e);
      }

  -- a pass that takes in another: all that both took, and no more told than was taken
  merges : (port : ℕ) (v : View) (other : ℕ) (u w : View) → w.puts ≡ v.puts → w.put ≡ v.put → w.made ≡ v.made → w.share ≡ v.share + u.share → ((x : ℕ) → times x w.taken ≡ times x v.taken + times x u.taken)
      → ((gone : ℕ) → IsUpTo gone v.taken → IsUpTo gone u.taken → IsUpTo gone w.taken) → ((gone : ℕ) → IsUpTo gone v.told → IsUpTo gone u.told → IsUpTo gone w.told)
      → ((v.share ≡ 0 → v.taken ≡ []) → (u.share ≡ 0 → u.taken ≡ []) → w.share ≡ 0 → w.taken ≡ []) → Merges (Ruled {C = C}) port v other u w (worker 0)
  merges port v other u w puts put made shares all took_both told_both empty items views r at apart there =
      let mine = r.passes port v at in
      let theirs = r.passes other u (other_was views port other w u apart there) in
      let F = Fits r.writer (r.gone + length items) r.made r.gone in
      let joined = set views port w in
      record {
        writer = r.writer;
        made = r.made;
        gone = r.gone;
        waiting = r.waiting;
        once = λ y.
            let a = total_set (took y) views port v w at in
            let b = total_set (took y) joined other u (worker 0) there in
            let c = all y in
            let d = taken_is y views in
            let e = taken_is y (set joined other (worker 0)) in
            let o = r.once y in
            omega arith;
        shares =
            let a = total_set share views port v w at in
            let b = total_set share joined other u (worker 0) there in
            let d = shares_are views in
            let e = shares_are (set joined other (worker 0)) in
            let o = r.shares in
            omega arith;
        passes = passes_set F joined other (worker 0)
            (λ j x _ e. passes_set F views port w (λ i z _ e'. r.passes i z e')
            record {
              writes = λ l. let m = mine.writes (sym puts ∙ l) in (m.0, put ∙ m.1, made ∙ m.2);
              took = took_both r.gone mine.took theirs.took;
              told = told_both r.gone mine.told theirs.told;
              empty = empty mine.empty theirs.empty;
            } j x e)
            record { writes = λ l. absurd (false≢true l); took = tt; told = tt; empty = λ _. refl };
      }

  pub merges_workers : (port : ℕ) (v : View) (other : ℕ) (u : View) → Merges (Ruled {C = C}) port v other u (gathered v u) (worker 0)
  merges_workers port v other u =
      merges port v other u (gathered v u) refl refl refl refl (λ x. times-append x v.taken u.taken) (λ gone a b. up_to_both gone v.taken u.taken a b) (λ _ a _. a)
      (λ mine theirs none. ap (λ (l : List ℕ). l ++ u.taken) (mine (omega (arith, none))) ∙ theirs (omega (arith, none)))

  pub merges_note : (port : ℕ) (v : View) (other : ℕ) (u : View) → u.taken ≡ [] → u.share ≡ 0 → Merges (Ruled {C = C}) port v other u (told_of v u) (worker 0)
  merges_note port v other u empty none =
      merges port v other u (told_of v u) refl refl refl (omega (arith, none)) (λ x. let n : times x u.taken ≡ 0 = ap (times x) empty in omega arith) (λ _ a _. a) (λ gone a b. up_to_both gone v.told u.told a b)
      (λ mine _ e. mine e)

  pub learns : (port : ℕ) (v : View) → Learns Ruled port v (Waits {C = C} v)
  learns port v items views r at =
      let f = r.passes port v at in (
        r.gone,
        r.waiting,
        f.took,
        f.told,
        λ l. (f.writes l).1,
        λ l whole x.
            let all : total share views ≡ v.share = sym (shares_are views) ∙ r.shares ∙ sym (f.writes l).2 ∙ whole in
            took_all x views port v (λ j u e. (r.passes j u e).empty) at all ∙ sym (taken_is x views) ∙ r.once x,
      )

  pub none_twice : (port : ℕ) (v : View) → Learns (Ruled {C = C}) port v (λ items. IsOnceEach v.taken)
  none_twice port v items views r at x =
      let a = among (took x) views port v at in
      let b = once_at_most x r.gone in
      let c = taken_is x views in
      let o = r.once x in
      omega arith

  -- what was taken was put, and so are the numbers that the putting pass was told of
  pub all_put : (port : ℕ) (v : View) → Learns (Ruled {C = C}) port v (λ items. v.puts ≡ true → IsUpTo v.put v.told)
  all_put port v items views r at puts =
      let f = r.passes port v at in
      up_to_more r.gone v.put v.told (let is = (f.writes puts).1 in omega arith) f.told

-- ---- the end

known_end : (b : Bool) (is put : End) → (if b then Some is else None) ≡ Some put → (b ≡ true) × (is ≡ put)
known_end true is put e = (refl, ap (λ (o : Option End). unwrap_or o is) e)
known_end false is put e = cc

-- if all passes are gathered in one, and nothing waits, it took each number that was put
pub all_taken : {C : Type 0} (v : View) (items : List (Numbered C)) (put : ℕ) → length items ≡ 0 → Waits v items → end_of v ≡ Some (record { put = put; passes = v.share }) → IsEach put v.taken
all_taken v items put none waits whole =
    let known = known_end v.puts (record { put = v.put; passes = v.made }) (record { put = put; passes = v.share }) whole in
    let count : put ≡ waits.0 = sym (ap (λ (e : End). e.put) known.1) ∙ waits.4 known.0 ∙ (omega (arith, none)) in
    subst (λ (n : ℕ). IsEach n v.taken) (sym count) (waits.5 known.0 (ap (λ (e : End). e.passes) known.1))
