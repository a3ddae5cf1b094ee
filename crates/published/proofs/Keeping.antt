-- Each step keeps the rule.
use Rattle.std.proofs.Common.{◌≡◌, ◌≢◌, ℕ, zero, suc, ◌+◌, ◌≤◌, List, [], ◌∷◌, ◌++◌, length, set, max, true, false, refl, sym, ap, ◌∙◌, subst, ⊎_elim, arith, length-append}
use Rattle.std.proofs.lemmas.List.{append-nil}
use Rattle.std.proofs.lemmas.Bool.{false≢true}
use Rattle.std.specs.Prelude.{slice_index, slice_set}
use mathlib.Core.Option.{none, some, some-ne-none, some-injective}
use lib.ListN.{get_elem?}
use Rattle.atomic_table.specs.Table.{Me, step, keeps, opening, Allows, Splits, Joins}
use Rattle.atomic_table.proofs.Lists.{at_set, at_snoc, set_again}
use Rattle.published.specs.declared.rule.View.{View}
use Rattle.published.specs.OneList.{leader, opener, Fits, Kept}
use Rattle.published.specs.Tells.{note, nobody, told_of, LoadedPlace, LoadedHorizon, Advanced, Raised}
use Rattle.published.proofs.Prefixes.{prefix_self, prefix_trans, prefix_more}

module _ {W : Type 0} where
  pub begins : Kept (opening {S = Unit {0}} (0 ∷ 0 ∷ []) [] (opener {W = W}))
  begins = record { list = []; horizon = 0; log_seat = 0; words = refl; below = omega arith; passes = one }
    where
      one : (seat : ℕ) (v : View W) → get_elem? (opener ∷ []) seat ≡ some v → Fits [] 0 0 seat v
      one zero v e = subst (Fits [] 0 0 0) (some-injective _ _ e) record { seen = ([], refl); told = ([], refl); known = omega arith; told_known = omega arith; first = λ _. (refl, refl, refl) }
      one (suc seat) v e = absurd (some-ne-none v (sym e))

  -- all passes fit if the others do, and the one that changed does
  fits_set : (list : List W) (h log_seat : ℕ) (views : List (View W)) (seat : ℕ) (w : View W) → ((j : ℕ) (u : View W) → j ≢ seat → get_elem? views j ≡ some u → Fits list h log_seat j u) → Fits list h log_seat seat w
      → (j : ℕ) (u : View W) → get_elem? (set views seat w) j ≡ some u → Fits list h log_seat j u
  fits_set list h log_seat views seat w others mine j u e =
      ⊎_elim
      (λ (x : (j ≡ seat) × (w ≡ u)). subst (λ (y : ℕ × View W). Fits list h log_seat y.0 y.1) (λ i. (sym x.0 i, x.1 i)) mine)
      (λ (x : (j ≢ seat) × (get_elem? views j ≡ some u)). others j u x.0 x.1)
      (at_set views seat j w u e)

  -- what a pass knows after a load: the whole list
  seeing : View W → List W → ℕ → View W
  seeing v list horizon = record { leads = v.leads; seen = list; horizon = horizon; told = []; told_horizon = 0 }

  pub loads_place : (slots id : ℕ) (me : Me (Unit {0}) (View W)) → Allows Kept slots id me 0 (λ n. n) (LoadedPlace (step slots 0 0 0 none) me)
  unfolding seeing
  loads_place slots id me s k _ at _ =
      let v = me.0 in
      let f = k.passes id v at in
      let knows : ℕ = max v.horizon v.told_horizon in
      let w = seeing v k.list knows in
      let up : knows ≤ k.horizon = omega (arith, f.known, f.told_known) in
      let top : v.leads ≡ true → knows ≡ v.horizon = λ l. let is = (f.first l).2 in omega (arith, f.told_known, is) in
      let n = ap (λ ws. slice_index ws 0) k.words in (
        w,
        keeps,
        tt,
        record {
          list = k.list;
          horizon = k.horizon;
          log_seat = k.log_seat;
          words = ap (λ ws. slice_set ws 0 (slice_index ws 0)) k.words;
          below = k.below;
          passes = fits_set k.list k.horizon k.log_seat s.views id w (λ j u _ e. k.passes j u e)
              record { seen = prefix_self k.list; told = (k.list, refl); known = up; told_known = omega arith; first = λ l. ((f.first l).0, refl, top l ∙ (f.first l).2) };
        },
        (
          refl,
          record { leads = refl; seen = f.seen; told = f.told; known = omega arith; below = omega (arith, up, k.below); rest = refl; same = λ l. (sym (f.first l).1, top l) },
          sym n,
          refl,
        ),
      )

  pub loads_horizon : (slots id : ℕ) (me : Me (Unit {0}) (View W)) → Allows Kept slots id me 1 (λ n. n) (LoadedHorizon (step slots 1 0 0 none) me)
  unfolding seeing
  loads_horizon slots id me s k _ at _ =
      let v = me.0 in
      let f = k.passes id v at in
      let w = seeing v k.list k.horizon in
      let n = ap (λ ws. slice_index ws 1) k.words in (
        w,
        keeps,
        tt,
        record {
          list = k.list;
          horizon = k.horizon;
          log_seat = k.log_seat;
          words = ap (λ ws. slice_set ws 1 (slice_index ws 1)) k.words;
          below = k.below;
          passes = fits_set k.list k.horizon k.log_seat s.views id w (λ j u _ e. k.passes j u e)
              record { seen = prefix_self k.list; told = (k.list, refl); known = omega arith; told_known = omega arith; first = λ l. ((f.first l).0, refl, refl) };
        },
        (
          refl,
          record { leads = refl; seen = f.seen; told = f.told; known = omega (arith, f.known, f.told_known); below = k.below; rest = refl; same = λ l. (sym (f.first l).1, sym (f.first l).2) },
          sym n,
        ),
      )

  -- a longer list is still begun by what the others have seen; only the log's pass has to see all of it
  grown : (list added : List W) (h log_seat seat : ℕ) (v : View W) → seat ≢ log_seat → Fits list h log_seat seat v → Fits (list ++ added) h log_seat seat v
  grown list added h log_seat seat v apart f = record {
    seen = prefix_trans v.seen list (list ++ added) f.seen (prefix_more list added);
    told = prefix_trans v.told list (list ++ added) f.told (prefix_more list added);
    known = f.known;
    told_known = f.told_known;
    first = λ l. absurd (apart (f.first l).0);
  }

  pub advances : (slots id to : ℕ) (me : Me (Unit {0}) (View W)) (added : List W) → me.0.leads ≡ true → to ≡ length me.0.seen + length added → Allows Kept slots id me 0 (λ n. max n to) (Advanced added (step slots 0 to 0 none) me)
  advances slots id to me added leads is s k _ at _ =
      let v = me.0 in
      let f = k.passes id v at in
      let first = f.first leads in
      let list = k.list ++ added in
      let w = leader (v.seen ++ added) v.horizon in
      let n = ap (λ ws. slice_index ws 0) k.words in
      let long : length v.seen ≡ length k.list = ap length first.1 in
      let all : v.seen ++ added ≡ list = ap (λ l. l ++ added) first.1 in
      let grows : max (length k.list) to ≡ length list = omega (arith, length-append k.list added) in (
        w,
        keeps,
        tt,
        record {
          list = list;
          horizon = k.horizon;
          log_seat = k.log_seat;
          words = ap (λ ws. slice_set ws 0 (max (slice_index ws 0) to)) k.words ∙ ap (λ (m : ℕ). m ∷ k.horizon ∷ []) grows;
          below = omega (arith, length-append k.list added, k.below);
          passes = fits_set list k.horizon k.log_seat s.views id w (λ j u apart e. grown k.list added k.horizon k.log_seat j u (λ j_is. apart (j_is ∙ sym first.0)) (k.passes j u e))
              record { seen = ([], append-nil (v.seen ++ added) ∙ all); told = (list, refl); known = f.known; told_known = omega arith; first = λ _. (first.0, all, first.2) };
        },
        (refl, refl, n ∙ sym long),
      )

  -- a higher horizon is still at or above what each pass knows of it
  raised : (list : List W) (h h' log_seat seat : ℕ) (v : View W) → h ≤ h' → seat ≢ log_seat → Fits list h log_seat seat v → Fits list h' log_seat seat v
  raised list h h' log_seat seat v le apart f = record {
    seen = f.seen;
    told = f.told;
    known = omega (arith, le, f.known);
    told_known = omega (arith, le, f.told_known);
    first = λ l. absurd (apart (f.first l).0);
  }

  pub raises : (slots id to : ℕ) (me : Me (Unit {0}) (View W)) → me.0.leads ≡ true → to ≤ length me.0.seen → Allows Kept slots id me 1 (λ n. max n to) (Raised (step slots 1 to 0 none) me)
  raises slots id to me leads le s k _ at _ =
      let v = me.0 in
      let f = k.passes id v at in
      let first = f.first leads in
      let h = max k.horizon to in
      let w = leader v.seen (max v.horizon to) in
      let n = ap (λ ws. slice_index ws 1) k.words in
      let long : length v.seen ≡ length k.list = ap length first.1 in
      let up : k.horizon ≤ h = omega arith in
      let is : max v.horizon to ≡ h = ap (λ (x : ℕ). max x to) first.2 in (
        w,
        keeps,
        tt,
        record {
          list = k.list;
          horizon = h;
          log_seat = k.log_seat;
          words = ap (λ ws. slice_set ws 1 (max (slice_index ws 1) to)) k.words;
          below = omega (arith, k.below, le, long);
          passes = fits_set k.list h k.log_seat s.views id w (λ j u apart e. raised k.list k.horizon h k.log_seat j u up (λ j_is. apart (j_is ∙ sym first.0)) (k.passes j u e))
              record { seen = f.seen; told = (k.list, refl); known = omega (arith, is); told_known = omega arith; first = λ _. (first.0, first.1, is) };
        },
        (refl, refl, n ∙ sym first.2),
      )

  -- a note of what a pass has seen
  pub splits : (id : ℕ) (v : View W) → Splits {S = Unit {0}} Kept id v v (note v)
  splits id v s k at =
      let f = k.passes id v at in record {
        list = k.list;
        horizon = k.horizon;
        log_seat = k.log_seat;
        words = k.words;
        below = k.below;
        passes = λ j u e. ⊎_elim
            (λ was. k.passes j u (subst (λ l. get_elem? l j ≡ some u) (set_again s.views id v at) was))
            (λ (same : note v ≡ u). subst (Fits k.list k.horizon k.log_seat j) same record { seen = f.seen; told = (k.list, refl); known = f.known; told_known = omega arith; first = λ l. absurd (false≢true l) })
            (at_snoc (set s.views id v) (note v) u j e);
      }

  -- a note that another pass takes in
  pub joins : (id : ℕ) (v : View W) (other : ℕ) (u : View W) → u.leads ≡ false → Joins {S = Unit {0}} Kept id v other u (told_of v u) nobody
  joins id v other u follows s k at apart there =
      let w = told_of v u in
      let f = k.passes id v at in
      let theirs : Fits k.list k.horizon k.log_seat other u = ⊎_elim (λ (t : (other ≡ id) × (w ≡ u)). absurd (apart t.0)) (λ (t : (other ≢ id) × (get_elem? s.views other ≡ some u)). k.passes other u t.1) (at_set s.views id other w u there) in
      record {
        list = k.list;
        horizon = k.horizon;
        log_seat = k.log_seat;
        words = k.words;
        below = k.below;
        passes = fits_set k.list k.horizon k.log_seat (set s.views id w) other nobody
            (λ j x _ e. fits_set k.list k.horizon k.log_seat s.views id w (λ i y _ e'. k.passes i y e')
            record { seen = f.seen; told = theirs.seen; known = f.known; told_known = theirs.known; first = f.first } j x e)
            record { seen = (k.list, refl); told = (k.list, refl); known = omega arith; told_known = omega arith; first = λ l. absurd (false≢true l) };
      }
