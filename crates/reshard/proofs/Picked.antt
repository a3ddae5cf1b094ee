-- The list that the merged one begins with, found from the last one on.
use Rattle.std.proofs.Common.{◌≡◌, ◌≤◌, ◌<◌, ◌+◌, ◌-◌, ℕ, suc, true, true≢false, false, List, [], ◌∷◌, get_or, set, drop, length, refl, sym, ◌∙◌, ap, subst, arith}
use Rattle.std.proofs.lemmas.List.{drop_more, get_or-drop}
use Rattle.tuples.specs.declared.version.Version.{Version}
use Rattle.reshard.specs.Merging.{is_lower, merge, merged}
use Rattle.reshard.specs.Picking.{BeginsWith, Picks}

-- one more list, before those of which one was picked
module _ (w : List Version) (ws : List (List Version)) (i : ℕ) where
  -- the one that was picked has a lower version first
  stays : (l : List Version) → BeginsWith ws i l → is_lower l w ≡ true → BeginsWith (w ∷ ws) (suc i) l
  stays [] begins lower = absurd (true≢false (sym lower))
  stays (v ∷ rest) begins lower = by w lower
    where
      by : (w : List Version) → is_lower (v ∷ rest) w ≡ true → merge w (merged ws) ≡ v ∷ merge w (merged (set ws i rest))
      by [] low = begins
      by (x ∷ xs) low = ap (merge (x ∷ xs)) begins ∙ rw low refl

  -- it has not
  goes : (l : List Version) → BeginsWith ws i l → is_lower l w ≡ false → BeginsWith (w ∷ ws) 0 w
  goes l begins not = by w l begins not
    where
      by : (w l : List Version) → BeginsWith ws i l → is_lower l w ≡ false → BeginsWith (w ∷ ws) 0 w
      by [] [] none low = none
      by [] (v ∷ rest) some low = absurd (true≢false low)
      by (x ∷ xs) [] none low = ap (merge (x ∷ xs)) none ∙ ap (λ (l : List Version). x ∷ merge xs l) (sym none)
      by (x ∷ xs) (v ∷ rest) some low = ap (merge (x ∷ xs)) some ∙ rw low (ap (λ (l : List Version). x ∷ merge xs l) (sym some))

  pub pick_stays : Picks ws i → is_lower (get_or ws i []) w ≡ true → Picks (w ∷ ws) (suc i)
  pick_stays picks lower = stays (get_or ws i []) picks lower

  pub pick_goes : Picks ws i → is_lower (get_or ws i []) w ≡ false → Picks (w ∷ ws) 0
  pick_goes picks not = goes (get_or ws i []) picks not

-- picked among the lists from an index on
pub record PicksFrom (lists : List (List Version)) (index least : ℕ) : Type 0 where
  pub within : index ≤ length lists
  pub behind : index ≤ least
  pub picks : Picks (drop index lists) (least - index)

module _ (lists : List (List Version)) (index least : ℕ) (before : PicksFrom lists index least) (some : 0 < index) where
  abbrev here : List Version
  here = get_or lists (index - 1) []

  whole : drop (index - 1) lists ≡ here ∷ drop index lists
  whole =
      let a = before.within in
      drop_more lists (index - 1) [] (omega (arith, a, some)) ∙ ap (λ (n : ℕ). here ∷ drop n lists) (let same : index - 1 + 1 ≡ index = omega (arith, some) in same)

  there : get_or (drop index lists) (least - index) [] ≡ get_or lists least []
  there =
      let b = before.behind in
      get_or-drop index lists (least - index) [] ∙ ap (λ (n : ℕ). get_or lists n []) (let same : index + (least - index) ≡ least = omega (arith, b) in same)

  pub picks_stays : is_lower (get_or lists least []) here ≡ true → PicksFrom lists (index - 1) least
  picks_stays lower = record {
    within = (let a = before.within in omega (arith, a));
    behind = (let b = before.behind in omega (arith, b));
    picks =
        let b = before.behind in
        let next : suc (least - index) ≡ least - (index - 1) = omega (arith, b, some) in
        subst (Picks (drop (index - 1) lists)) next
        (subst (λ (l : List (List Version)). Picks l (suc (least - index))) (sym whole)
        (pick_stays here (drop index lists) (least - index) before.picks (subst (λ (l : List Version). is_lower l here ≡ true) (sym there) lower)));
  }

  pub picks_goes : is_lower (get_or lists least []) here ≡ false → PicksFrom lists (index - 1) (index - 1)
  picks_goes not = record {
    within = (let a = before.within in omega (arith, a));
    behind = omega arith;
    picks =
        let none : 0 ≡ index - 1 - (index - 1) = omega arith in
        subst (Picks (drop (index - 1) lists)) none
        (subst (λ (l : List (List Version)). Picks l 0) (sym whole)
        (pick_goes here (drop index lists) (least - index) before.picks (subst (λ (l : List Version). is_lower l here ≡ false) (sym there) not)));
  }

-- ---- the next one is told
