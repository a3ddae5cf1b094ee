-- What is spelled is read again, whatever stands behind the closed gate.
use Rattle.std.proofs.Common.{◌≡◌, ◌≢◌, ℕ, zero, suc, true, false, not, ◌+◌, ◌<◌, ◌≤◌, ◌==◌, ◌&&◌, nat_lt, List, [], ◌∷◌, ◌++◌, length, take, drop, get_or, Some, None, refl, sym, ◌∙◌, ap, arith, cond, append_assoc, length-append}
use Rattle.std.proofs.lemmas.Bool.{lt-ltb, le-leb, ne_eqb, and_right, and_left, and_from}
use Rattle.std.proofs.lemmas.List.{take_at, drop_at, drop-drop}
use Rattle.std.proofs.lemmas.Nat.{from_be_bytes-to_be_bytes_4}
use Rattle.std.specs.Int.{w32, to_be_bytes}
use Rattle.gated.specs.Gated.{gate_is_open, body_length, behind, is_whole, with_front, gated_within, gated, spelled, Fits, AllFit}

closed_gate : (g : ℕ) (t : List ℕ) → g ≢ 165 → gate_is_open (g ∷ t) ≡ false
closed_gate g t ne = and_right (nat_lt 1 (length (g ∷ t))) (g == 165) (ne_eqb g 165 ne)

module _ (b rest : List ℕ) (fits : Fits b) (some : 1 ≤ length rest) (fair : ((length rest == 1) && (get_or rest 0 0 == 165)) ≡ false) where
  abbrev content : List ℕ
  content = 165 ∷ to_be_bytes w32 (length b) ++ b ++ rest

  length_is : body_length content ≡ length b
  length_is = from_be_bytes-to_be_bytes_4 (length b) (omega (arith, fits.1))

  open_gate : gate_is_open content ≡ true
  open_gate = and_from _ _ (lt-ltb 1 (length content) (omega arith)) refl

  behind_is : behind content ≡ rest
  behind_is = ap (λ n. drop (5 + n) content) length_is ∙ sym (drop-drop (length b) 5 content) ∙ drop_at b rest (length b) refl

  body_is : take (body_length content) (drop 5 content) ≡ b
  body_is = ap (λ n. take n (b ++ rest)) length_is ∙ take_at b rest (length b) refl

  whole : is_whole content ≡ true
  whole =
      let long : 5 + body_length content < length content = omega (arith, length_is, length-append b rest) in
      and_from _ _ (le-leb 1 (body_length content) (omega (arith, length_is, fits.0)))
      (and_from _ _ (le-leb (body_length content) 1048576 (omega (arith, length_is, fits.1)))
      (and_from _ _ (lt-ltb (5 + body_length content) (length content) long)
      (ap not (ap (λ (r : List ℕ). (length r == 1) && (get_or r 0 0 == 165)) behind_is ∙ fair))))

  pub within_step : (most : ℕ) → gated_within (suc most) content ≡ with_front b (gated_within most rest)
  within_step most =
      let same : gated_within most (behind content) ≡ gated_within most rest = ap (gated_within most) behind_is in
      ap (λ o. cond o (cond (is_whole content) (with_front (take (body_length content) (drop 5 content)) (gated_within most (behind content))) None) (Some [])) open_gate
      ∙ ap (λ o. cond o (with_front (take (body_length content) (drop 5 content)) (gated_within most (behind content))) None) whole
      ∙ ap (λ (front : List ℕ). with_front front (gated_within most (behind content))) body_is
      ∙ ap (with_front b) same

fair_rest : (bs : List (List ℕ)) (g : ℕ) (t : List ℕ) → g ≢ 165 → ((length (spelled bs (g ∷ t)) == 1) && (get_or (spelled bs (g ∷ t)) 0 0 == 165)) ≡ false
fair_rest [] g t ne = and_right _ _ (ne_eqb g 165 ne)
fair_rest (b ∷ bs) g t ne = and_left _ _ (ne_eqb (length (spelled (b ∷ bs) (g ∷ t))) 1 (λ is. omega (arith, is)))

some_rest : (bs : List (List ℕ)) (g : ℕ) (t : List ℕ) → 1 ≤ length (spelled bs (g ∷ t))
some_rest [] g t = omega arith
some_rest (b ∷ bs) g t = omega arith

within_spelled : (bodies : List (List ℕ)) (g : ℕ) (t : List ℕ) (most : ℕ) → AllFit bodies → g ≢ 165 → length bodies ≤ most → gated_within most (spelled bodies (g ∷ t)) ≡ Some bodies
within_spelled [] g t zero fit ne le = refl
within_spelled [] g t (suc most) fit ne le = rw (closed_gate g t ne) refl
within_spelled (b ∷ bs) g t zero fit ne le = absurd (omega arith)
within_spelled (b ∷ bs) g t (suc most) fit ne le =
    within_step b (spelled bs (g ∷ t)) fit.0 (some_rest bs g t) (fair_rest bs g t ne) most
    ∙ ap (with_front b) (within_spelled bs g t most fit.1 ne (omega arith))

pub length-spelled : (bodies : List (List ℕ)) (rest : List ℕ) → length bodies ≤ length (spelled bodies rest)
length-spelled [] rest = omega arith
length-spelled (b ∷ bs) rest = omega (arith, length-spelled bs rest, length-append b (spelled bs rest))

pub gated_spelled : (bodies : List (List ℕ)) (g : ℕ) (t : List ℕ) → AllFit bodies → g ≢ 165 → gated (spelled bodies (g ∷ t)) ≡ Some bodies
unfolding gated
gated_spelled bodies g t fit ne = within_spelled bodies g t _ fit ne (length-spelled bodies (g ∷ t))

-- the records, and then the rest
pub spelled-split : (bodies : List (List ℕ)) (rest : List ℕ) → spelled bodies rest ≡ spelled bodies [] ++ rest
spelled-split [] rest = refl
spelled-split (b ∷ bs) rest =
    let front = 165 ∷ to_be_bytes w32 (length b) ++ b in
    ap (λ (l : List ℕ). front ++ l) (spelled-split bs rest) ∙ sym (append_assoc front (spelled bs []) rest)

pub spelled-push : (bodies : List (List ℕ)) (b rest : List ℕ) → spelled (bodies ++ b ∷ []) rest ≡ spelled bodies (165 ∷ to_be_bytes w32 (length b) ++ b ++ rest)
spelled-push [] b rest = refl
spelled-push (c ∷ bodies) b rest = ap (λ (l : List ℕ). 165 ∷ to_be_bytes w32 (length c) ++ c ++ l) (spelled-push bodies b rest)

pub fit-push : (bodies : List (List ℕ)) (b : List ℕ) → AllFit bodies → Fits b → AllFit (bodies ++ b ∷ [])
fit-push [] b fit one = (one, tt)
fit-push (c ∷ bodies) b fit one = (fit.0, fit-push bodies b fit.1 one)
