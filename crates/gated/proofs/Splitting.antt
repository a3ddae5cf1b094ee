-- A content that is read record by record.
use Rattle.std.proofs.Common.{◌≡◌, ◌⊎◌, inl, inr, ⊎_elim, ℕ, zero, suc, true, false, ◌+◌, ◌-◌, ◌<◌, ◌≤◌, ◌==◌, ◌&&◌, nat_lt, nat_le, List, [], ◌∷◌, ◌++◌, length, take, drop, get_or, Some, None, refl, sym, ◌∙◌, ap, subst, arith, cond, length-append, length-drop}
use Rattle.std.proofs.lemmas.Bool.{cases_eq, lt-ltb, ne_eqb, eq-eqb, ltb-true, leb-true, cases_lt, and_left, and_from, and_parts, not-true}
use Rattle.std.proofs.lemmas.List.{take_all, drop-drop, take-append-drop, length-take-le, drop_more, get_or-take, get_or-drop, get_or_past, length-take}
use Rattle.std.proofs.lemmas.Nat.{be_bytes_4}
use Rattle.std.specs.Int.{w32, to_be_bytes}
use Rattle.gated.specs.Gated.{gate_is_open, body_length, behind, is_whole, with_front, gated_within, gated, spelled, AllFit, IsSpelled}
use Rattle.gated.proofs.Spelled.{within_step, gated_spelled, spelled-split, spelled-push, fit-push, length-spelled}

-- a rest that an opening may go on with
pub record IsFair (rest : List ℕ) : Type 0 where
  pub some : 1 ≤ length rest
  pub fair : ((length rest == 1) && (get_or rest 0 0 == 165)) ≡ false

-- how far a split has come
pub record Reads (content : List ℕ) (bodies : List (List ℕ)) (end : ℕ) : Type 0 where
  pub fit : AllFit bodies
  pub content_is : content ≡ spelled bodies (drop end content)
  pub end_is : end ≡ length (spelled bodies [])
  pub fair : IsFair (drop end content)

fair_long : (rest : List ℕ) → 2 ≤ length rest → IsFair rest
fair_long rest long = record { some = omega arith; fair = and_left _ _ (ne_eqb (length rest) 1 (λ is. omega (arith, is))) }

one_or_more : (n : ℕ) → 1 ≤ n → (n ≡ 1) ⊎ (1 < n)
one_or_more n some = ⊎_elim (λ is. inl is) (λ ne. inr (omega (arith, ne))) (cases_eq n 1)

unfair : (rest : List ℕ) → IsFair rest → get_or rest 0 0 ≡ 165 → length rest ≡ 1 → ⊥
unfair rest fair is one = let both : ((length rest == 1) && (get_or rest 0 0 == 165)) ≡ true = and_from _ _ (eq-eqb (length rest) 1 one) (eq-eqb (get_or rest 0 0) 165 is) in cc (fair.fair)

-- an open gate that a split meets has something after it
pub gate_opens : (rest : List ℕ) → IsFair rest → get_or rest 0 0 ≡ 165 → gate_is_open rest ≡ true
gate_opens rest fair is =
    let long : 1 < length rest = ⊎_elim (λ (e : length rest ≡ 1). absurd (unfair rest fair is e)) (λ (l : 1 < length rest). l) (one_or_more (length rest) fair.some) in
    and_from _ _ (lt-ltb 1 (length rest) long) (eq-eqb (get_or rest 0 0) 165 is)

whole_parts : (rest : List ℕ) → is_whole rest ≡ true → (1 ≤ body_length rest) × (body_length rest ≤ 1048576) × (5 + body_length rest < length rest) × (((length (behind rest) == 1) && (get_or (behind rest) 0 0 == 165)) ≡ false)
whole_parts rest whole =
    let n = body_length rest in
    let first = and_parts (nat_le 1 n) _ whole in
    let second = and_parts (nat_le n 1048576) _ first.1 in
    let third = and_parts (nat_lt (5 + n) (length rest)) _ second.1 in
    (leb-true 1 n first.0, leb-true n 1048576 second.0, ltb-true (5 + n) (length rest) third.0, not-true _ third.1)

size_bytes : (rest : List ℕ) → ((i : ℕ) → get_or rest i 0 < 256) → (i : ℕ) → get_or (take 4 (drop 1 rest)) i 0 < 256
size_bytes rest bytes i =
    ⊎_elim
    (λ (lt : i < 4). subst (λ x. x < 256) (sym (get_or-take 4 (drop 1 rest) i 0 lt ∙ get_or-drop 1 rest i 0)) (bytes (1 + i)))
    (λ (ge : 4 ≤ i). let past = get_or_past (take 4 (drop 1 rest)) i 0 (omega (arith, ge, length-take 4 (drop 1 rest))) in omega (arith, past))
    (cases_lt i 4)

-- a rest with a whole record in front
rest_is : (rest b : List ℕ) → b ≡ take (body_length rest) (drop 5 rest) → length b ≡ body_length rest → 5 ≤ length rest → ((i : ℕ) → get_or rest i 0 < 256) → get_or rest 0 0 ≡ 165
    → rest ≡ 165 ∷ to_be_bytes w32 (length b) ++ b ++ behind rest
rest_is rest b body len long bytes is =
    let n = body_length rest in
    let size : to_be_bytes w32 n ≡ take 4 (drop 1 rest) = be_bytes_4 (take 4 (drop 1 rest)) n (length-take-le 4 (drop 1 rest) (omega (arith, length-drop 1 rest))) (size_bytes rest bytes) refl in
    let first : rest ≡ 165 ∷ drop 1 rest = drop_more rest 0 0 (omega (arith, long)) ∙ ap (λ g. g ∷ drop 1 rest) is in
    let second : drop 1 rest ≡ take 4 (drop 1 rest) ++ drop 5 rest = sym (take-append-drop 4 (drop 1 rest)) ∙ ap (λ (l : List ℕ). take 4 (drop 1 rest) ++ l) (drop-drop 4 1 rest) in
    let third : drop 5 rest ≡ b ++ behind rest = sym (take-append-drop n (drop 5 rest)) ∙ ap (λ (l : List ℕ). l ++ drop n (drop 5 rest)) (sym body) ∙ ap (λ (l : List ℕ). b ++ l) (drop-drop n 5 rest) in
    first ∙ ap (λ (l : List ℕ). 165 ∷ l) (second ∙ ap (λ (l : List ℕ). take 4 (drop 1 rest) ++ l) third ∙ ap (λ (l : List ℕ). l ++ (b ++ behind rest)) (sym size ∙ ap (to_be_bytes w32) (sym len)))

length-spelled_push : (bodies : List (List ℕ)) (b : List ℕ) → length (spelled (bodies ++ b ∷ []) []) ≡ length (spelled bodies []) + (5 + length b)
length-spelled_push bodies b =
    let more = 165 ∷ to_be_bytes w32 (length b) ++ b ++ [] in
    ap length (spelled-push bodies b [] ∙ spelled-split bodies more) ∙ omega (arith, length-append (spelled bodies []) more, length-append b [])

module _ (content : List ℕ) (bodies : List (List ℕ)) (end : ℕ) (r : Reads content bodies end) where
  gate_there : (x : ℕ) → get_or content end 0 ≡ x → get_or (drop end content) 0 0 ≡ x
  gate_there x is = get_or-drop end content 0 0 ∙ ap (λ i. get_or content i 0) (omega arith) ∙ is

  -- one more record
  pub reads_more : (b : List ℕ) (next : ℕ) → ((i : ℕ) → get_or content i 0 < 256) → get_or content end 0 ≡ 165 → is_whole (drop end content) ≡ true
      → b ≡ take (body_length (drop end content)) (drop 5 (drop end content)) → next ≡ end + (5 + length b) → Reads content (bodies ++ b ∷ []) next
  reads_more b next bytes is whole body next_is =
      let rest = drop end content in
      let n = body_length rest in
      let parts = whole_parts rest whole in
      let len : length b ≡ n = ap length body ∙ length-take-le n (drop 5 rest) (omega (arith, length-drop 5 rest, parts.2)) in
      let there : rest ≡ 165 ∷ to_be_bytes w32 (length b) ++ b ++ behind rest =
      rest_is rest b body len (omega (arith, parts.2)) (λ i. subst (λ x. x < 256) (sym (get_or-drop end content i 0)) (bytes (end + i))) (gate_there 165 is) in
      let behind_is : behind rest ≡ drop next content = drop-drop (5 + n) end content ∙ ap (λ k. drop k content) (omega (arith, next_is, len)) in
      record {
        fit = fit-push bodies b r.fit (omega (arith, len, parts.0), omega (arith, len, parts.1));
        content_is = r.content_is ∙ ap (spelled bodies) there ∙ sym (spelled-push bodies b (behind rest)) ∙ ap (spelled (bodies ++ b ∷ [])) behind_is;
        end_is = omega (arith, next_is, r.end_is, length-spelled_push bodies b);
        fair = subst IsFair behind_is (record { some = omega (arith, parts.2, length-drop (5 + n) rest); fair = parts.3 });
      }

length-behind : (bodies : List (List ℕ)) (rest : List ℕ) → length bodies + length rest ≤ length (spelled bodies rest)
length-behind bodies rest = omega (arith, ap length (spelled-split bodies rest), length-append (spelled bodies []) rest, length-spelled bodies [])

within_damaged : (bodies : List (List ℕ)) (rest : List ℕ) (most : ℕ) → AllFit bodies → gate_is_open rest ≡ true → is_whole rest ≡ false → 1 < length rest → length bodies < most → gated_within most (spelled bodies rest) ≡ None
within_damaged [] rest zero fit opened broken long lt = absurd (omega arith)
within_damaged [] rest (suc most) fit opened broken long lt =
    let found = with_front (take (body_length rest) (drop 5 rest)) (gated_within most (behind rest)) in
    ap (λ o. cond o (cond (is_whole rest) found None) (Some [])) opened ∙ ap (λ o. cond o found None) broken
within_damaged (b ∷ bs) rest zero fit opened broken long lt = absurd (omega arith)
within_damaged (b ∷ bs) rest (suc most) fit opened broken long lt =
    let more = length-behind bs rest in
    let fair = fair_long (spelled bs rest) (omega arith) in
    within_step b (spelled bs rest) fit.0 fair.some fair.fair most ∙ ap (with_front b) (within_damaged bs rest most fit.1 opened broken long (omega arith))

-- an open gate with no whole record after it
pub reads_damaged : (content : List ℕ) (bodies : List (List ℕ)) (end : ℕ) → Reads content bodies end → get_or content end 0 ≡ 165 → is_whole (drop end content) ≡ false → gated content ≡ None
unfolding gated
reads_damaged content bodies end r is broken =
    let rest = drop end content in
    let opened = gate_opens rest r.fair (gate_there content bodies end r 165 is) in
    let long = ltb-true 1 (length rest) (and_parts (nat_lt 1 (length rest)) _ opened).0 in
    ap (gated_within (length content)) r.content_is
    ∙ within_damaged bodies rest (length content) r.fit opened broken long (omega (arith, ap length r.content_is, length-behind bodies rest))

pub spelled_list : (content : List ℕ) (bodies : List (List ℕ)) (end : ℕ) → IsSpelled content bodies end → gated content ≡ Some bodies
spelled_list content bodies end s = ap gated s.content_is ∙ gated_spelled bodies s.gate s.rest s.fit s.closed

-- a content of at most one byte
pub short_list : (content : List ℕ) → length content ≤ 1 → gated content ≡ Some []
unfolding gated
short_list [] le = refl
short_list (x ∷ []) le = refl
short_list (x ∷ y ∷ more) le = absurd (omega arith)

-- the slice of all that is left
pub take-left : (end : ℕ) (content : List ℕ) → take (length content - end) (drop end content) ≡ drop end content
take-left end content = take_all (length content - end) (drop end content) (omega (arith, length-drop end content))
