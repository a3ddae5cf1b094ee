-- A text is cut at a mark in one way.
use Rattle.std.proofs.Common.{◌≡◌, ℕ, suc, ◌<◌, ◌≤◌, false, eqb, List, [], ◌∷◌, ◌++◌, length, get_or, take, drop, Some, None, refl, ap, ◌∙◌, arith, ◌≢◌, All}
use Rattle.std.specs.List.{position, position_or_len}
use Rattle.std.proofs.lemmas.List.{get_or-take, length-take-le}
use Rattle.std.proofs.lemmas.List.Folds.{list_any_none}
use Rattle.std.proofs.lemmas.List.Quantifiers.{position-Some}
use Rattle.std.proofs.lemmas.List.Sums.{fails_before_first}
use Rattle.std.proofs.lemmas.List.Elements.{All-from_get_or, All-weaker}
use Rattle.std.proofs.lemmas.Bool.Decides.{nat_tests}
use Rattle.std.proofs.lemmas.Bool.{ne_eqb}
use Rattle.std.proofs.Math.Seq.{split_at}
use Rattle.tuples.specs.Parsing.{Lacks, IsCut}

-- by a mark that neither front has, two cuts of one text are the same
pub cut_once : (mark : ℕ) (a b c d : List ℕ) → Lacks mark a → Lacks mark c → a ++ mark ∷ b ≡ c ++ mark ∷ d → (a ≡ c) × (b ≡ d)
cut_once mark [] b [] d ha hc e = (refl, cc)
cut_once mark [] b (y ∷ c) d ha hc e =
    let first : mark ≡ y = cc in
    absurd (grind (arith, nat_tests))
cut_once mark (x ∷ a) b [] d ha hc e =
    let first : x ≡ mark = cc in
    absurd (grind (arith, nat_tests))
cut_once mark (x ∷ a) b (y ∷ c) d ha hc e =
    let first : x ≡ y = cc in
    let more : a ++ mark ∷ b ≡ c ++ mark ∷ d = cc in
    let la : Lacks mark a = grind (arith, nat_tests) in
    let lc : Lacks mark c = grind (arith, nat_tests) in
    let rest = cut_once mark a b c d la lc more in
    (cc, rest.1)

-- a text with no such byte is cut nowhere
pub cut_nowhere : (mark : ℕ) (front back : List ℕ) → Lacks mark (front ++ mark ∷ back) → ⊥
cut_nowhere mark [] back h = grind (arith, nat_tests)
cut_nowhere mark (x ∷ front) back h =
    let rest : Lacks mark (front ++ mark ∷ back) = grind (arith, nat_tests) in
    cut_nowhere mark front back rest

-- the cut at the place where the byte stands first
pub cut_at_place : (mark : ℕ) (text : List ℕ) (at : ℕ) → position (λ b. eqb b mark) text ≡ Some at → IsCut mark text (take at text) (drop (suc at) text)
cut_at_place mark text at e =
    let found = position-Some (λ b. eqb b mark) text at 0 e in
    let inside : at < length text = found.0 in
    let here : get_or text at 0 ≡ mark = grind (arith, nat_tests, found.1) in
    let front = take at text in
    let long : length front ≡ at = length-take-le at text (omega arith) in
    record {
      first = list_any_none (λ b. eqb b mark) front (All-from_get_or (λ b. eqb b mark ≡ false) front 0 (λ k h. let lt : k < at = omega arith in ap (λ b. eqb b mark) (get_or-take at text k 0 lt) ∙ found.2 k lt));
      whole = split_at text at 0 inside ∙ ap (λ b. front ++ b ∷ drop (suc at) text) here;
    }

-- no place, no such byte
pub lacks_without_place : (mark : ℕ) (text : List ℕ) → position (λ b. eqb b mark) text ≡ None → Lacks mark text
lacks_without_place mark text e =
    let all : length text ≤ position_or_len (λ b. eqb b mark) text = grind (arith, nat_tests) in
    list_any_none (λ b. eqb b mark) text (All-from_get_or (λ b. eqb b mark ≡ false) text 0 (λ k h. fails_before_first (λ b. eqb b mark) text k 0 (omega arith)))

-- a text whose bytes are all others lacks a mark
pub lacks_everywhere : (mark : ℕ) (text : List ℕ) → All (λ b. b ≢ mark) text → Lacks mark text
lacks_everywhere mark text none = list_any_none (λ b. eqb b mark) text (All-weaker (λ b. b ≢ mark) (λ b. eqb b mark ≡ false) (λ b other. ne_eqb b mark other) text none)
