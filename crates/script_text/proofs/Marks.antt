-- The words in front that have the mark of a change.
use Rattle.std.proofs.Common.{◌≡◌, ℕ, zero, suc, ◌<◌, ◌≤◌, Bool, true, false, not, List, [], ◌∷◌, ◌++◌, map, length, get_or, take, drop, Some, None, refl, sym, ap, ◌∙◌, subst, Bor, arith}
use Rattle.std.specs.List.{list_all, position, position_or_len}
use Rattle.std.proofs.lemmas.Bool.Decides.{nat_tests}
use Rattle.std.proofs.lemmas.Bool.{and_from}
use Rattle.std.proofs.lemmas.List.{map-append, take-append-drop, take_all, drop_more}
use Rattle.std.proofs.lemmas.List.Quantifiers.{position-Some}
use Rattle.std.proofs.lemmas.List.Sums.{fails_before_first}
use Rattle.script_text.specs.Words.{AreBehind, is_marked}
use Rattle.script_text.proofs.Lists.{not_false, not_true}

abbrev texts : List (Bor (List ℕ)) → List (List ℕ)
texts = map (λ (w : Bor (List ℕ)). w.now)

abbrev lacks_mark : Bor (List ℕ) → Bool
lacks_mark w = not (is_marked w.now)

marks : (words : List (Bor (List ℕ))) (at : ℕ) (d : Bor (List ℕ)) → at ≤ length words → ((k : ℕ) → k < at → lacks_mark (get_or words k d) ≡ false) → list_all is_marked (texts (take at words)) ≡ true
marks words zero d le each = refl
marks [] (suc at) d le each = absurd (omega arith)
marks (w ∷ words) (suc at) d le each =
    and_from (is_marked w.now) (list_all is_marked (texts (take at words))) (not_false (is_marked w.now) (lacks_mark w) refl (each 0 (omega arith)))
    (marks words at d (omega arith) (λ k lt. each (suc k) (omega arith)))

pub marked_all : (words : List (Bor (List ℕ))) → position lacks_mark words ≡ None → list_all is_marked (texts words) ≡ true
marked_all [] none = refl
marked_all (w ∷ words) none =
    let all : length (w ∷ words) ≤ position_or_len lacks_mark (w ∷ words) = grind (arith, nat_tests) in
    subst (λ (l : List (Bor (List ℕ))). list_all is_marked (texts l) ≡ true) (take_all (length (w ∷ words)) (w ∷ words) (omega arith))
    (marks (w ∷ words) (length (w ∷ words)) w (omega arith) (λ k lt. fails_before_first lacks_mark (w ∷ words) k w (omega arith)))

nowhere : (at : ℕ) → position lacks_mark [] ≡ Some at → ⊥
nowhere at is = cc

pub marked_before : (words : List (Bor (List ℕ))) (at : ℕ) → position lacks_mark words ≡ Some at → list_all is_marked (texts (take at words)) ≡ true
marked_before [] at is = absurd (nowhere at is)
marked_before (w ∷ words) at is =
    let found = position-Some lacks_mark (w ∷ words) at w is in
    marks (w ∷ words) at w (omega (arith, found.0)) found.2

pub cut_whole : (words : List (Bor (List ℕ))) (at : ℕ) → texts words ≡ texts (take at words) ++ texts (drop at words)
cut_whole words at = ap texts (sym (take-append-drop at words)) ∙ map-append (λ (w : Bor (List ℕ)). w.now) (take at words) (drop at words)

pub cut_behind : (words : List (Bor (List ℕ))) (at : ℕ) → position lacks_mark words ≡ Some at → AreBehind (texts (drop at words))
cut_behind [] at is = absurd (nowhere at is)
cut_behind (w ∷ words) at is =
    let found = position-Some lacks_mark (w ∷ words) at w is in
    subst (λ (l : List (Bor (List ℕ))). AreBehind (texts l)) (sym (drop_more (w ∷ words) at w found.0))
    (not_true (is_marked (get_or (w ∷ words) at w).now) (lacks_mark (get_or (w ∷ words) at w)) refl found.1)
