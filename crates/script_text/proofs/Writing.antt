-- Which words are a write.
use Rattle.std.proofs.Common.{◌≡◌, eqb, ℕ, Bool, true, false, List, [], ◌∷◌, ◌++◌, map, codes, length, refl, sym, ap, ◌∙◌, Bor, arith}
use Rattle.std.specs.List.{list_all}
use Rattle.std.proofs.lemmas.Bool.Decides.{nat_tests}
use Rattle.std.proofs.lemmas.Bool.{both_ways}
use Rattle.script_text.specs.Words.{AreBehind, if_words, is_marked}
use Rattle.tuples.proofs.Lists.{heads, tails}

no_more : {A : Type 0} (x : A) (xs : List A) → [] ≡ x ∷ xs → ⊥
no_more x xs e = cc

-- a test that holds of the first and not of the second
differs : {A : Type 0} (p : A → Bool) (a b : A) → p a ≡ true → p b ≡ false → a ≡ b → ⊥
differs p a b t f e = both_ways (p a) (ap p e ∙ f) t

first_marked : (w : List ℕ) (ws : List (List ℕ)) → list_all is_marked (w ∷ ws) ≡ true → is_marked w ≡ true
first_marked w ws h = grind (arith, nat_tests)

rest_marked : (w : List ℕ) (ws : List (List ℕ)) → list_all is_marked (w ∷ ws) ≡ true → list_all is_marked ws ≡ true
rest_marked w ws h = grind (arith, nat_tests)

nothing_cut : (y : List ℕ) (b c : List (List ℕ)) → AreBehind b → is_marked y ≡ true → b ≡ y ∷ c → ⊥
nothing_cut y [] c behind marked e = no_more y c e
nothing_cut y (x ∷ b) c behind marked e = differs is_marked y x marked behind (sym (heads x y b c e))

-- words are cut in one way after the changes in front
pub cut_marked : (a b c d : List (List ℕ)) → list_all is_marked a ≡ true → list_all is_marked c ≡ true → AreBehind b → AreBehind d → a ++ b ≡ c ++ d → (a ≡ c) × (b ≡ d)
cut_marked [] b [] d ma mc hb hd e = (refl, e)
cut_marked [] b (y ∷ c) d ma mc hb hd e = absurd (nothing_cut y b (c ++ d) hb (first_marked y c mc) e)
cut_marked (x ∷ a) b [] d ma mc hb hd e = absurd (nothing_cut x d (a ++ b) hd (first_marked x a ma) (sym e))
cut_marked (x ∷ a) b (y ∷ c) d ma mc hb hd e =
    let rest = cut_marked a b c d (rest_marked x a ma) (rest_marked y c mc) hb hd (tails x y (a ++ b) (c ++ d) e) in
    (ap (λ (w : List ℕ). w ∷ a) (heads x y (a ++ b) (c ++ d) e) ∙ ap (λ (ws : List (List ℕ)). y ∷ ws) rest.0, rest.1)

pub if_behind : (ws : List (List ℕ)) → AreBehind (if_words ws)
if_behind [] = tt
if_behind (w ∷ ws) = refl

-- `if` and a word
pub behind_if : (words conditions : List (Bor (List ℕ))) (name : Bor (List ℕ)) (none : Bool) → words ≡ name ∷ conditions → name.now ≡ codes "if" → none ≡ eqb (length conditions) 0 → none ≡ false
    → map (λ w. w.now) words ≡ if_words (map (λ w. w.now) conditions)
behind_if words [] name none cut is e some = absurd (both_ways none some e)
behind_if words (c ∷ conditions) name none cut is e some =
    ap (map (λ (w : Bor (List ℕ)). w.now)) cut ∙ ap (λ (t : List ℕ). t ∷ map (λ (w : Bor (List ℕ)). w.now) (c ∷ conditions)) is

pub if_words_once : (a b : List (List ℕ)) → if_words a ≡ if_words b → a ≡ b
if_words_once [] [] e = refl
if_words_once [] (w ∷ b) e = absurd (no_more (codes "if") (w ∷ b) e)
if_words_once (w ∷ a) [] e = absurd (no_more (codes "if") (w ∷ a) (sym e))
if_words_once (w ∷ a) (v ∷ b) e = tails (codes "if") (codes "if") (w ∷ a) (v ∷ b) e
