-- One more element of a list.
use Rattle.std.proofs.Common.{◌≡◌, ℕ, ◌+◌, ◌<◌, ◌≤◌, Bool, true, List, [], ◌∷◌, ◌++◌, map, length, drop, get_or, sym, ap, ◌∙◌}
use Rattle.std.proofs.lemmas.List.{append_assoc, at_drop_all, at_drop_more}
use Rattle.serde_json.specs.Data.{Data}
use Rattle.serde_json.specs.View.{items_of}
use Rattle.serde_json.specs.Written.{comma_if, compact_text, items_text}

moved : (text comma one rest : List ℕ) → (text ++ (comma ++ one)) ++ rest ≡ text ++ (comma ++ (one ++ rest))
moved text comma one rest = append_assoc text (comma ++ one) rest ∙ ap (λ (l : List ℕ). text ++ l) (append_assoc comma one rest)

pub one_more : {A : Type 0} (json : A → Data) (xs : List A) (i : ℕ) (x : A) (later : Bool) (text whole : List ℕ)
    → i < length xs → x ≡ get_or xs i x
    → text ++ items_text later (items_of (map json (drop i xs))) ≡ whole
    → (text ++ (comma_if later ++ compact_text (json x))) ++ items_text true (items_of (map json (drop (i + 1) xs))) ≡ whole
one_more {A} json xs i x later text whole within here e =
    let F : List A → List ℕ = λ (l : List A). items_text later (items_of (map json l)) in
    let step : F (drop i xs) ≡ F (get_or xs i x ∷ drop (i + 1) xs) = at_drop_more F xs i x within in
    let named : F (get_or xs i x ∷ drop (i + 1) xs) ≡ F (x ∷ drop (i + 1) xs) = ap (λ (y : A). F (y ∷ drop (i + 1) xs)) (sym here) in
    moved text (comma_if later) (compact_text (json x)) (items_text true (items_of (map json (drop (i + 1) xs))))
    ∙ ap (λ (l : List ℕ). text ++ l) (sym (step ∙ named)) ∙ e

-- the end of the list
pub none_more : {A : Type 0} (json : A → Data) (xs : List A) (i : ℕ) (later : Bool) (text whole : List ℕ) → length xs ≤ i
    → text ++ items_text later (items_of (map json (drop i xs))) ≡ whole → text ++ 93 ∷ [] ≡ whole
none_more {A} json xs i later text whole past e =
    let F : List A → List ℕ = λ (l : List A). items_text later (items_of (map json l)) in
    let none : F (drop i xs) ≡ 93 ∷ [] = at_drop_all F xs i past in
    ap (λ (l : List ℕ). text ++ l) (sym none) ∙ e
