-- Lists of texts, read one by one.
use Rattle.std.proofs.Common.{◌≡◌, ℕ, suc, zero, ◌+◌, ◌<◌, List, [], ◌∷◌, ◌++◌, map, take, length, get_or, sym, subst, ap, ◌∙◌, ◌⊎◌, inl, inr, arith, refl}
use Rattle.std.specs.List.{All}
use Rattle.std.proofs.lemmas.List.{map-append}
use Rattle.std.proofs.lemmas.List.Elements.{All-head, All-push, All-tail}
use Rattle.refusal.specs.declared.refusal.Refusal.{Refusal}
use Rattle.refusal.specs.declared.refusal.Refusal.TheVariants.{BadTuple, NoMemory}
use Rattle.tuples.specs.declared.change.Change.{Change}
use Rattle.tuples.specs.Changes.{changed, tuple_of}
use Rattle.tuples.specs.Names.{IsName}
use Rattle.tuples.specs.Parsing.{Refuses, own_text}
use Rattle.tuples.specs.Texts.{IsTuple, tuple_text}
use Rattle.json_lines.specs.declared.shape.ChangeShape.{ChangeShape}
use Rattle.json_lines.specs.Causes.{AreTuples, changed_text}
use Rattle.json_lines.specs.Lines.{written_change}
use Rattle.json_lines.specs.Shapes.{change_json}
use Rattle.json_lines.specs.Spelling.{IsMisspelled, ReadsChange}
use Rattle.json_lines.proofs.Values.{map_more}

pub value_at : {A B C : Type 0} (f : A → C) (g : B → C) (P : B → Type 0) (xs : List A) (ys : List B) (i : ℕ) (d : A) → i < length xs → map f xs ≡ map g ys → All P ys → (y : B) × P y × (f (get_or xs i d) ≡ g y)
value_at f g P [] ys i d h e each = absurd (omega arith)
value_at f g P (x ∷ xs) [] i d h e each = absurd cc
value_at f g P (x ∷ xs) (y ∷ ys) zero d h e each = (y, All-head P y ys each, cc)
value_at f g P (x ∷ xs) (y ∷ ys) (suc i) d h e each =
    let more : map f xs ≡ map g ys = cc in
    value_at f g P xs ys i d (omega arith) more (All-tail P y ys each)

-- one more text
pub texts_more : {A B C : Type 0} (f : A → C) (g : B → C) (P : B → Type 0) (xs : List A) (ys zs : List B) (i : ℕ) (d : A) (y : B) → i < length xs → (map f (take i xs) ≡ map g ys) × All P ys → P y → f (get_or xs i d) ≡ g y
    → zs ≡ ys ++ y ∷ [] → (map f (take (i + 1) xs) ≡ map g zs) × All P zs
texts_more {A} {B} {C} f g P xs ys zs i d y h so_far valid text pushed =
    let more : map f (take (i + 1) xs) ≡ map g (ys ++ y ∷ []) = map_more f g xs ys i d y h so_far.0 text in
    (more ∙ ap (map g) (sym pushed), subst (λ (l : List B). All P l) (sym pushed) (All-push P ys y so_far.1 valid))

-- a text that is not valid
pub texts_refused : {A B C : Type 0} (f : A → C) (g : B → C) (P : B → Type 0) (xs : List A) (i : ℕ) (d : A) (e : Refusal) → i < length xs → IsMisspelled (λ y. P y × (f (get_or xs i d) ≡ g y)) e
    → IsMisspelled (λ (ys : List B). (map f xs ≡ map g ys) × All P ys) e
texts_refused f g P xs i d e h (inl r) = inl (r.0, λ ys are. let v = value_at f g P xs ys i d h are.0 are.1 in r.1 v.0 (v.1, v.2))
texts_refused f g P xs i d e h (inr r) = inr r

pub misspelled : {B : Type 0} (IsRead : B → Type 0) (e : Refusal) → (e ≡ BadTuple) ⊎ (e ≡ NoMemory) → (e ≡ BadTuple → (b : B) → IsRead b → ⊥) → IsMisspelled IsRead e
misspelled IsRead e (inl was) none = inl (was, none was)
misspelled IsRead e (inr was) none = inr was

pub own_texts : {A : Type 0} (xs : List A) → map (λ x. x) xs ≡ xs
own_texts [] = refl
own_texts {A} (x ∷ xs) = ap (λ (l : List A). x ∷ l) (own_texts xs)

-- one more change
pub changes_more : (xs : List ChangeShape) (ys zs : List Change) (i : ℕ) (d : ChangeShape) (y : Change) → i < length xs → map change_json (take i xs) ≡ map written_change ys → AreTuples (map changed_text (take i xs)) (changed ys) → ReadsChange (get_or xs i d) y
    → zs ≡ ys ++ y ∷ [] → (map change_json (take (i + 1) xs) ≡ map written_change zs) × AreTuples (map changed_text (take (i + 1) xs)) (changed zs)
changes_more xs ys zs i d y h json tuples reads pushed =
    let all : changed zs ≡ changed ys ++ tuple_of y ∷ [] = ap (map tuple_of) pushed ∙ map-append tuple_of ys (y ∷ []) in
    let more : map change_json (take (i + 1) xs) ≡ map written_change (ys ++ y ∷ []) = map_more change_json written_change xs ys i d y h json reads.json in
    (more ∙ ap (map written_change) (sym pushed), texts_more changed_text tuple_text IsTuple xs (changed ys) (changed zs) i d (tuple_of y) h tuples reads.spelled reads.text all)

pub names_more : {A : Type 0} (f : A → List ℕ) (xs : List A) (ys zs : List (List ℕ)) (i : ℕ) (d : A) (y : List ℕ) → i < length xs → (map f (take i xs) ≡ ys) × All IsName ys → IsName y → f (get_or xs i d) ≡ y
    → zs ≡ ys ++ y ∷ [] → (map f (take (i + 1) xs) ≡ zs) × All IsName zs
names_more f xs ys zs i d y h so_far valid text pushed =
    let more = texts_more f (λ (n : List ℕ). n) IsName xs ys zs i d y h (so_far.0 ∙ sym (own_texts ys), so_far.1) valid text pushed in
    (more.0 ∙ own_texts zs, more.1)

pub names_refused : {A : Type 0} (f : A → List ℕ) (xs : List A) (i : ℕ) (d : A) (e : Refusal) → i < length xs → Refuses IsName own_text (f (get_or xs i d)) e → IsMisspelled (λ (ys : List (List ℕ)). (map f xs ≡ ys) × All IsName ys) e
names_refused f xs i d e h (inl bad) =
    inl (bad.0, λ ys are. let v = value_at f (λ (n : List ℕ). n) IsName xs ys i d h (are.0 ∙ sym (own_texts ys)) are.1 in bad.1 v.0 v.1 v.2)
names_refused f xs i d e h (inr memory) = inr memory
