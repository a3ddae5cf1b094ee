-- What the words of a list say of the values that they spell.
use Rattle.std.proofs.Common.{◌≡◌, subst, true, ℕ, suc, zero, ◌+◌, ◌<◌, List, [], ◌∷◌, map, take, length, get_or, Option, Some, None, MatchOption, is_some, false, sym, ap, ◌∙◌, inl, inr, Bor, arith}
use Rattle.std.specs.List.{All}
use Rattle.std.proofs.lemmas.Bool.{false≢true}
use Rattle.std.proofs.lemmas.List.{take_more, map-append}
use Rattle.std.proofs.lemmas.List.Elements.{All-cons, All-head, All-nil, All-push, All-tail}
use Rattle.tuples.specs.declared.change.Change.{Change}
use Rattle.tuples.specs.declared.change.Condition.{Condition}
use Rattle.tuples.specs.declared.change.Want.{Want}
use Rattle.tuples.specs.declared.tuple.Tuple.{Tuple}
use Rattle.refusal.specs.declared.refusal.Refusal.{Refusal}
use Rattle.tuples.specs.Changes.{changed, conditioned, tuple_of}
use Rattle.tuples.specs.Texts.{IsTuple}
use Rattle.script_text.specs.Texts.{IsWanted, change_text, condition_text}
use Rattle.script_text.specs.Words.{AreChanges, AreConditions, AsksNothing, HasConditionShape, IsAskedOf, IsChangeOf, IsConditionOf}
use Rattle.json_lines.specs.Spelling.{IsMisspelled}
use Rattle.json_lines.proofs.Spelled.{value_at}

-- what holds of each changed tuple holds of the tuple of each change
pub each_change : (P : Tuple → Type 0) (cs : List Change) → All P (changed cs) → All (λ c. P (tuple_of c)) cs
each_change P [] h = All-nil (λ c. P (tuple_of c))
each_change P (c ∷ cs) h = All-cons (λ x. P (tuple_of x)) c cs (All-head P (tuple_of c) (changed cs) h) (each_change P cs (All-tail P (tuple_of c) (changed cs) h))

-- what holds of each conditioned tuple, and what is wanted of it
pub each_condition : (cs : List Condition) → All IsTuple (conditioned cs) → All (λ (c : Condition). IsWanted c.want) cs → All (λ (c : Condition). IsTuple c.tuple × IsWanted c.want) cs
each_condition [] t w = All-nil (λ (c : Condition). IsTuple c.tuple × IsWanted c.want)
each_condition (c ∷ cs) t w = All-cons (λ (x : Condition). IsTuple x.tuple × IsWanted x.want) c cs
    (All-head IsTuple c.tuple (conditioned cs) t, All-head (λ (x : Condition). IsWanted x.want) c cs w)
    (each_condition cs (All-tail IsTuple c.tuple (conditioned cs) t) (All-tail (λ (x : Condition). IsWanted x.want) c cs w))

-- a word that is not a change
pub changes_refused : (words : List (Bor (List ℕ))) (i : ℕ) (d : Bor (List ℕ)) (e : Refusal) → i < length words → IsMisspelled (IsChangeOf (get_or words i d).now) e → IsMisspelled (AreChanges (map (λ w. w.now) words)) e
changes_refused words i d e h (inl r) = inl (r.0, λ changes a. let v = value_at (λ w. w.now) change_text (λ c. IsTuple (tuple_of c)) words changes i d h a.0 (each_change IsTuple changes a.1) in r.1 v.0 (v.1, v.2))
changes_refused words i d e h (inr r) = inr r

abbrev IsAsked : Condition → Type 0
IsAsked c = IsTuple c.tuple × IsWanted c.want

condition_at : (words : List (Bor (List ℕ))) (cs : List Condition) (i : ℕ) (d : Bor (List ℕ)) → i < length words → AreConditions (map (λ w. w.now) words) cs
    → (c : Condition) × IsAsked c × ((get_or words i d).now ≡ condition_text c)
condition_at words cs i d h a = value_at (λ w. w.now) condition_text IsAsked words cs i d h a.0 (each_condition cs a.1 a.2)

-- a word that is not a condition
pub conditions_refused : (words : List (Bor (List ℕ))) (i : ℕ) (d : Bor (List ℕ)) (e : Refusal) → i < length words
    → IsMisspelled (IsConditionOf (get_or words i d).now) e → IsMisspelled (AreConditions (map (λ w. w.now) words)) e
conditions_refused words i d e h (inl r) = inl (r.0, λ cs a. let v = condition_at words cs i d h a in r.1 v.0 (v.1.0, v.1.1, v.2))
conditions_refused words i d e h (inr r) = inr r

pub asked_none : (word : List ℕ) (r : Option (Bor (List ℕ) × Want)) → MatchOption r (AsksNothing word) (λ parts. IsAskedOf word parts.0.now parts.1) → is_some r ≡ false → HasConditionShape word → ⊥
asked_none word None h none shape = h shape.0 shape.1 shape.2 shape.3
asked_none word (Some parts) h none shape = absurd (false≢true (sym none))

pub asked_some : (word : List ℕ) (r : Option (Bor (List ℕ) × Want)) → MatchOption r (AsksNothing word) (λ parts. IsAskedOf word parts.0.now parts.1) → is_some r ≡ true → HasConditionShape word
asked_some word None h some = absurd (false≢true some)
asked_some word (Some parts) h some = (parts.0.now, parts.1, h.wanted, h.whole)

-- what holds of each text holds of that of the word at a place
pub all_at : {A B : Type 0} (f : A → B) (P : B → Type 0) (xs : List A) (i : ℕ) (d : A) → i < length xs → All P (map f xs) → P (f (get_or xs i d))
all_at f P [] i d h each = absurd (omega arith)
all_at f P (x ∷ xs) zero d h each = All-head P (f x) (map f xs) each
all_at f P (x ∷ xs) (suc i) d h each = all_at f P xs i d (omega arith) (All-tail P (f x) (map f xs) each)

-- and of one more text
pub all_more : {A B : Type 0} (f : A → B) (P : B → Type 0) (xs : List A) (i : ℕ) (d : A) → i < length xs → All P (map f (take i xs)) → P (f (get_or xs i d)) → All P (map f (take (i + 1) xs))
all_more {A} {B} f P xs i d h each here =
    subst (λ (t : List B). All P t) (sym (ap (map f) (take_more xs i d h) ∙ map-append f (take i xs) (get_or xs i d ∷ []))) (All-push P (map f (take i xs)) (f (get_or xs i d)) each here)
