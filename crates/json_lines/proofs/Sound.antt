-- A line that spells a request has a form with which nothing is wrong.
use Rattle.std.proofs.Common.{◌≡◌, ℕ, ◌<◌, ◌≤◌, ◌^◌, List, map, length, sym, subst, ap, ◌∙◌, ◌⊎◌, inl, inr, arith, refl, Bor}
use Rattle.std.specs.List.{All}
use Rattle.std.proofs.lemmas.List.{length-map}
use Rattle.refusal.specs.declared.refusal.Refusal.{Refusal}
use Rattle.refusal.specs.declared.refusal.Refusal.TheVariants.{BadRequest, TooLarge, BadTuple, BadZookie, WrongStore, Repeated, NoMemory}
use Rattle.tuples.specs.declared.tuple.Tuple.{Tuple}
use Rattle.tuples.specs.declared.tupleset.Tupleset.{Tupleset}
use Rattle.tuples.specs.Changes.{AreDistinct}
use Rattle.tuples.specs.Names.{IsName}
use Rattle.tuples.specs.Texts.{IsTuple, tuple_text}
use Rattle.zookie.specs.Zookies.{IsNoZookie, IsOfAnotherStore}
use Rattle.json_lines.specs.declared.shape.ChangeShape.{ChangeShape}
use Rattle.json_lines.specs.declared.shape.ConditionShape.{ConditionShape}
use Rattle.json_lines.specs.declared.shape.FreshnessShape.{FreshnessShape}
use Rattle.json_lines.specs.declared.shape.FreshnessShape.TheVariants.{Latest, AtLeast, Exact}
use Rattle.json_lines.specs.Causes.{AreFew, ArePlaced, AreSets, AreTuples, Cause, FormCause, HasCause, IsFresh, IsOfStore, ListCause, WriteCause, changed_text, conditioned_text, listed}
use Rattle.json_lines.specs.Lines.{IsObject}
use Rattle.json_lines.specs.Shapes.{Field, Form, Writes, Reads, Checks, Watches, HasForm, condition_json, form_fields, object_with}
use Rattle.json_lines.proofs.Alike.{Alike, all_placed_move, borrowed_texts, forms_alike, fresh_moves, is_first_moves}
use Rattle.json_lines.proofs.Causing.{in_limits}
use Rattle.json_lines.proofs.Once.{first_unplaced, no_and_own, other_and_own, same_tuples}
use Rattle.json_lines.proofs.Values.{objects_once}

-- ---- causes go with the members

fewer_texts : (xs ys : List (Bor (List ℕ))) → borrowed_texts xs ≡ borrowed_texts ys → length xs ≡ length ys
fewer_texts xs ys e = sym (length-map xs (λ (t : Bor (List ℕ)). t.now)) ∙ ap length e ∙ length-map ys (λ (t : Bor (List ℕ)). t.now)

write_cause_moves : (store : ℕ) (cs ds : List ChangeShape) (us vs : List ConditionShape) → map changed_text cs ≡ map changed_text ds → map condition_json us ≡ map condition_json vs → map conditioned_text us ≡ map conditioned_text vs
    → (e : Refusal) → WriteCause store cs us e → WriteCause store ds vs e
write_cause_moves store cs ds us vs texts json asked e h = moves e h
  where
    long : length cs ≡ length ds
    long = sym (length-map cs changed_text) ∙ ap length texts ∙ length-map ds changed_text

    more : length us ≡ length vs
    more = sym (length-map us conditioned_text) ∙ ap length asked ∙ length-map vs conditioned_text

    few : AreFew cs us → AreFew ds vs
    few h = (subst (λ (n : ℕ). n ≤ 64) long h.0, subst (λ (n : ℕ). n ≤ 16) more h.1)

    tuples : (ts : List Tuple) → AreTuples (map changed_text cs) ts → AreTuples (map changed_text ds) ts
    tuples ts = subst (λ (l : List (List ℕ)). AreTuples l ts) texts

    tuples_back : (ts : List Tuple) → AreTuples (map changed_text ds) ts → AreTuples (map changed_text cs) ts
    tuples_back ts = subst (λ (l : List (List ℕ)). AreTuples l ts) (sym texts)

    asked_for : (ts : List Tuple) → AreTuples (map conditioned_text us) ts → AreTuples (map conditioned_text vs) ts
    asked_for ts = subst (λ (l : List (List ℕ)). AreTuples l ts) asked

    asked_back : (ts : List Tuple) → AreTuples (map conditioned_text vs) ts → AreTuples (map conditioned_text us) ts
    asked_back ts = subst (λ (l : List (List ℕ)). AreTuples l ts) (sym asked)

    moves : (e : Refusal) → WriteCause store cs us e → WriteCause store ds vs e
    moves TooLarge (inl h) = inl (subst (λ (n : ℕ). 64 < n) long h)
    moves TooLarge (inr h) = inr (subst (λ (n : ℕ). 16 < n) more h)
    moves BadTuple h = (few h.0, λ spelled. h.1 (spelled.0, spelled.1, tuples_back spelled.0 spelled.2, asked_back spelled.1 spelled.3))
    moves BadZookie h = (few h.0, (h.1.0, h.1.1, tuples h.1.0 h.1.2, asked_for h.1.1 h.1.3), is_first_moves store IsNoZookie us vs json h.2)
    moves WrongStore h = (few h.0, (h.1.0, h.1.1, tuples h.1.0 h.1.2, asked_for h.1.1 h.1.3), is_first_moves store (IsOfAnotherStore store) us vs json h.2)
    moves Repeated h = (few h.0, all_placed_move store us vs json h.1, (h.2.0, h.2.1, tuples h.2.0 h.2.2, asked_for h.2.1 h.2.3, h.2.4))
    moves NoMemory h = tt
    moves _ h = absurd h

list_cause_moves : (store n m : ℕ) (P Q : Type 0) (A B : (List ℕ → Type 0) → Type 0) → n ≡ m → (P → Q) → (Q → P) → ((IsBad : List ℕ → Type 0) → A IsBad → B IsBad) → (e : Refusal) → ListCause store n P A e → ListCause store m Q B e
list_cause_moves store n m P Q A B same there back zookie TooLarge h = subst (λ (k : ℕ). 16 < k) same h
list_cause_moves store n m P Q A B same there back zookie BadTuple h = (subst (λ (k : ℕ). k ≤ 16) same h.0, λ q. h.1 (back q))
list_cause_moves store n m P Q A B same there back zookie BadZookie h = (subst (λ (k : ℕ). k ≤ 16) same h.0, there h.1, zookie IsNoZookie h.2)
list_cause_moves store n m P Q A B same there back zookie WrongStore h = (subst (λ (k : ℕ). k ≤ 16) same h.0, there h.1, zookie (IsOfAnotherStore store) h.2)
list_cause_moves store n m P Q A B same there back zookie NoMemory h = tt
list_cause_moves store n m P Q A B same there back zookie _ h = absurd h

cause_moves : (store : ℕ) (f g : Form) → Alike f g → (e : Refusal) → FormCause store f e → FormCause store g e
cause_moves store (Writes cs us) (Writes ds vs) h e a = write_cause_moves store cs ds (listed us) (listed vs) h.texts h.conditions h.asked e a
cause_moves store (Reads f sets) (Reads g other) h e a =
    list_cause_moves store (length sets) (length other) ((qs : List Tupleset) × AreSets (borrowed_texts sets) qs) ((qs : List Tupleset) × AreSets (borrowed_texts other) qs) (λ IsBad. IsFresh IsBad f) (λ IsBad. IsFresh IsBad g)
    (fewer_texts sets other h.1) (subst (λ (l : List (List ℕ)). (qs : List Tupleset) × AreSets l qs) h.1) (subst (λ (l : List (List ℕ)). (qs : List Tupleset) × AreSets l qs) (sym h.1)) (λ IsBad. fresh_moves IsBad f g h.0) e a
cause_moves store (Checks f tuple) (Checks g other) h e a =
    list_cause_moves store 1 1 ((t : Tuple) × IsTuple t × (tuple.now ≡ tuple_text t)) ((t : Tuple) × IsTuple t × (other.now ≡ tuple_text t)) (λ IsBad. IsFresh IsBad f) (λ IsBad. IsFresh IsBad g)
    refl (subst (λ (l : List ℕ). (t : Tuple) × IsTuple t × (l ≡ tuple_text t)) h.1) (subst (λ (l : List ℕ). (t : Tuple) × IsTuple t × (l ≡ tuple_text t)) (sym h.1)) (λ IsBad. fresh_moves IsBad f g h.0) e a
cause_moves store (Watches from limit names) (Watches other bound others) h e a =
    list_cause_moves store (length names) (length others) (All IsName (borrowed_texts names)) (All IsName (borrowed_texts others)) (λ IsBad. IsBad from.now) (λ IsBad. IsBad other.now)
    (fewer_texts names others h.1) (subst (All IsName) h.1) (subst (All IsName) (sym h.1)) (λ IsBad. subst IsBad h.0) e a
cause_moves store _ _ h e a = absurd h

-- ---- lines with a form

fields_once : (line : List ℕ) (fs gs : List Field) → IsObject line fs → IsObject line gs → fs ≡ gs
fields_once line fs gs a b = let same : object_with fs ≡ object_with gs = cc (a.1, b.1) in objects_once fs gs same

-- the cause of one form of a line is that of each
pub one_form : (store : ℕ) (line : List ℕ) (fields : List Field) (form : Form) → IsObject line fields → HasForm fields form → (e : Refusal) → HasCause store line e → FormCause store form e
one_form store line fields form is has e h =
    let same : form_fields h.1 ≡ form_fields form = sym h.3.0 ∙ fields_once line h.0 fields h.2 is ∙ has.0 in
    cause_moves store h.1 form (forms_alike h.1 form same) e h.4

-- a line is refused since it has no form, for memory, or for a cause of its form
pub caused : (store : ℕ) (line : List ℕ) (e : Refusal) → Cause store line e → ((e ≡ BadRequest) × ((fields : List Field) (form : Form) → IsObject line fields → HasForm fields form → ⊥)) ⊎ ((e ≡ NoMemory) ⊎ HasCause store line e)
caused store line BadRequest h = inl (refl, h)
caused store line NoMemory h = inr (inl refl)
caused store line _ h = inr (inr h)

-- ---- what is right with a form

pub record IsSoundWrite (store : ℕ) (cs : List ChangeShape) (ds : List ConditionShape) : Type 0 where
  pub few : AreFew cs ds
  pub changes : List Tuple
  pub conditions : List Tuple
  pub changes_spelled : AreTuples (map changed_text cs) changes
  pub conditions_spelled : AreTuples (map conditioned_text ds) conditions
  pub distinct_changes : AreDistinct changes
  pub distinct_conditions : AreDistinct conditions
  pub placed : ArePlaced store ds

write_is_sound : (store : ℕ) → store < 2 ^ 64 → (cs : List ChangeShape) (ds : List ConditionShape) → IsSoundWrite store cs ds → (e : Refusal) → WriteCause store cs ds e → e ≡ NoMemory
write_is_sound store fits cs ds s TooLarge h = absurd (in_limits (length cs) (length ds) s.few.0 s.few.1 h)
write_is_sound store fits cs ds s BadTuple h = absurd (h.1 (s.changes, s.conditions, s.changes_spelled, s.conditions_spelled))
write_is_sound store fits cs ds s BadZookie h = absurd (first_unplaced store IsNoZookie (λ z. no_and_own store z fits) ds h.2 s.placed)
write_is_sound store fits cs ds s WrongStore h = absurd (first_unplaced store (IsOfAnotherStore store) (λ z. other_and_own store z fits) ds h.2 s.placed)
write_is_sound store fits cs ds s Repeated h =
    let r = h.2 in
    absurd (r.4 (subst AreDistinct (same_tuples (map changed_text cs) s.changes r.0 s.changes_spelled r.2) s.distinct_changes) (subst AreDistinct (same_tuples (map conditioned_text ds) s.conditions r.1 s.conditions_spelled r.3) s.distinct_conditions))
write_is_sound store fits cs ds s NoMemory h = refl
write_is_sound store fits cs ds s _ h = absurd h

list_is_sound : (store count : ℕ) (AreRead : Type 0) (HasZookie : (List ℕ → Type 0) → Type 0) → count ≤ 16 → AreRead → (HasZookie IsNoZookie → ⊥) → (HasZookie (IsOfAnotherStore store) → ⊥) → (e : Refusal) → ListCause store count AreRead HasZookie e → e ≡ NoMemory
list_is_sound store count AreRead HasZookie few read none other TooLarge h = absurd (omega arith)
list_is_sound store count AreRead HasZookie few read none other BadTuple h = absurd (h.1 read)
list_is_sound store count AreRead HasZookie few read none other BadZookie h = absurd (none h.2)
list_is_sound store count AreRead HasZookie few read none other WrongStore h = absurd (other h.2)
list_is_sound store count AreRead HasZookie few read none other NoMemory h = refl
list_is_sound store count AreRead HasZookie few read none other _ h = absurd h

-- the zookie of a freshness is of the store
abbrev pub IsFreshPlaced : ℕ → FreshnessShape → Type 0
IsFreshPlaced store Latest = Unit {0}
IsFreshPlaced store (AtLeast z) = IsOfStore store z.now
IsFreshPlaced store (Exact z) = IsOfStore store z.now

fresh_placed : (store : ℕ) (IsBad : List ℕ → Type 0) → ((z : List ℕ) → IsBad z → IsOfStore store z → ⊥) → (f : FreshnessShape) → IsFreshPlaced store f → IsFresh IsBad f → ⊥
fresh_placed store IsBad none Latest own bad = bad
fresh_placed store IsBad none (AtLeast z) own bad = none z.now bad own
fresh_placed store IsBad none (Exact z) own bad = none z.now bad own

abbrev pub IsSound : ℕ → Form → Type 0
IsSound store (Writes cs ds) = IsSoundWrite store cs (listed ds)
IsSound store (Reads f sets) = (length sets ≤ 16) × ((qs : List Tupleset) × AreSets (borrowed_texts sets) qs) × IsFreshPlaced store f
IsSound store (Checks f tuple) = ((t : Tuple) × IsTuple t × (tuple.now ≡ tuple_text t)) × IsFreshPlaced store f
IsSound store (Watches from limit names) = (length names ≤ 16) × All IsName (borrowed_texts names) × IsOfStore store from.now

pub form_is_sound : (store : ℕ) → store < 2 ^ 64 → (form : Form) → IsSound store form → (e : Refusal) → FormCause store form e → e ≡ NoMemory
form_is_sound store fits (Writes cs ds) s e h = write_is_sound store fits cs (listed ds) s e h
form_is_sound store fits (Reads f sets) s e h =
    list_is_sound store _ _ (λ IsBad. IsFresh IsBad f) s.0 s.1 (fresh_placed store IsNoZookie (λ z. no_and_own store z fits) f s.2) (fresh_placed store (IsOfAnotherStore store) (λ z. other_and_own store z fits) f s.2) e h
form_is_sound store fits (Checks f tuple) s e h =
    list_is_sound store _ _ (λ IsBad. IsFresh IsBad f) (omega arith) s.0 (fresh_placed store IsNoZookie (λ z. no_and_own store z fits) f s.1) (fresh_placed store (IsOfAnotherStore store) (λ z. other_and_own store z fits) f s.1) e h
form_is_sound store fits (Watches from limit names) s e h =
    list_is_sound store _ _ (λ IsBad. IsBad from.now) s.0 s.1 (λ bad. no_and_own store from.now fits bad s.2) (λ bad. other_and_own store from.now fits bad s.2) e h
