-- What is wrong with a form is wrong in one way.
use Rattle.std.proofs.Common.{◌≡◌, ℕ, ◌<◌, ◌≤◌, ◌^◌, List, [], ◌∷◌, ◌++◌, map, length, sym, subst, ap, ◌∙◌, ◌⊎◌, inl, inr, arith, refl}
use Rattle.std.specs.List.{All}
use Rattle.std.proofs.lemmas.List.Elements.{All-head, All-tail}
use Rattle.refusal.specs.declared.refusal.Refusal.{Refusal}
use Rattle.refusal.specs.declared.refusal.Refusal.TheVariants.{TooLarge, BadTuple, BadZookie, WrongStore, Repeated, NoMemory}
use Rattle.tuples.specs.declared.tuple.Tuple.{Tuple}
use Rattle.tuples.specs.Texts.{IsTuple, tuple_text}
use Rattle.tuples.proofs.Once.{tuple_text_once}
use Rattle.zookie.specs.Zookies.{IsNoZookie, IsOfAnotherStore}
use Rattle.zookie.proofs.Pairs.{one_zookie}
use Rattle.json_lines.specs.declared.shape.ChangeShape.{ChangeShape}
use Rattle.json_lines.specs.declared.shape.ConditionShape.{ConditionShape}
use Rattle.json_lines.specs.declared.shape.WantShape.{WantShape}
use Rattle.json_lines.specs.declared.shape.WantShape.TheVariants.{Since, Exists, Absent}
use Rattle.json_lines.specs.declared.shape.FreshnessShape.{FreshnessShape}
use Rattle.json_lines.specs.declared.shape.FreshnessShape.TheVariants.{Latest, AtLeast, Exact}
use Rattle.json_lines.specs.Causes.{AreFew, ArePlaced, AreRepeated, AreSpelled, AreTuples, IsFirst, IsFresh, IsMisplaced, IsOfStore, IsPlaced, FormCause, ListCause, WriteCause, listed}
use Rattle.json_lines.specs.Shapes.{Form, Writes, Reads, Checks, Watches}
use Rattle.json_lines.proofs.Causing.{in_limits}

-- ---- a zookie is of one kind

pub no_and_own : (store : ℕ) (z : List ℕ) → store < 2 ^ 64 → IsNoZookie z → IsOfStore store z → ⊥
no_and_own store z h none own = none store own.0 (h, own.1) own.2

no_and_other : (store : ℕ) (z : List ℕ) → IsNoZookie z → IsOfAnotherStore store z → ⊥
no_and_other store z none other = none other.0 other.1 other.2 other.4

pub other_and_own : (store : ℕ) (z : List ℕ) → store < 2 ^ 64 → IsOfAnotherStore store z → IsOfStore store z → ⊥
other_and_own store z h other own = other.3 (one_zookie other.0 other.1 store own.0 other.2 (h, own.1) (sym other.4 ∙ own.2)).0

fresh_excludes : (A B : List ℕ → Type 0) → ((z : List ℕ) → A z → B z → ⊥) → (f : FreshnessShape) → IsFresh A f → IsFresh B f → ⊥
fresh_excludes A B none Latest a b = a
fresh_excludes A B none (AtLeast z) a b = none z.now a b
fresh_excludes A B none (Exact z) a b = none z.now a b

misplaced_excludes : (A B : List ℕ → Type 0) → ((z : List ℕ) → A z → B z → ⊥) → (w : WantShape) → IsMisplaced A w → IsMisplaced B w → ⊥
misplaced_excludes A B none (Since z) a b = none z.now a b
misplaced_excludes A B none Exists a b = a
misplaced_excludes A B none Absent a b = a

placed_excludes : (A B : List ℕ → Type 0) → ((z : List ℕ) → A z → B z → ⊥) → (w : WantShape) → IsMisplaced A w → IsPlaced B w → ⊥
placed_excludes A B none (Since z) a b = none z.now a b
placed_excludes A B none Exists a b = a
placed_excludes A B none Absent a b = a

abbrev WantMeets : (List ℕ → Type 0) → ConditionShape → Type 0
WantMeets Meets c = IsPlaced Meets c.want

placed_at : (store : ℕ) (front : List ConditionShape) (first : ConditionShape) (back : List ConditionShape) → ArePlaced store (front ++ first ∷ back) → IsPlaced (IsOfStore store) first.want
placed_at store [] first back h = All-head (WantMeets (IsOfStore store)) first back h
placed_at store (c ∷ front) first back h = placed_at store front first back (All-tail (WantMeets (IsOfStore store)) c (front ++ first ∷ back) h)

-- if each zookie is of the store, none is the first that is not
pub first_unplaced : (store : ℕ) (IsBad : List ℕ → Type 0) → ((z : List ℕ) → IsBad z → IsOfStore store z → ⊥) → (ds : List ConditionShape) → IsFirst store IsBad ds → ArePlaced store ds → ⊥
first_unplaced store IsBad none ds first placed =
    placed_excludes IsBad (IsOfStore store) none first.first.want first.bad (placed_at store first.front first.first first.back (subst (ArePlaced store) first.whole placed))

firsts_meet : (store : ℕ) (A B : List ℕ → Type 0) → ((z : List ℕ) → A z → B z → ⊥) → ((z : List ℕ) → A z → IsOfStore store z → ⊥) → ((z : List ℕ) → B z → IsOfStore store z → ⊥)
    → (front other : List ConditionShape) (x y : ConditionShape) (back more : List ConditionShape) → front ++ x ∷ back ≡ other ++ y ∷ more → ArePlaced store front → ArePlaced store other → IsMisplaced A x.want → IsMisplaced B y.want → ⊥
firsts_meet store A B ab ao bo [] [] x y back more e p q a b =
    let same : x ≡ y = cc in
    misplaced_excludes A B ab y.want (subst (λ (c : ConditionShape). IsMisplaced A c.want) same a) b
firsts_meet store A B ab ao bo [] (c ∷ other) x y back more e p q a b =
    let same : x ≡ c = cc in
    placed_excludes A (IsOfStore store) ao c.want (subst (λ (d : ConditionShape). IsMisplaced A d.want) same a) (All-head (WantMeets (IsOfStore store)) c other q)
firsts_meet store A B ab ao bo (c ∷ front) [] x y back more e p q a b =
    let same : y ≡ c = cc in
    placed_excludes B (IsOfStore store) bo c.want (subst (λ (d : ConditionShape). IsMisplaced B d.want) same b) (All-head (WantMeets (IsOfStore store)) c front p)
firsts_meet store A B ab ao bo (c ∷ front) (d ∷ other) x y back more e p q a b =
    let same : front ++ x ∷ back ≡ other ++ y ∷ more = cc in
    firsts_meet store A B ab ao bo front other x y back more same (All-tail (WantMeets (IsOfStore store)) c front p) (All-tail (WantMeets (IsOfStore store)) d other q) a b

firsts_exclude : (store : ℕ) (ds : List ConditionShape) → store < 2 ^ 64 → IsFirst store IsNoZookie ds → IsFirst store (IsOfAnotherStore store) ds → ⊥
firsts_exclude store ds h a b =
    firsts_meet store IsNoZookie (IsOfAnotherStore store) (no_and_other store) (λ z. no_and_own store z h) (λ z. other_and_own store z h)
    a.front b.front a.first b.first a.back b.back (sym a.whole ∙ b.whole) a.placed b.placed a.bad b.bad

-- ---- texts are of one list of tuples

tuples_once : (ts us : List Tuple) → map tuple_text ts ≡ map tuple_text us → All IsTuple ts → All IsTuple us → ts ≡ us
tuples_once [] [] e p q = refl
tuples_once [] (u ∷ us) e p q = absurd cc
tuples_once (t ∷ ts) [] e p q = absurd cc
tuples_once (t ∷ ts) (u ∷ us) e p q =
    let one : tuple_text t ≡ tuple_text u = cc in
    let more : map tuple_text ts ≡ map tuple_text us = cc in
    ap (λ (x : Tuple). x ∷ ts) (tuple_text_once t u (All-head IsTuple t ts p) (All-head IsTuple u us q) one)
    ∙ ap (λ (l : List Tuple). u ∷ l) (tuples_once ts us more (All-tail IsTuple t ts p) (All-tail IsTuple u us q))

pub same_tuples : (texts : List (List ℕ)) (ts us : List Tuple) → AreTuples texts ts → AreTuples texts us → ts ≡ us
same_tuples texts ts us a b = tuples_once ts us (sym a.0 ∙ b.0) a.1 b.1

pub spelled_of : (cs : List ChangeShape) (ds : List ConditionShape) → AreRepeated cs ds → AreSpelled cs ds
spelled_of cs ds r = (r.0, r.1, r.2, r.3)

-- ---- causes

abbrev pub One : Refusal → Refusal → Type 0
One e f = (e ≡ f) ⊎ ((e ≡ NoMemory) ⊎ (f ≡ NoMemory))

module _ (store : ℕ) (fits : store < 2 ^ 64) (cs : List ChangeShape) (ds : List ConditionShape) where
  abbrev Cause : Refusal → Type 0
  Cause = WriteCause store cs ds

  large : AreFew cs ds → Cause TooLarge → ⊥
  large few a = in_limits (length cs) (length ds) few.0 few.1 a

  unplaced : IsFirst store IsNoZookie ds → ArePlaced store ds → ⊥
  unplaced = first_unplaced store IsNoZookie (λ z. no_and_own store z fits) ds

  elsewhere : IsFirst store (IsOfAnotherStore store) ds → ArePlaced store ds → ⊥
  elsewhere = first_unplaced store (IsOfAnotherStore store) (λ z. other_and_own store z fits) ds

  large_once : (f : Refusal) → Cause TooLarge → Cause f → One TooLarge f
  large_once TooLarge a b = inl refl
  large_once NoMemory a b = inr (inr refl)
  large_once BadTuple a b = absurd (large b.0 a)
  large_once BadZookie a b = absurd (large b.0 a)
  large_once WrongStore a b = absurd (large b.0 a)
  large_once Repeated a b = absurd (large b.0 a)
  large_once _ a b = absurd b

  tuple_once : (f : Refusal) → Cause BadTuple → Cause f → One BadTuple f
  tuple_once TooLarge a b = absurd (large a.0 b)
  tuple_once NoMemory a b = inr (inr refl)
  tuple_once BadTuple a b = inl refl
  tuple_once BadZookie a b = absurd (a.1 b.1)
  tuple_once WrongStore a b = absurd (a.1 b.1)
  tuple_once Repeated a b = absurd (a.1 (spelled_of cs ds b.2))
  tuple_once _ a b = absurd b

  zookie_once : (f : Refusal) → Cause BadZookie → Cause f → One BadZookie f
  zookie_once TooLarge a b = absurd (large a.0 b)
  zookie_once NoMemory a b = inr (inr refl)
  zookie_once BadTuple a b = absurd (b.1 a.1)
  zookie_once BadZookie a b = inl refl
  zookie_once WrongStore a b = absurd (firsts_exclude store ds fits a.2 b.2)
  zookie_once Repeated a b = absurd (unplaced a.2 b.1)
  zookie_once _ a b = absurd b

  store_once : (f : Refusal) → Cause WrongStore → Cause f → One WrongStore f
  store_once TooLarge a b = absurd (large a.0 b)
  store_once NoMemory a b = inr (inr refl)
  store_once BadTuple a b = absurd (b.1 a.1)
  store_once BadZookie a b = absurd (firsts_exclude store ds fits b.2 a.2)
  store_once WrongStore a b = inl refl
  store_once Repeated a b = absurd (elsewhere a.2 b.1)
  store_once _ a b = absurd b

  repeated_once : (f : Refusal) → Cause Repeated → Cause f → One Repeated f
  repeated_once TooLarge a b = absurd (large a.0 b)
  repeated_once NoMemory a b = inr (inr refl)
  repeated_once BadTuple a b = absurd (b.1 (spelled_of cs ds a.2))
  repeated_once BadZookie a b = absurd (unplaced b.2 a.1)
  repeated_once WrongStore a b = absurd (elsewhere b.2 a.1)
  repeated_once Repeated a b = inl refl
  repeated_once _ a b = absurd b

  pub write_once : (e f : Refusal) → Cause e → Cause f → One e f
  write_once TooLarge f a b = large_once f a b
  write_once NoMemory f a b = inr (inl refl)
  write_once BadTuple f a b = tuple_once f a b
  write_once BadZookie f a b = zookie_once f a b
  write_once WrongStore f a b = store_once f a b
  write_once Repeated f a b = repeated_once f a b
  write_once _ f a b = absurd a

module _ (store count : ℕ) (AreRead : Type 0) (HasZookie : (List ℕ → Type 0) → Type 0) (excludes : HasZookie IsNoZookie → HasZookie (IsOfAnotherStore store) → ⊥) where
  abbrev Caused : Refusal → Type 0
  Caused = ListCause store count AreRead HasZookie

  many : count ≤ 16 → 16 < count → ⊥
  many few a = omega arith

  many_once : (f : Refusal) → Caused TooLarge → Caused f → One TooLarge f
  many_once TooLarge a b = inl refl
  many_once NoMemory a b = inr (inr refl)
  many_once BadTuple a b = absurd (many b.0 a)
  many_once BadZookie a b = absurd (many b.0 a)
  many_once WrongStore a b = absurd (many b.0 a)
  many_once _ a b = absurd b

  text_once : (f : Refusal) → Caused BadTuple → Caused f → One BadTuple f
  text_once TooLarge a b = absurd (many a.0 b)
  text_once NoMemory a b = inr (inr refl)
  text_once BadTuple a b = inl refl
  text_once BadZookie a b = absurd (a.1 b.1)
  text_once WrongStore a b = absurd (a.1 b.1)
  text_once _ a b = absurd b

  token_once : (f : Refusal) → Caused BadZookie → Caused f → One BadZookie f
  token_once TooLarge a b = absurd (many a.0 b)
  token_once NoMemory a b = inr (inr refl)
  token_once BadTuple a b = absurd (b.1 a.1)
  token_once BadZookie a b = inl refl
  token_once WrongStore a b = absurd (excludes a.2 b.2)
  token_once _ a b = absurd b

  other_once : (f : Refusal) → Caused WrongStore → Caused f → One WrongStore f
  other_once TooLarge a b = absurd (many a.0 b)
  other_once NoMemory a b = inr (inr refl)
  other_once BadTuple a b = absurd (b.1 a.1)
  other_once BadZookie a b = absurd (excludes b.2 a.2)
  other_once WrongStore a b = inl refl
  other_once _ a b = absurd b

  pub list_once : (e f : Refusal) → Caused e → Caused f → One e f
  list_once TooLarge f a b = many_once f a b
  list_once NoMemory f a b = inr (inl refl)
  list_once BadTuple f a b = text_once f a b
  list_once BadZookie f a b = token_once f a b
  list_once WrongStore f a b = other_once f a b
  list_once _ f a b = absurd a

pub form_once : (store : ℕ) → store < 2 ^ 64 → (form : Form) (e f : Refusal) → FormCause store form e → FormCause store form f → One e f
form_once store fits (Writes cs us) e f a b = write_once store fits cs (listed us) e f a b
form_once store fits (Reads fresh sets) e f a b = list_once store _ _ (λ IsBad. IsFresh IsBad fresh) (fresh_excludes IsNoZookie (IsOfAnotherStore store) (no_and_other store) fresh) e f a b
form_once store fits (Checks fresh tuple) e f a b = list_once store _ _ (λ IsBad. IsFresh IsBad fresh) (fresh_excludes IsNoZookie (IsOfAnotherStore store) (no_and_other store) fresh) e f a b
form_once store fits (Watches from limit names) e f a b = list_once store _ _ (λ IsBad. IsBad from.now) (no_and_other store from.now) e f a b
