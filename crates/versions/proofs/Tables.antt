-- A table of tuples, read tuple by tuple.
use Rattle.std.proofs.Common.{◌≡◌, ◌≤◌, ⊎_elim, ℕ, zero, suc, ◌+◌, ◌-◌, Bool, true, false, cond, List, [], ◌∷◌, ◌++◌, length, take, Option, None, Some, inl, inr, refl, sym, ◌∙◌, ap, subst, append-nil, arith}
use Rattle.std.specs.List.{AllByRecursion, flat_map}
use Rattle.std.specs.List.Sorted.{IsStrictlySortedBy}
use Rattle.std.specs.Map.{keys_of, lookup, remove_entry, set_value}
use Rattle.std.specs.Map.Calls.{RetainsPairs}
use Rattle.std.specs.BTreeMap.{insert_entry, is_at}
use Rattle.std.specs.Ordering.{is_lt, match_ordering}
use Rattle.std.specs.declared.cmp.Ordering.{Ordering}
use Rattle.std.specs.declared.cmp.Ordering.TheVariants.{Less, Equal, Greater}
use Rattle.std.proofs.lemmas.Bool.{cases_Bool}
use Rattle.std.proofs.lemmas.List.{take-map, take_at, length-map, length-append, map-append}
use Rattle.std.proofs.lemmas.List.Elements.{filter-append}
use Rattle.tuples.specs.declared.tuple.Tuple.{Tuple}
use Rattle.tuples.specs.declared.version.Version.{Version}
use Rattle.tuples.specs.Changes.{tuple_of}
use Rattle.tuples.specs.Order.{tuple_eq, tuple_lt, tuple_cmp}
use Rattle.tuples.specs.Versions.{collected}
use Rattle.tuples.proofs.Ordered.{tuple_eq_symm, tuple_lt_apart, tuple_lt_asymm, tuple_lt_irrefl, tuple_lt_total, tuple_lt_trans}
use Rattle.versions.proofs.Tied.{same_tie}
use Rattle.tuples.proofs.Same.{tuple_same}
use Rattle.versions.specs.Alike.{AreAlike, of_tuple}
use Rattle.versions.specs.Rows.{IsTable, change_of, found, listed, rows_in, rows_left, version_of, versions_of}
use Rattle.versions.specs.declared.history.Row.{Row}
use Rattle.versions.proofs.Alike.{alike_less, alike_none, alike_sym, collected_own, of_own}
use Rattle.versions.proofs.Histories.{collected_rows, of_other_rows, of_own_rows, tuple_of_change}

abbrev pub Entries : Type 0
Entries = List (Tuple × List Row)

pub before : (a b : Tuple) → tuple_cmp a b ≡ Less → tuple_lt a b ≡ true
unfolding tuple_lt
before a b less = ap is_lt less

abbrev pub AreSorted : Entries → Type 0
AreSorted es = IsStrictlySortedBy tuple_cmp (keys_of es)

above_head : (t : Tuple) (es : Entries) → AllByRecursion (λ y. tuple_cmp t y ≡ Less) (keys_of es) → of_tuple t (listed es) ≡ []
above_head t [] above = refl
above_head t ((u, h) ∷ es) above =
    filter-append _ (versions_of u h) (listed es)
    ∙ ap (λ (l : List Version). l ++ of_tuple t (listed es)) (of_other_rows t u h (tuple_lt_apart t u (before t u above.0)))
    ∙ above_head t es above.1

head_own : (t u : Tuple) (rows : List Row) (rest : List Version) → tuple_eq t u ≡ true → of_tuple t rest ≡ [] → of_tuple t (versions_of u rows ++ rest) ≡ versions_of t rows
head_own t u rows rest same none =
    filter-append _ (versions_of u rows) rest
    ∙ ap (λ (l : List Version). of_tuple t (versions_of u rows) ++ l) none
    ∙ append-nil (of_tuple t (versions_of u rows))
    ∙ ap (λ (x : Tuple). of_tuple t (versions_of x rows)) (sym (tuple_same t u same))
    ∙ of_own_rows t rows

-- the versions of a tuple are those of its entry
pub of_listed : (t : Tuple) (es : Entries) → AreSorted es → of_tuple t (listed es) ≡ versions_of t (rows_in (found t es))
unfolding IsStrictlySortedBy
of_listed t [] sorted = refl
of_listed t ((u, h) ∷ es) sorted = ⊎_elim
    (λ yes.
    let none : of_tuple t (listed es) ≡ [] = ap (λ (x : Tuple). of_tuple x (listed es)) (tuple_same t u yes) ∙ above_head u es sorted.0 in
    head_own t u h (listed es) yes none
    ∙ sym (ap (λ (b : Bool). versions_of t (rows_in (cond b (Some h) (found t es)))) (same_tie t u ∙ yes)))
    (λ no.
    filter-append _ (versions_of u h) (listed es)
    ∙ ap (λ (l : List Version). l ++ of_tuple t (listed es)) (of_other_rows t u h no)
    ∙ of_listed t es sorted.1
    ∙ sym (ap (λ (b : Bool). versions_of t (rows_in (cond b (Some h) (found t es)))) (same_tie t u ∙ no)))
    (cases_Bool (tuple_eq t u))

-- ---- what a change of one entry makes of the versions

-- an entry that gets more rows
pub more_alike : (t : Tuple) (w : Option (List Row)) (more : List Row) (es fs : Entries) → AreSorted es → AreSorted fs
    → ((q : Tuple) → found q fs ≡ cond (is_at (tuple_cmp t) q) w (found q es))
    → rows_in w ≡ rows_in (found t es) ++ more
    → AreAlike (listed fs) (listed es ++ versions_of t more)
more_alike t w more es fs old new changed grown = record {
  each = λ q. of_listed q fs new ∙ ap (λ (o : Option (List Row)). versions_of q (rows_in o)) (changed q)
      ∙ elim (cases_Bool (tuple_eq t q)) [
        | inl is ↦
            ap (λ (b : Bool). versions_of q (rows_in (cond b w (found q es)))) (same_tie t q ∙ is)
            ∙ subst (λ (x : Tuple). versions_of x (rows_in w) ≡ of_tuple x (listed es ++ versions_of t more)) (tuple_same t q is)
            (ap (versions_of t) grown
            ∙ map-append (version_of t) (rows_in (found t es)) more
            ∙ ap (λ (l : List Version). l ++ versions_of t more) (sym (of_listed t es old))
            ∙ ap (λ (l : List Version). of_tuple t (listed es) ++ l) (sym (of_own_rows t more))
            ∙ sym (filter-append _ (listed es) (versions_of t more)))
        | inr apart ↦
            ap (λ (b : Bool). versions_of q (rows_in (cond b w (found q es)))) (same_tie t q ∙ apart)
            ∙ sym (of_listed q es old)
            ∙ sym (append-nil (of_tuple q (listed es)))
            ∙ ap (λ (l : List Version). of_tuple q (listed es) ++ l) (sym (of_other_rows q t more (tuple_eq_symm q t ∙ apart)))
            ∙ sym (filter-append _ (listed es) (versions_of t more))
      ];
}

-- the first versions of a list that ends with so many others
fewer : (t : Tuple) (rows more : List Row) (front : List Version) (k : ℕ) → versions_of t rows ≡ front ++ versions_of t more → length rows - length more ≡ k → versions_of t (take k rows) ≡ front
fewer t rows more front k is left =
    let long : length rows ≡ length front + length more =
    sym (length-map rows (version_of t)) ∙ ap length is ∙ length-append front (versions_of t more) ∙ ap (λ n. length front + n) (length-map more (version_of t))
    in
    sym (take-map (version_of t) k rows) ∙ ap (take k) is ∙ take_at front (versions_of t more) k (omega (arith, long, left))

-- an entry that has lost its last rows
pub fewer_alike : (t : Tuple) (w : Option (List Row)) (more : List Row) (front : List Version) (es fs : Entries) → AreSorted es → AreSorted fs
    → ((q : Tuple) → found q fs ≡ cond (is_at (tuple_cmp t) q) w (found q es))
    → rows_in w ≡ take (length (rows_in (found t es)) - length more) (rows_in (found t es))
    → AreAlike (listed es) (front ++ versions_of t more)
    → AreAlike (listed fs) front
fewer_alike t w more front es fs old new changed cut whole = record {
  each = λ q. of_listed q fs new ∙ ap (λ (o : Option (List Row)). versions_of q (rows_in o)) (changed q)
      ∙ elim (cases_Bool (tuple_eq t q)) [
        | inl is ↦
            ap (λ (b : Bool). versions_of q (rows_in (cond b w (found q es)))) (same_tie t q ∙ is)
            ∙ subst (λ (x : Tuple). versions_of x (rows_in w) ≡ of_tuple x front) (tuple_same t q is)
            (ap (versions_of t) cut
            ∙ fewer t (rows_in (found t es)) more (of_tuple t front) (length (rows_in (found t es)) - length more)
            (sym (of_listed t es old) ∙ whole.each t ∙ filter-append _ front (versions_of t more) ∙ ap (λ (l : List Version). of_tuple t front ++ l) (of_own_rows t more))
            refl)
        | inr apart ↦
            ap (λ (b : Bool). versions_of q (rows_in (cond b w (found q es)))) (same_tie t q ∙ apart)
            ∙ sym (of_listed q es old)
            ∙ whole.each q
            ∙ filter-append _ front (versions_of t more)
            ∙ ap (λ (l : List Version). of_tuple q front ++ l) (of_other_rows q t more (tuple_eq_symm q t ∙ apart))
            ∙ append-nil (of_tuple q front)
      ];
}

-- ---- what is left under a horizon

-- each entry with what is left of its versions
left_in : ℕ → Entries → List Version
left_in h = flat_map (λ (e : Tuple × List Row). collected h (versions_of e.0 e.1))

collected_none : (h : ℕ) → collected h [] ≡ []
unfolding collected
collected_none h = refl

above_left : (h : ℕ) (t : Tuple) (es : Entries) → AllByRecursion (λ y. tuple_cmp t y ≡ Less) (keys_of es) → of_tuple t (left_in h es) ≡ []
unfolding left_in
above_left h t [] above = refl
above_left h t ((u, r) ∷ es) above =
    filter-append _ (collected h (versions_of u r)) (left_in h es)
    ∙ ap (λ (l : List Version). l ++ of_tuple t (left_in h es)) (collected_own h t (versions_of u r) ∙ ap (collected h) (of_other_rows t u r (tuple_lt_apart t u (before t u above.0))) ∙ collected_none h)
    ∙ above_left h t es above.1

of_left : (h : ℕ) (t : Tuple) (es : Entries) → AreSorted es → of_tuple t (left_in h es) ≡ collected h (of_tuple t (listed es))
unfolding left_in IsStrictlySortedBy
of_left h t [] sorted = sym (collected_none h)
of_left h t ((u, r) ∷ es) sorted = elim (cases_Bool (tuple_eq t u)) [
  | inl is ↦
      let same : t ≡ u = tuple_same t u is in
      let none : of_tuple t (left_in h es) ≡ [] = ap (λ (x : Tuple). of_tuple x (left_in h es)) same ∙ above_left h u es sorted.0 in
      let none_listed : of_tuple t (listed es) ≡ [] = ap (λ (x : Tuple). of_tuple x (listed es)) same ∙ above_head u es sorted.0 in
      filter-append _ (collected h (versions_of u r)) (left_in h es)
      ∙ ap (λ (l : List Version). of_tuple t (collected h (versions_of u r)) ++ l) none
      ∙ append-nil (of_tuple t (collected h (versions_of u r)))
      ∙ collected_own h t (versions_of u r)
      ∙ ap (collected h) (sym (filter-append _ (versions_of u r) (listed es) ∙ ap (λ (l : List Version). of_tuple t (versions_of u r) ++ l) none_listed ∙ append-nil (of_tuple t (versions_of u r))))
  | inr apart ↦
      let other : of_tuple t (versions_of u r) ≡ [] = of_other_rows t u r apart in
      filter-append _ (collected h (versions_of u r)) (left_in h es)
      ∙ ap (λ (l : List Version). l ++ of_tuple t (left_in h es)) (collected_own h t (versions_of u r) ∙ ap (collected h) other ∙ collected_none h)
      ∙ of_left h t es sorted.1
      ∙ ap (collected h) (sym (filter-append _ (versions_of u r) (listed es) ∙ ap (λ (l : List Version). l ++ of_tuple t (listed es)) other))
]

none_or_some : (b : Bool) (t : Tuple) (w : List Row) (rest : Entries) → (b ≡ false → w ≡ []) → listed (cond b ((t, w) ∷ rest) rest) ≡ versions_of t w ++ listed rest
none_or_some true t w rest empty = refl
none_or_some false t w rest empty = sym (ap (λ (l : List Row). versions_of t l ++ listed rest) (empty refl))

-- a walk that leaves in each entry what is left under the horizon, and drops those if nothing is left
module _ {F : Type 0} (h : ℕ) (T : F → Tuple → List Row → Bool → List Row → F → Type 0) (f : F)
    (each : (k : Tuple) (v : List Row) (b : Bool) (w : List Row) (g : F) → T f k v b w g → (w ≡ rows_left h v) × (b ≡ false → w ≡ []) × (g ≡ f)) where
  kept_listed : (g : F) → g ≡ f → (es kept : Entries) → RetainsPairs T g es kept → listed kept ≡ left_in h es
  unfolding left_in
  kept_listed g same [] kept is = ap listed is
  kept_listed g same ((t, v) ∷ es) kept (b, w, next, rest, called, more, is) =
      let one = each t v b w next (subst (λ (x : F). T x t v b w next) same called) in
      ap listed is
      ∙ none_or_some b t w rest one.1
      ∙ ap (λ (l : List Row). versions_of t l ++ listed rest) one.0
      ∙ ap (λ (l : List Version). l ++ listed rest) (collected_rows h t v)
      ∙ ap (λ (l : List Version). collected h (versions_of t v) ++ l) (kept_listed next one.2 es rest more)

  pub kept_alike : (es kept : Entries) → AreSorted es → RetainsPairs T f es kept → AreAlike (listed kept) (collected h (listed es))
  kept_alike es kept sorted is = record { each = λ t. ap (of_tuple t) (kept_listed f refl es kept is) ∙ of_left h t es sorted ∙ sym (collected_own h t (listed es)) }

-- ---- entries that hold no versions

-- an entry whose rows stay
pub same_set : (test : Tuple → Bool) (es : Entries) (w : List Row) → rows_in (lookup test es) ≡ w → listed (set_value test es w) ≡ listed es
same_set test [] w same = refl
same_set test ((t, v) ∷ es) w same = elim (cases_Bool (test t)) [
  | inl is ↦
      ap (λ (b : Bool). listed (cond b ((t, w) ∷ es) ((t, v) ∷ set_value test es w))) is
      ∙ ap (λ (l : List Row). versions_of t l ++ listed es) (sym (sym (ap (λ (b : Bool). rows_in (cond b (Some v) (lookup test es))) is) ∙ same))
  | inr apart ↦
      ap (λ (b : Bool). listed (cond b ((t, w) ∷ es) ((t, v) ∷ set_value test es w))) apart
      ∙ ap (λ (l : List Version). versions_of t v ++ l) (same_set test es w (sym (ap (λ (b : Bool). rows_in (cond b (Some v) (lookup test es))) apart) ∙ same))
]

pub same_removed : (test : Tuple → Bool) (es : Entries) → rows_in (lookup test es) ≡ [] → listed (remove_entry test es) ≡ listed es
same_removed test [] none = refl
same_removed test ((t, v) ∷ es) none = elim (cases_Bool (test t)) [
  | inl is ↦
      ap (λ (b : Bool). listed (cond b es ((t, v) ∷ remove_entry test es))) is
      ∙ ap (λ (l : List Row). versions_of t l ++ listed es) (sym (sym (ap (λ (b : Bool). rows_in (cond b (Some v) (lookup test es))) is) ∙ none))
  | inr apart ↦
      ap (λ (b : Bool). listed (cond b es ((t, v) ∷ remove_entry test es))) apart
      ∙ ap (λ (l : List Version). versions_of t v ++ l) (same_removed test es (sym (ap (λ (b : Bool). rows_in (cond b (Some v) (lookup test es))) apart) ∙ none))
]

-- a tuple that has no entry stays without one
pub still_none : (t : Tuple) (es : Entries) → found t es ≡ None → (q : Tuple) → found q es ≡ cond (is_at (tuple_cmp t) q) None (found q es)
still_none t es none q = elim (cases_Bool (tuple_eq t q)) [
  | inl is ↦ ap (λ (x : Tuple). found x es) (sym (tuple_same t q is)) ∙ none ∙ sym (ap (λ (b : Bool). cond b None (found q es)) (same_tie t q ∙ is))
  | inr apart ↦ sym (ap (λ (b : Bool). cond b None (found q es)) (same_tie t q ∙ apart))
]

-- ---- a table has one list

-- no version stands before one of an earlier tuple
IsGrouped : List Version → Type 0
IsGrouped [] = Unit {0}
IsGrouped (v ∷ vs) = AllByRecursion (λ (u : Version). tuple_lt (tuple_of u.change) (tuple_of v.change) ≡ false) vs × IsGrouped vs

-- nothing of a tuple stands after a later one
none_behind : (t : Tuple) (vs : List Version) → AllByRecursion (λ (u : Version). tuple_lt t (tuple_of u.change) ≡ true) vs → of_tuple t vs ≡ []
none_behind t [] later = refl
none_behind t (u ∷ vs) later =
    ap (λ (b : Bool). cond b (u ∷ of_tuple t vs) (of_tuple t vs)) (tuple_lt_apart t (tuple_of u.change) later.0) ∙ none_behind t vs later.1

not_before : (t u w : Tuple) → tuple_lt t u ≡ true → tuple_lt w u ≡ false → tuple_lt t w ≡ true
not_before t u w less not_less = elim (tuple_lt_total w u) [
  | inl is ↦ absurd (let never : true ≡ false = sym is ∙ not_less in cc)
  | inr (inl same) ↦ ap (tuple_lt t) same ∙ less
  | inr (inr more) ↦ tuple_lt_trans t u w less more
]

all_behind : (t u : Tuple) (vs : List Version) → tuple_lt t u ≡ true → AllByRecursion (λ (w : Version). tuple_lt (tuple_of w.change) u ≡ false) vs → AllByRecursion (λ (w : Version). tuple_lt t (tuple_of w.change) ≡ true) vs
all_behind t u [] less none = tt
all_behind t u (w ∷ vs) less none = (not_before t u (tuple_of w.change) less none.0, all_behind t u vs less none.1)

first_apart : (v w : Version) (a b : List Version) → IsGrouped (w ∷ b) → AreAlike (v ∷ a) (w ∷ b) → tuple_lt (tuple_of v.change) (tuple_of w.change) ≡ true → ⊥
unfolding IsGrouped
first_apart v w a b grouped alike less =
    let none : of_tuple (tuple_of v.change) (w ∷ b) ≡ [] = none_behind (tuple_of v.change) (w ∷ b) (less, all_behind (tuple_of v.change) (tuple_of w.change) b less grouped.0) in
    let some : v ∷ of_tuple (tuple_of v.change) a ≡ [] = sym (of_own v a) ∙ alike.each (tuple_of v.change) ∙ none in
    absurd cc

grouped_same : (a b : List Version) → IsGrouped a → IsGrouped b → AreAlike a b → a ≡ b
unfolding IsGrouped
grouped_same [] b left right alike = sym (alike_none b alike)
grouped_same (v ∷ a) [] left right alike = alike_none (v ∷ a) (alike_sym alike)
grouped_same (v ∷ a) (w ∷ b) left right alike = elim (tuple_lt_total (tuple_of v.change) (tuple_of w.change)) [
  | inl less ↦ absurd (first_apart v w a b right alike less)
  | inr (inr more) ↦ absurd (first_apart w v b a left (alike_sym alike) more)
  | inr (inl same) ↦
      let firsts : v ∷ of_tuple (tuple_of v.change) a ≡ w ∷ of_tuple (tuple_of v.change) b =
      sym (of_own v a) ∙ alike.each (tuple_of v.change) ∙ ap (λ (t : Tuple). of_tuple t (w ∷ b)) same ∙ of_own w b ∙ ap (λ (t : Tuple). w ∷ of_tuple t b) (sym same)
      in
      let one : v ≡ w = cc in
      let rest : AreAlike a b = alike_less v a [] b (subst (λ (x : Version). AreAlike (v ∷ a) (x ∷ b)) (sym one) alike) refl in
      ap (λ (l : List Version). v ∷ l) (grouped_same a b left.1 right.1 rest) ∙ ap (λ (x : Version). x ∷ b) one
]

-- versions of one tuple before those of later ones
grouped_rows : (t : Tuple) (rows : List Row) (rest : List Version) → IsGrouped rest → AllByRecursion (λ (w : Version). tuple_lt t (tuple_of w.change) ≡ true) rest → IsGrouped (versions_of t rows ++ rest)
unfolding IsGrouped
grouped_rows t [] rest grouped later = grouped
grouped_rows t (r ∷ rows) rest grouped later = (none_before rows rest later, grouped_rows t rows rest grouped later)
  where
    own : tuple_of (change_of t r.is_touch) ≡ t
    own = tuple_of_change t r.is_touch

    none_before : (rows : List Row) (rest : List Version) → AllByRecursion (λ (w : Version). tuple_lt t (tuple_of w.change) ≡ true) rest → AllByRecursion (λ (w : Version). tuple_lt (tuple_of w.change) (tuple_of (change_of t r.is_touch)) ≡ false) (versions_of t rows ++ rest)
    none_before [] [] later = tt
    none_before [] (w ∷ rest) later = (ap (tuple_lt (tuple_of w.change)) own ∙ tuple_lt_asymm t (tuple_of w.change) later.0, none_before [] rest later.1)
    none_before (s ∷ rows) rest later = (ap (λ (x : Tuple). tuple_lt x (tuple_of (change_of t r.is_touch))) (tuple_of_change t s.is_touch) ∙ ap (tuple_lt t) own ∙ tuple_lt_irrefl t, none_before rows rest later)

later_rows : (t u : Tuple) (rows : List Row) (rest : List Version) → tuple_lt t u ≡ true → AllByRecursion (λ (w : Version). tuple_lt t (tuple_of w.change) ≡ true) rest → AllByRecursion (λ (w : Version). tuple_lt t (tuple_of w.change) ≡ true) (versions_of u rows ++ rest)
later_rows t u [] rest less later = later
later_rows t u (r ∷ rows) rest less later = (ap (tuple_lt t) (tuple_of_change u r.is_touch) ∙ less, later_rows t u rows rest less later)

later_listed : (t : Tuple) (es : Entries) → AllByRecursion (λ y. tuple_cmp t y ≡ Less) (keys_of es) → AllByRecursion (λ (w : Version). tuple_lt t (tuple_of w.change) ≡ true) (listed es)
later_listed t [] above = tt
later_listed t ((u, h) ∷ es) above = later_rows t u h (listed es) (before t u above.0) (later_listed t es above.1)

grouped_listed : (es : Entries) → AreSorted es → IsGrouped (listed es)
unfolding IsStrictlySortedBy IsGrouped
grouped_listed [] sorted = tt
grouped_listed ((t, h) ∷ es) sorted = grouped_rows t h (listed es) (grouped_listed es sorted.1) (later_listed t es sorted.0)

-- tables with the same versions of each tuple are seen as one list
pub listed_same : (es fs : Entries) → IsTable es → IsTable fs → AreAlike (listed es) (listed fs) → listed es ≡ listed fs
listed_same es fs left right alike = grouped_same (listed es) (listed fs) (grouped_listed es left.in_order) (grouped_listed fs right.in_order) alike

pub take_none : {X : Type 0} (n : ℕ) → take {A = X} n [] ≡ []
take_none zero = refl
take_none (suc n) = refl

-- ---- what stays of the grammar

pub all_removed : (P : Tuple → Type 0) (test : Tuple → Bool) (es : Entries) → AllByRecursion P (keys_of es) → AllByRecursion P (keys_of (remove_entry test es))
all_removed P test [] all = tt
all_removed P test ((t, h) ∷ es) all = elim (cases_Bool (test t)) [
  | inl is ↦ rw is all.1
  | inr apart ↦ rw apart (all.0, all_removed P test es all.1)
]

pub all_inserted : (P : Tuple → Type 0) (t : Tuple) (h : List Row) (es : Entries) → P t → AllByRecursion P (keys_of es) → AllByRecursion P (keys_of (insert_entry tuple_cmp es t h))
all_inserted P t h [] one all = (one, tt)
all_inserted P t h ((u, k) ∷ es) one all = put (tuple_cmp t u) (all_inserted P t h es one all.1)
  where
    put : (o : Ordering) → AllByRecursion P (keys_of (insert_entry tuple_cmp es t h)) → AllByRecursion P (keys_of (match_ordering o ((t, h) ∷ (u, k) ∷ es) ((u, h) ∷ es) ((u, k) ∷ insert_entry tuple_cmp es t h)))
    put Less more = (one, all)
    put Equal more = all
    put Greater more = (all.0, more)

pub all_retained : {F : Type 0} (P : Tuple → Type 0) (T : F → Tuple → List Row → Bool → List Row → F → Type 0) (f : F) (es kept : Entries) → AllByRecursion P (keys_of es) → RetainsPairs T f es kept → AllByRecursion P (keys_of kept)
all_retained P T f [] kept all is = subst (λ (l : Entries). AllByRecursion P (keys_of l)) (sym is) tt
all_retained P T f ((t, v) ∷ es) kept all (b, w, next, rest, called, more, is) = subst (λ (l : Entries). AllByRecursion P (keys_of l)) (sym is) (put b (all_retained P T next es rest all.1 more))
  where
    put : (b : Bool) → AllByRecursion P (keys_of rest) → AllByRecursion P (keys_of (cond b ((t, w) ∷ rest) rest))
    put true more = (all.0, more)
    put false more = more

-- ---- what stays of the keys

few_kept : {F : Type 0} (T : F → Tuple → List Row → Bool → List Row → F → Type 0) (f : F) (es kept : Entries) → RetainsPairs T f es kept → length kept ≤ length es
few_kept T f [] kept is = subst (λ (l : Entries). length l ≤ 0) (sym is) (omega arith)
few_kept T f ((t, v) ∷ es) kept (b, w, next, rest, called, more, is) = subst (λ (l : Entries). length l ≤ suc (length es)) (sym is) (put b (few_kept T next es rest more))
  where
    put : (b : Bool) → length rest ≤ length es → length (cond b ((t, w) ∷ rest) rest) ≤ suc (length es)
    put true few = omega (arith, few)
    put false few = omega (arith, few)

-- a walk that drops no entry leaves the keys as they were
pub kept_keys : {F : Type 0} (T : F → Tuple → List Row → Bool → List Row → F → Type 0) (f : F) (es kept : Entries) → length es ≤ length kept → RetainsPairs T f es kept → keys_of kept ≡ keys_of es
kept_keys T f [] kept many is = ap keys_of is
kept_keys T f ((t, v) ∷ es) kept many (b, w, next, rest, called, more, is) =
    ap keys_of is ∙ put b (few_kept T next es rest more) (subst (λ (l : Entries). suc (length es) ≤ length l) is many) (λ long. kept_keys T next es rest long more)
  where
    put : (b : Bool) → length rest ≤ length es → suc (length es) ≤ length (cond b ((t, w) ∷ rest) rest) → (length es ≤ length rest → keys_of rest ≡ keys_of es) → keys_of (cond b ((t, w) ∷ rest) rest) ≡ t ∷ keys_of es
    put true few long same = ap (λ (l : List Tuple). t ∷ l) (same (omega (arith, long)))
    put false few long same = absurd (omega (arith, few, long))
