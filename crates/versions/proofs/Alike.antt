-- What is read of lists that have the same versions of each tuple.
use Rattle.std.proofs.Common.{◌≡◌, ⊎_elim, ℕ, Bool, true, false, not, ◌&&◌, ◌||◌, nat_le, nat_lt, cond, List, [], ◌∷◌, ◌++◌, map, max, filter, refl, sym, ◌∙◌, ap, subst}
use Rattle.std.specs.List.Sorted.{IsPermutation}
use Rattle.std.proofs.lemmas.Bool.{cases_Bool}
use Rattle.std.proofs.lemmas.List.Elements.{filter-append}
use Rattle.std.proofs.lemmas.List.Sorted.{IsPermutation-cons, IsPermutation-middle, IsPermutation-refl, IsPermutation-sym, IsPermutation-trans}
use Rattle.tuples.specs.declared.tuple.Tuple.{Tuple}
use Rattle.tuples.specs.declared.tupleset.Tupleset.{Tupleset}
use Rattle.tuples.specs.declared.change.Change.{Change}
use Rattle.tuples.specs.declared.change.Change.TheVariants.{Touch, Delete}
use Rattle.tuples.specs.declared.version.Version.{Version}
use Rattle.tuples.specs.Changes.{tuple_of}
use Rattle.tuples.specs.Log.{there_after}
use Rattle.tuples.specs.Order.{tuple_eq}
use Rattle.tuples.specs.declared.object.Userset.{Userset}
use Rattle.tuples.specs.declared.user.User.{User}
use Rattle.tuples.specs.Reads.{IsSelection}
use Rattle.tuples.specs.Walking.{IsCheckSelection}
use Rattle.tuples.specs.Versions.{collected, is_touch, last_version, superseded, there_at}
use Rattle.tuples.proofs.Ordered.{tuple_eq_refl}
use Rattle.tuples.proofs.Same.{tuple_same}
use Rattle.versions.specs.Alike.{AlikeReadsAlike, AreAlike, of_tuple}
use Rattle.versions.specs.Rows.{AreRows}

-- ---- an equivalence, which appending keeps

pub alike_refl : (a : List Version) → AreAlike a a
alike_refl a = record { each = λ t. refl }

pub alike_same : (a b : List Version) → a ≡ b → AreAlike a b
alike_same a b is = record { each = λ t. ap (of_tuple t) is }

pub alike_sym : {a b : List Version} → AreAlike a b → AreAlike b a
alike_sym h = record { each = λ t. sym (h.each t) }

pub alike_trans : {a b d : List Version} → AreAlike a b → AreAlike b d → AreAlike a d
alike_trans h k = record { each = λ t. h.each t ∙ k.each t }

pub append_alike : {a b d e : List Version} → AreAlike a b → AreAlike d e → AreAlike (a ++ d) (b ++ e)
append_alike {a} {b} {d} {e} h k = record {
  each = λ t. filter-append _ a d ∙ ap (λ (l : List Version). l ++ of_tuple t d) (h.each t) ∙ ap (λ (l : List Version). of_tuple t b ++ l) (k.each t) ∙ sym (filter-append _ b e);
}

-- ---- what is there

map_cond : {X Y : Type 0} (f : X → Y) (b : Bool) (xs ys : List X) → map f (cond b xs ys) ≡ cond b (map f xs) (map f ys)
map_cond f true xs ys = refl
map_cond f false xs ys = refl

-- what one change makes of it
after : Tuple → Bool → Change → Bool
after t b c = there_after t b (c ∷ [])

after_first : (t : Tuple) (b : Bool) (c : Change) (xs : List Change) → there_after t b (c ∷ xs) ≡ there_after t (after t b c) xs
unfolding after
after_first t b (Touch u) xs = refl
after_first t b (Delete u) xs = refl

after_other : (t : Tuple) (b : Bool) (c : Change) → tuple_eq t (tuple_of c) ≡ false → after t b c ≡ b
unfolding after
after_other t b (Touch u) is = ap (λ o. cond o true b) is
after_other t b (Delete u) is = ap (λ o. cond o false b) is

-- the changes up to a place
abbrev pub until : ℕ → List Version → List Change
until place rows = map (λ (v : Version). v.change) (filter (λ (v : Version). nat_le v.place place) rows)

until_own : (place : ℕ) (v : Version) (own : List Version) (o : Bool) → until place (cond o (v ∷ own) own) ≡ cond o (cond (nat_le v.place place) (v.change ∷ until place own) (until place own)) (until place own)
until_own place v own true = map_cond (λ (v : Version). v.change) (nat_le v.place place) (v ∷ filter (λ (v : Version). nat_le v.place place) own) (filter (λ (v : Version). nat_le v.place place) own)
until_own place v own false = refl

there_step : (low own : Bool) (t : Tuple) (b : Bool) (c : Change) (xs ys : List Change) → tuple_eq t (tuple_of c) ≡ own → ((d : Bool) → there_after t d xs ≡ there_after t d ys) → there_after t b (cond low (c ∷ xs) xs) ≡ there_after t b (cond own (cond low (c ∷ ys) ys) ys)
there_step true true t b c xs ys is same = after_first t b c xs ∙ same (after t b c) ∙ sym (after_first t b c ys)
there_step true false t b c xs ys is same = after_first t b c xs ∙ ap (λ d. there_after t d xs) (after_other t b c is) ∙ same b
there_step false true t b c xs ys is same = same b
there_step false false t b c xs ys is same = same b

there_own : (place : ℕ) (t : Tuple) (rows : List Version) (b : Bool) → there_after t b (until place rows) ≡ there_after t b (until place (of_tuple t rows))
there_own place t [] b = refl
there_own place t (v ∷ rows) b =
    let low = filter (λ (v : Version). nat_le v.place place) rows in
    ap (there_after t b) (map_cond (λ (v : Version). v.change) (nat_le v.place place) (v ∷ low) low)
    ∙ there_step (nat_le v.place place) (tuple_eq t (tuple_of v.change)) t b v.change (until place rows) (until place (of_tuple t rows)) refl (there_own place t rows)
    ∙ sym (ap (there_after t b) (until_own place v (of_tuple t rows) (tuple_eq t (tuple_of v.change))))

-- what is there of a tuple is there by its own versions
pub there_at_own : (rows : List Version) (place : ℕ) (t : Tuple) → there_at rows place t ≡ there_at (of_tuple t rows) place t
unfolding there_at
there_at_own rows place t = there_own place t rows false

pub there_at_alike : {a b : List Version} → AreAlike a b → (place : ℕ) (t : Tuple) → there_at a place t ≡ there_at b place t
there_at_alike {a} {b} h place t = there_at_own a place t ∙ ap (λ (l : List Version). there_at l place t) (h.each t) ∙ sym (there_at_own b place t)

pub selection_alike : {a b : List Version} → AreAlike a b → (place : ℕ) (q : Tupleset) (ts : List Tuple) → IsSelection (there_at a place) q ts → IsSelection (there_at b place) q ts
selection_alike {a} {b} h place q ts selection = record {
  ascending = selection.ascending;
  exact = λ t. (
    λ has. let both = (selection.exact t).0 has in (sym (there_at_alike h place t) ∙ both.0, both.1),
    λ both. (selection.exact t).1 (there_at_alike h place t ∙ both.0, both.1),
  );
}

pub check_selection_alike : {a b : List Version} → AreAlike a b → (place : ℕ) (x : Userset) (u : User) (ts : List Tuple) → IsCheckSelection (there_at a place) x u ts → IsCheckSelection (there_at b place) x u ts
check_selection_alike {a} {b} h place x u ts selection = record {
  ascending = selection.ascending;
  exact = λ t. (
    λ has. let both = (selection.exact t).0 has in (sym (there_at_alike h place t) ∙ both.0, both.1),
    λ both. (selection.exact t).1 (there_at_alike h place t ∙ both.0, both.1),
  );
}

-- ---- the newest version

pub last_own : (rows : List Version) (t : Tuple) → last_version rows t ≡ last_version (of_tuple t rows) t
unfolding last_version
last_own [] t = refl
last_own (v ∷ rows) t = ⊎_elim
    (λ yes. rw yes (rw yes (ap (λ n. max v.place n) (last_own rows t))))
    (λ no. rw no (last_own rows t))
    (cases_Bool (tuple_eq t (tuple_of v.change)))

pub last_alike : {a b : List Version} → AreAlike a b → (t : Tuple) → last_version a t ≡ last_version b t
last_alike {a} {b} h t = last_own a t ∙ ap (λ (l : List Version). last_version l t) (h.each t) ∙ sym (last_own b t)

-- ---- what is left under a horizon

superseded_step : (h : ℕ) (v u : Version) (rows own : List Version) (o : Bool) → tuple_eq (tuple_of v.change) (tuple_of u.change) ≡ o → superseded h v rows ≡ superseded h v own → superseded h v (u ∷ rows) ≡ superseded h v (cond o (u ∷ own) own)
superseded_step h v u rows own true is same = ap (λ (s : Bool). (tuple_eq (tuple_of v.change) (tuple_of u.change) && nat_lt v.place u.place && nat_le u.place h) || s) same
superseded_step h v u rows own false is same = ap (λ (e : Bool). (e && nat_lt v.place u.place && nat_le u.place h) || superseded h v rows) is ∙ same

-- a version is followed by those of its own tuple alone
superseded_own : (h : ℕ) (v : Version) (rows : List Version) → superseded h v rows ≡ superseded h v (of_tuple (tuple_of v.change) rows)
superseded_own h v [] = refl
superseded_own h v (u ∷ rows) = superseded_step h v u rows (of_tuple (tuple_of v.change) rows) (tuple_eq (tuple_of v.change) (tuple_of u.change)) refl (superseded_own h v rows)

abbrev pub is_kept_of : ℕ → List Version → Version → Bool
is_kept_of h rows v = nat_lt h v.place || (is_touch v.change && not (superseded h v rows))

kept_own : (h : ℕ) (t : Tuple) (rows : List Version) (v : Version) → tuple_eq t (tuple_of v.change) ≡ true → is_kept_of h (of_tuple t rows) v ≡ is_kept_of h rows v
kept_own h t rows v is =
    let same : superseded h v (of_tuple t rows) ≡ superseded h v rows =
    ap (λ (u : Tuple). superseded h v (of_tuple u rows)) (tuple_same t (tuple_of v.change) is) ∙ sym (superseded_own h v rows)
    in ap (λ (s : Bool). nat_lt h v.place || (is_touch v.change && not s)) same

own_step : (t : Tuple) (keep : Version → Bool) (v : Version) (left own : List Version) (k o : Bool) → tuple_eq t (tuple_of v.change) ≡ o → (o ≡ true → keep v ≡ k) → of_tuple t left ≡ filter keep own → of_tuple t (cond k (v ∷ left) left) ≡ filter keep (cond o (v ∷ own) own)
own_step t keep v left own true true is kept same =
    ap (λ (e : Bool). cond e (v ∷ of_tuple t left) (of_tuple t left)) is ∙ ap (λ (l : List Version). v ∷ l) same ∙ sym (ap (λ (e : Bool). cond e (v ∷ filter keep own) (filter keep own)) (kept refl))
own_step t keep v left own true false is kept same = ap (λ (e : Bool). cond e (v ∷ of_tuple t left) (of_tuple t left)) is ∙ same
own_step t keep v left own false true is kept same = same ∙ sym (ap (λ (e : Bool). cond e (v ∷ filter keep own) (filter keep own)) (kept refl))
own_step t keep v left own false false is kept same = same

own_left : (h : ℕ) (t : Tuple) (rows vs : List Version) → of_tuple t (filter (is_kept_of h rows) vs) ≡ filter (is_kept_of h (of_tuple t rows)) (of_tuple t vs)
own_left h t rows [] = refl
own_left h t rows (v ∷ vs) =
    own_step t (is_kept_of h (of_tuple t rows)) v (filter (is_kept_of h rows) vs) (of_tuple t vs) (is_kept_of h rows v) (tuple_eq t (tuple_of v.change)) refl (kept_own h t rows v) (own_left h t rows vs)

-- what is left of a tuple is what is left of its own versions
pub collected_own : (h : ℕ) (t : Tuple) (rows : List Version) → of_tuple t (collected h rows) ≡ collected h (of_tuple t rows)
unfolding collected
collected_own h t rows = own_left h t rows rows

pub collected_alike : {a b : List Version} → AreAlike a b → (h : ℕ) → AreAlike (collected h a) (collected h b)
collected_alike {a} {b} alike h = record { each = λ t. collected_own h t a ∙ ap (collected h) (alike.each t) ∙ sym (collected_own h t b) }

-- ---- the whole list

-- the first version of a tuple, those before it, and those after it
record IsCut (t : Tuple) (rows : List Version) (v : Version) (rest : List Version) : Type 0 where
  front : List Version
  back : List Version
  whole : rows ≡ front ++ v ∷ back
  none_before : of_tuple t front ≡ []
  more : of_tuple t back ≡ rest

cut_at : (t : Tuple) (rows : List Version) (v : Version) (rest : List Version) → of_tuple t rows ≡ v ∷ rest → IsCut t rows v rest
cut_at t [] v rest is = absurd cc
cut_at t (u ∷ rows) v rest is = ⊎_elim
    (λ yes.
    let here : u ∷ of_tuple t rows ≡ v ∷ rest = ap (λ (e : Bool). cond e (u ∷ of_tuple t rows) (of_tuple t rows)) (sym yes) ∙ is in
    record { front = []; back = rows; whole = cc; none_before = refl; more = cc })
    (λ no.
    let cut = cut_at t rows v rest (ap (λ (e : Bool). cond e (u ∷ of_tuple t rows) (of_tuple t rows)) (sym no) ∙ is) in
    record {
      front = u ∷ cut.front;
      back = cut.back;
      whole = ap (λ (l : List Version). u ∷ l) cut.whole;
      none_before = ap (λ (e : Bool). cond e (u ∷ of_tuple t cut.front) (of_tuple t cut.front)) no ∙ cut.none_before;
      more = cut.more;
    })
    (cases_Bool (tuple_eq t (tuple_of u.change)))

pub of_own : (v : Version) (rows : List Version) → of_tuple (tuple_of v.change) (v ∷ rows) ≡ v ∷ of_tuple (tuple_of v.change) rows
of_own v rows = ap (λ (e : Bool). cond e (v ∷ of_tuple (tuple_of v.change) rows) (of_tuple (tuple_of v.change) rows)) (tuple_eq_refl (tuple_of v.change))

pub alike_none : (rows : List Version) → AreAlike [] rows → rows ≡ []
alike_none [] h = refl
alike_none (v ∷ rows) h = let some : [] ≡ v ∷ of_tuple (tuple_of v.change) rows = h.each (tuple_of v.change) ∙ of_own v rows in absurd cc

-- without a version that is the first of its tuple in both
pub alike_less : (v : Version) (a front back : List Version) → AreAlike (v ∷ a) (front ++ v ∷ back) → of_tuple (tuple_of v.change) front ≡ [] → AreAlike a (front ++ back)
alike_less v a front back h none = record {
  each = λ t. ⊎_elim
      (λ yes.
      let same : t ≡ tuple_of v.change = tuple_same t (tuple_of v.change) yes in
      let before : of_tuple t front ≡ [] = ap (λ (u : Tuple). of_tuple u front) same ∙ none in
      let one : v ∷ of_tuple t a ≡ of_tuple t front ++ v ∷ of_tuple t back =
      ap (λ (e : Bool). cond e (v ∷ of_tuple t a) (of_tuple t a)) (sym yes) ∙ h.each t ∙ filter-append _ front (v ∷ back)
      ∙ ap (λ (e : Bool). of_tuple t front ++ cond e (v ∷ of_tuple t back) (of_tuple t back)) yes
      in
      let two : v ∷ of_tuple t a ≡ v ∷ of_tuple t back = one ∙ ap (λ (l : List Version). l ++ v ∷ of_tuple t back) before in
      let rest : of_tuple t a ≡ of_tuple t back = cc in
      rest ∙ sym (filter-append _ front back ∙ ap (λ (l : List Version). l ++ of_tuple t back) before))
      (λ no.
      ap (λ (e : Bool). cond e (v ∷ of_tuple t a) (of_tuple t a)) (sym no) ∙ h.each t ∙ filter-append _ front (v ∷ back)
      ∙ ap (λ (e : Bool). of_tuple t front ++ cond e (v ∷ of_tuple t back) (of_tuple t back)) no
      ∙ sym (filter-append _ front back))
      (cases_Bool (tuple_eq t (tuple_of v.change)));
}

-- each has the versions of the other
pub alike_permutation : (a b : List Version) → AreAlike a b → IsPermutation a b
alike_permutation [] b h = subst (λ (l : List Version). IsPermutation [] l) (sym (alike_none b h)) (IsPermutation-refl [])
alike_permutation (v ∷ a) b h =
    let cut = cut_at (tuple_of v.change) b v (of_tuple (tuple_of v.change) a) (sym (h.each (tuple_of v.change)) ∙ of_own v a) in
    let less = alike_less v a cut.front cut.back (subst (AreAlike (v ∷ a)) cut.whole h) cut.none_before in
    let rest = IsPermutation-cons v a (cut.front ++ cut.back) (alike_permutation a (cut.front ++ cut.back) less) in
    let middle = IsPermutation-sym _ _ (IsPermutation-middle cut.front v cut.back) in
    subst (λ (l : List Version). IsPermutation (v ∷ a) l) (sym cut.whole) (IsPermutation-trans _ _ _ rest middle)

pub rows_alike : {a b listed : List Version} → AreAlike a b → AreRows a listed → AreRows b listed
rows_alike {a} {b} {listed} h rows = record {
  same = IsPermutation-trans _ _ _ (IsPermutation-sym _ _ (alike_permutation a b h)) rows.same;
  in_order = rows.in_order;
}

pub reads_alike : AlikeReadsAlike
reads_alike a b h = record {
  there = there_at_alike h;
  last = last_alike h;
  collected = collected_alike h;
  listed = alike_permutation a b h;
}
