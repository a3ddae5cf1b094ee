-- Fields: a reader and a spelling that undo each other, and how fields are put together.
use Rattle.std.proofs.Common.{◌≡◌, ℕ, suc, ◌+◌, ◌^◌, ◌<◌, ◌≤◌, Bool, true, false, cond, ltb, List, [], ◌∷◌, ◌++◌, length, get_or, take, drop, Option, Some, None, refl, sym, ap, subst, ◌∙◌, append_assoc, arith, inl, inr}
use Rattle.std.specs.Int.{Width, w16, w64, byte_len, from_be_bytes, to_be_bytes}
use Rattle.std.proofs.lemmas.Bool.{cases_lt, ltb-false, le-ltb}
use Rattle.std.proofs.lemmas.List.{take_at, drop_at, take-append-drop, length-append, length-take, get_or-drop, get_or-take, get_or_past}
use Rattle.std.proofs.lemmas.Nat.{be_bytes_2, be_bytes_8, from_be_bytes-to_be_bytes_2, from_be_bytes-to_be_bytes_8}
use Rattle.records.specs.Reading.{◌>>=◌, if_passes, byte_at, number_at}

-- ---- bytes

abbrev pub IsBytes : List ℕ → Type 0
IsBytes bytes = (i : ℕ) → get_or bytes i 0 < 256

pub IsBytes-drop : (n : ℕ) (bytes : List ℕ) → IsBytes bytes → IsBytes (drop n bytes)
IsBytes-drop n bytes h i = rw get_or-drop (h (n + i))

IsBytes-take : (n : ℕ) (bytes : List ℕ) → IsBytes bytes → IsBytes (take n bytes)
IsBytes-take n bytes h i =
    elim (cases_lt i n) [
      | inl lt ↦ rw (get_or-take n bytes i 0 lt) (h i)
      | inr le ↦ rw (get_or_past (take n bytes) i 0 (omega (arith, length-take n bytes))) (omega arith)
    ]

-- ---- steps

-- the value of a step that gave one
pub bind_some : {A B : Type 0} (r : Option A) (f : A → Option B) (y : B) → (r >>= f) ≡ Some y → (x : A) × (r ≡ Some x) × (f x ≡ Some y)
bind_some None f y e = absurd cc
bind_some (Some x) f y e = (x, refl, e)

-- a test that let a value pass
pub passed : {A : Type 0} (b : Bool) (x y : A) → if_passes b x ≡ Some y → (b ≡ true) × (x ≡ y)
passed true x y e = (refl, cc)
passed false x y e = absurd cc

abbrev some : {A : Type 0} → A → Option A
some x = Some x

pub some_is : {A : Type 0} (x y : A) → some x ≡ some y → x ≡ y
some_is x y e = cc

same_parts : {A B : Type 0} (x y : A × B) → x ≡ y → (x.0 ≡ y.0) × (x.1 ≡ y.1)
same_parts x y e = (ap (λ w. w.0) e, ap (λ w. w.1) e)

-- what a reader took from the front
pub record Takes (bytes text rest : List ℕ) : Type 0 where
  pub parts : bytes ≡ text ++ rest
  pub rest_fits : IsBytes rest

pub Takes-then : (a x b y c : List ℕ) → Takes a x b → Takes b y c → Takes a (x ++ y) c
Takes-then a x b y c p q = record { parts = p.parts ∙ ap (λ (t : List ℕ). x ++ t) q.parts ∙ sym (append_assoc x y c); rest_fits = q.rest_fits }

-- after a kind
pub Takes-kind : (k : ℕ) (bytes text rest : List ℕ) → Takes bytes text rest → Takes (k ∷ bytes) (k ∷ text) rest
Takes-kind k bytes text rest t = record { parts = ap (λ (w : List ℕ). k ∷ w) t.parts; rest_fits = t.rest_fits }

-- ---- fields

-- what is read was spelled so, and what is spelled is read, whatever follows
pub record IsField {A : Type 0} (reader : List ℕ → Option (A × List ℕ)) (spelled : A → List ℕ) (Fits : A → Type 0) : Type 0 where
  pub takes : (bytes : List ℕ) (x : A × List ℕ) → IsBytes bytes → reader bytes ≡ Some x → Takes bytes (spelled x.0) x.1 × Fits x.0
  pub again : (x : A) (rest : List ℕ) → Fits x → reader (spelled x ++ rest) ≡ Some (x, rest)

-- the same for what is made of such a value
pub record IsCase {A C : Type 0} (reader : List ℕ → Option (C × List ℕ)) (make : A → C) (spelled : A → List ℕ) (Fits : A → Type 0) : Type 0 where
  pub takes : (bytes : List ℕ) (z : C × List ℕ) → IsBytes bytes → reader bytes ≡ Some z → (x : A) × (make x ≡ z.0) × Takes bytes (spelled x) z.1 × Fits x
  pub again : (x : A) (rest : List ℕ) → Fits x → reader (spelled x ++ rest) ≡ Some (make x, rest)

-- if each value is made in one way, that is a field
pub field_of : {A C : Type 0} (reader : List ℕ → Option (C × List ℕ)) (make : A → C) (s : A → List ℕ) (F : A → Type 0) (t : C → List ℕ) (G : C → Type 0)
    → IsCase reader make s F → ((x : A) → t (make x) ≡ s x) → ((x : A) → F x → G (make x)) → ((z : C) → G z → (x : A) × (make x ≡ z) × F x) → IsField reader t G
field_of reader make s F t G c spelled fits parts = record {
  takes = λ bytes z are_bytes e.
      let p = c.takes bytes z are_bytes e in
      let here : Takes bytes (t (make p.0)) z.1 × G (make p.0) = (rw (spelled p.0) p.2, fits p.0 p.3) in
      subst (λ y. Takes bytes (t y) z.1 × G y) p.1 here;
  again = λ z rest fit.
      let p = parts z fit in
      let here : reader (t (make p.0) ++ rest) ≡ Some (make p.0, rest) = ap (λ (x : List ℕ). reader (x ++ rest)) (spelled p.0) ∙ c.again p.0 rest p.2 in
      subst (λ y. reader (t y ++ rest) ≡ Some (y, rest)) p.1 here;
}

-- ---- one field, or several, and a test of them

abbrev pub one : {A C : Type 0} → (List ℕ → Option (A × List ℕ)) → (A → Bool) → (A → C) → List ℕ → Option (C × List ℕ)
one a test make bytes = a bytes >>= λ x. if_passes (test x.0) (make x.0, x.1)

pub one_case : {A C : Type 0} (a : List ℕ → Option (A × List ℕ)) (s : A → List ℕ) (F : A → Type 0) (test : A → Bool) (make : A → C)
    → IsField a s F → IsCase (one a test make) make s (λ x. F x × (test x ≡ true))
one_case a s F test make field = record {
  takes = λ bytes z are_bytes e.
      let p = bind_some (a bytes) (λ x. if_passes (test x.0) (make x.0, x.1)) z e in
      let q = passed (test p.0.0) (make p.0.0, p.0.1) z p.2 in
      let same = same_parts (make p.0.0, p.0.1) z q.1 in
      let t = field.takes bytes p.0 are_bytes p.1 in
      (p.0.0, same.0, subst (λ rest. Takes bytes (s p.0.0) rest) same.1 t.0, (t.1, q.0));
  again = λ x rest fit. rw (field.again x rest fit.0, fit.1) refl;
}

abbrev pub two : {A B C : Type 0} → (List ℕ → Option (A × List ℕ)) → (List ℕ → Option (B × List ℕ)) → (A → B → Bool) → (A → B → C) → List ℕ → Option (C × List ℕ)
two a b test make bytes = a bytes >>= λ x. b x.1 >>= λ y. if_passes (test x.0 y.0) (make x.0 y.0, y.1)

pub two_case : {A B C : Type 0} (a : List ℕ → Option (A × List ℕ)) (s : A → List ℕ) (F : A → Type 0) (b : List ℕ → Option (B × List ℕ)) (t : B → List ℕ) (G : B → Type 0) (test : A → B → Bool) (make : A → B → C)
    → IsField a s F → IsField b t G → IsCase (two a b test make) (λ (x : A × B). make x.0 x.1) (λ x. s x.0 ++ t x.1) (λ x. (F x.0 × G x.1) × (test x.0 x.1 ≡ true))
two_case a s F b t G test make first second = record {
  takes = λ bytes z are_bytes e.
      let p = bind_some (a bytes) (λ x. b x.1 >>= λ y. if_passes (test x.0 y.0) (make x.0 y.0, y.1)) z e in
      let q = bind_some (b p.0.1) (λ y. if_passes (test p.0.0 y.0) (make p.0.0 y.0, y.1)) z p.2 in
      let r = passed (test p.0.0 q.0.0) (make p.0.0 q.0.0, q.0.1) z q.2 in
      let same = same_parts (make p.0.0 q.0.0, q.0.1) z r.1 in
      let u = first.takes bytes p.0 are_bytes p.1 in
      let v = second.takes p.0.1 q.0 u.0.rest_fits q.1 in
      let both = Takes-then bytes (s p.0.0) p.0.1 (t q.0.0) q.0.1 u.0 v.0 in
      ((p.0.0, q.0.0), same.0, subst (λ rest. Takes bytes (s p.0.0 ++ t q.0.0) rest) same.1 both, ((u.1, v.1), r.0));
  again = λ x rest fit.
      ap (two a b test make) {x = (s x.0 ++ t x.1) ++ rest} (append_assoc (s x.0) (t x.1) rest) ∙ rw (first.again x.0 (t x.1 ++ rest) fit.0.0, second.again x.1 rest fit.0.1, fit.1) refl;
}

abbrev pub three : {A B D C : Type 0} → (List ℕ → Option (A × List ℕ)) → (List ℕ → Option (B × List ℕ)) → (List ℕ → Option (D × List ℕ)) → (A → B → D → Bool) → (A → B → D → C) → List ℕ → Option (C × List ℕ)
three a b d test make bytes = a bytes >>= λ x. b x.1 >>= λ y. d y.1 >>= λ z. if_passes (test x.0 y.0 z.0) (make x.0 y.0 z.0, z.1)

pub three_case : {A B D C : Type 0} (a : List ℕ → Option (A × List ℕ)) (s : A → List ℕ) (F : A → Type 0) (b : List ℕ → Option (B × List ℕ)) (t : B → List ℕ) (G : B → Type 0) (d : List ℕ → Option (D × List ℕ)) (u : D → List ℕ) (H : D → Type 0) (test : A → B → D → Bool) (make : A → B → D → C)
    → IsField a s F → IsField b t G → IsField d u H
    → IsCase (three a b d test make) (λ (x : A × B × D). make x.0 x.1 x.2) (λ x. s x.0 ++ (t x.1 ++ u x.2)) (λ x. (F x.0 × G x.1 × H x.2) × (test x.0 x.1 x.2 ≡ true))
three_case a s F b t G d u H test make first second third = record {
  takes = λ bytes z are_bytes e.
      let p = bind_some (a bytes) (λ x. b x.1 >>= λ y. d y.1 >>= λ w. if_passes (test x.0 y.0 w.0) (make x.0 y.0 w.0, w.1)) z e in
      let q = two_case b t G d u H (test p.0.0) (make p.0.0) second third in
      let v = first.takes bytes p.0 are_bytes p.1 in
      let r = q.takes p.0.1 z v.0.rest_fits p.2 in
      ((p.0.0, r.0.0, r.0.1), r.1, Takes-then bytes (s p.0.0) p.0.1 (t r.0.0 ++ u r.0.1) z.1 v.0 r.2, ((v.1, r.3.0.0, r.3.0.1), r.3.1));
  again = λ x rest fit.
      let q = two_case b t G d u H (test x.0) (make x.0) second third in
      ap (three a b d test make) {x = (s x.0 ++ (t x.1 ++ u x.2)) ++ rest} (append_assoc (s x.0) (t x.1 ++ u x.2) rest) ∙ rw (first.again x.0 ((t x.1 ++ u x.2) ++ rest) fit.0.0) (q.again (x.1, x.2) rest ((fit.0.1, fit.0.2), fit.1));
}

abbrev pub four : {A B D E C : Type 0} → (List ℕ → Option (A × List ℕ)) → (List ℕ → Option (B × List ℕ)) → (List ℕ → Option (D × List ℕ)) → (List ℕ → Option (E × List ℕ)) → (A → B → D → E → Bool) → (A → B → D → E → C) → List ℕ → Option (C × List ℕ)
four a b d f test make bytes = a bytes >>= λ x. b x.1 >>= λ y. d y.1 >>= λ z. f z.1 >>= λ w. if_passes (test x.0 y.0 z.0 w.0) (make x.0 y.0 z.0 w.0, w.1)

pub four_case : {A B D E C : Type 0} (a : List ℕ → Option (A × List ℕ)) (s : A → List ℕ) (F : A → Type 0) (b : List ℕ → Option (B × List ℕ)) (t : B → List ℕ) (G : B → Type 0) (d : List ℕ → Option (D × List ℕ)) (u : D → List ℕ) (H : D → Type 0) (f : List ℕ → Option (E × List ℕ)) (v : E → List ℕ) (I : E → Type 0) (test : A → B → D → E → Bool) (make : A → B → D → E → C)
    → IsField a s F → IsField b t G → IsField d u H → IsField f v I
    → IsCase (four a b d f test make) (λ (x : A × B × D × E). make x.0 x.1 x.2 x.3) (λ x. s x.0 ++ (t x.1 ++ (u x.2 ++ v x.3))) (λ x. (F x.0 × G x.1 × H x.2 × I x.3) × (test x.0 x.1 x.2 x.3 ≡ true))
four_case a s F b t G d u H f v I test make first second third fourth = record {
  takes = λ bytes z are_bytes e.
      let p = bind_some (a bytes) (λ x. b x.1 >>= λ y. d y.1 >>= λ w. f w.1 >>= λ o. if_passes (test x.0 y.0 w.0 o.0) (make x.0 y.0 w.0 o.0, o.1)) z e in
      let q = three_case b t G d u H f v I (test p.0.0) (make p.0.0) second third fourth in
      let w = first.takes bytes p.0 are_bytes p.1 in
      let r = q.takes p.0.1 z w.0.rest_fits p.2 in
      ((p.0.0, r.0.0, r.0.1, r.0.2), r.1, Takes-then bytes (s p.0.0) p.0.1 (t r.0.0 ++ (u r.0.1 ++ v r.0.2)) z.1 w.0 r.2, ((w.1, r.3.0.0, r.3.0.1, r.3.0.2), r.3.1));
  again = λ x rest fit.
      let q = three_case b t G d u H f v I (test x.0) (make x.0) second third fourth in
      ap (four a b d f test make) {x = (s x.0 ++ (t x.1 ++ (u x.2 ++ v x.3))) ++ rest} (append_assoc (s x.0) (t x.1 ++ (u x.2 ++ v x.3)) rest) ∙ rw (first.again x.0 ((t x.1 ++ (u x.2 ++ v x.3)) ++ rest) fit.0.0) (q.again (x.1, x.2, x.3) rest ((fit.0.1, fit.0.2, fit.0.3), fit.1));
}

-- ---- a field after its kind

abbrev pub tagged : {C : Type 0} → (ℕ → List ℕ → Option (C × List ℕ)) → List ℕ → Option (C × List ℕ)
tagged of_kind bytes = byte_at bytes >>= λ k. of_kind k.0 k.1

pub IsBytes-rest : (b : ℕ) (bytes : List ℕ) → IsBytes (b ∷ bytes) → IsBytes bytes
IsBytes-rest b bytes h i = h (suc i)

tagged_takes : {C : Type 0} (of_kind : ℕ → List ℕ → Option (C × List ℕ)) (s : C → List ℕ) (F : C → Type 0)
    → ((k : ℕ) (bytes : List ℕ) (z : C × List ℕ) → IsBytes bytes → of_kind k bytes ≡ Some z → Takes (k ∷ bytes) (s z.0) z.1 × F z.0)
    → (bytes : List ℕ) (z : C × List ℕ) → IsBytes bytes → tagged of_kind bytes ≡ Some z → Takes bytes (s z.0) z.1 × F z.0
tagged_takes of_kind s F each [] z are_bytes e = absurd cc
tagged_takes of_kind s F each (k ∷ bytes) z are_bytes e = each k bytes z (IsBytes-rest k bytes are_bytes) e

pub tagged_field : {C : Type 0} (of_kind : ℕ → List ℕ → Option (C × List ℕ)) (s : C → List ℕ) (F : C → Type 0)
    → ((k : ℕ) (bytes : List ℕ) (z : C × List ℕ) → IsBytes bytes → of_kind k bytes ≡ Some z → Takes (k ∷ bytes) (s z.0) z.1 × F z.0)
    → ((z : C) (rest : List ℕ) → F z → tagged of_kind (s z ++ rest) ≡ Some (z, rest))
    → IsField (tagged of_kind) s F
tagged_field of_kind s F each back = record { takes = λ bytes z are_bytes e. tagged_takes of_kind s F each bytes z are_bytes e; again = back }

-- ---- numbers

byte_takes : (bytes : List ℕ) (x : ℕ × List ℕ) → IsBytes bytes → byte_at bytes ≡ Some x → Takes bytes (x.0 ∷ []) x.1 × (x.0 < 256)
byte_takes [] x fits e = absurd cc
byte_takes (b ∷ bytes) x fits e =
    subst (λ (y : ℕ × List ℕ). Takes (b ∷ bytes) (y.0 ∷ []) y.1 × (y.0 < 256)) (some_is (b, bytes) x e) (record { parts = refl; rest_fits = IsBytes-rest b bytes fits }, fits 0)

pub byte_field : IsField byte_at (λ b. b ∷ []) (λ b. b < 256)
byte_field = record { takes = byte_takes; again = λ b rest lt. refl }

pub record IsWide (w : Width) (limit : ℕ) : Type 0 where
  pub len : (n : ℕ) → length (to_be_bytes w n) ≡ byte_len w
  pub back : (bytes : List ℕ) → length bytes ≡ byte_len w → IsBytes bytes → to_be_bytes w (from_be_bytes w bytes) ≡ bytes
  pub again : (n : ℕ) → n < limit → from_be_bytes w (to_be_bytes w n) ≡ n
  pub below : (bytes : List ℕ) → IsBytes bytes → from_be_bytes w bytes < limit

pub wide16 : IsWide w16 (2 ^ 16)
wide16 = record {
  len = λ n. refl;
  back = λ bytes len fits. be_bytes_2 bytes _ len fits refl;
  again = λ n lt. from_be_bytes-to_be_bytes_2 n lt;
  below = λ bytes fits. omega (arith, fits 0, fits 1);
}

pub wide64 : IsWide w64 (2 ^ 64)
wide64 = record {
  len = λ n. refl;
  back = λ bytes len fits. be_bytes_8 bytes _ len fits refl;
  again = λ n lt. from_be_bytes-to_be_bytes_8 n lt;
  below = λ bytes fits. omega (arith, fits 0, fits 1, fits 2, fits 3, fits 4, fits 5, fits 6, fits 7);
}

-- a test that refuses
pub refused : {A : Type 0} (b : Bool) (x y : A) → cond b None (Some x) ≡ Some y → (b ≡ false) × (x ≡ y)
refused true x y e = absurd cc
refused false x y e = (refl, cc)

pub number_takes : (w : Width) (limit : ℕ) (wide : IsWide w limit) (bytes : List ℕ) (x : ℕ × List ℕ) → IsBytes bytes → number_at w bytes ≡ Some x → Takes bytes (to_be_bytes w x.0) x.1 × (x.0 < limit)
unfolding number_at
number_takes w limit wide bytes x fits e =
    let g = refused (ltb (length bytes) (byte_len w)) (from_be_bytes w (take (byte_len w) bytes), drop (byte_len w) bytes) x e in
    let long : byte_len w ≤ length bytes = ltb-false _ _ g.0 in
    let front : to_be_bytes w (from_be_bytes w (take (byte_len w) bytes)) ≡ take (byte_len w) bytes = wide.back (take (byte_len w) bytes) (omega (arith, length-take (byte_len w) bytes)) (IsBytes-take (byte_len w) bytes fits) in
    subst (λ (y : ℕ × List ℕ). Takes bytes (to_be_bytes w y.0) y.1 × (y.0 < limit)) g.1
    (record { parts = rw front (sym (take-append-drop (byte_len w) bytes)); rest_fits = IsBytes-drop (byte_len w) bytes fits }, wide.below (take (byte_len w) bytes) (IsBytes-take (byte_len w) bytes fits))

pub number_again : (w : Width) (limit : ℕ) (wide : IsWide w limit) (n : ℕ) (rest : List ℕ) → n < limit → number_at w (to_be_bytes w n ++ rest) ≡ Some (n, rest)
unfolding number_at
number_again w limit wide n rest lt =
    let len = wide.len n in
    let long : ltb (length (to_be_bytes w n ++ rest)) (byte_len w) ≡ false = le-ltb _ _ (omega (arith, length-append (to_be_bytes w n) rest)) in
    rw (long, take_at (to_be_bytes w n) rest (byte_len w) len, drop_at (to_be_bytes w n) rest (byte_len w) len, wide.again n lt) refl

pub number_field : (w : Width) (limit : ℕ) → IsWide w limit → IsField (number_at w) (to_be_bytes w) (λ n. n < limit)
number_field w limit wide = record { takes = λ bytes x fits e. number_takes w limit wide bytes x fits e; again = λ n rest lt. number_again w limit wide n rest lt }
