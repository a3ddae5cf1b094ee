-- A walk over a table that takes the last row from one tuple.
use Rattle.std.proofs.Common.{◌≡◌, ◌-◌, Bool, true, false, cond, List, [], ◌∷◌, ◌++◌, length, take, Option, None, Some, inl, inr, refl, sym, ap, subst, ◌∙◌}
use Rattle.std.specs.Prelude.{is_some}
use Rattle.std.specs.Map.Calls.{RetainsPairs}
use Rattle.std.proofs.lemmas.Bool.{cases_Bool}
use Rattle.tuples.specs.declared.tuple.Tuple.{Tuple}
use Rattle.tuples.specs.Order.{tuple_eq}
use Rattle.tuples.proofs.Ordered.{tuple_eq_from_same, tuple_eq_symm}
use Rattle.tuples.proofs.Same.{tuple_same}
use Rattle.versions.specs.Alike.{AreAlike}
use Rattle.versions.specs.Index.{HasSame}
use Rattle.versions.specs.Rows.{found, listed, rows_in, versions_of}
use Rattle.versions.specs.declared.history.Row.{Row}
use Rattle.versions.proofs.Tables.{AreSorted, Entries, fewer_alike, take_none}
use Rattle.versions.proofs.Tied.{same_tie}

abbrev front_rows : List Row → List Row
front_rows v = take (length v - 1) v

abbrev shorter : Option (List Row) → Option (List Row)
shorter None = None
shorter (Some v) = Some (front_rows v)

head : (t q u : Tuple) (v w : List Row) (es rest : Entries) → w ≡ cond (tuple_eq u t) (front_rows v) v → found q rest ≡ cond (tuple_eq t q) (shorter (found t es)) (found q es)
    → found q ((u, w) ∷ rest) ≡ cond (tuple_eq t q) (shorter (found t ((u, v) ∷ es))) (found q ((u, v) ∷ es))
head t q u v w es rest is again = elim (cases_Bool (tuple_eq q u)) [
  | inl same ↦
      let here : found q ((u, w) ∷ rest) ≡ Some w = ap (λ (b : Bool). cond b (Some w) (found q rest)) (same_tie q u ∙ same) in
      let was : found q ((u, v) ∷ es) ≡ Some v = ap (λ (b : Bool). cond b (Some v) (found q es)) (same_tie q u ∙ same) in
      here ∙ elim (cases_Bool (tuple_eq t q)) [
        | inl own ↦
            let first : found t ((u, v) ∷ es) ≡ Some v = ap (λ (x : Tuple). found x ((u, v) ∷ es)) (tuple_same t q own) ∙ was in
            let both : tuple_eq u t ≡ true = tuple_eq_from_same u t (sym (tuple_same t q own ∙ tuple_same q u same)) in
            ap (λ (l : List Row). Some l) (is ∙ ap (λ (b : Bool). cond b (front_rows v) v) both)
            ∙ sym (ap (λ (b : Bool). cond b (shorter (found t ((u, v) ∷ es))) (found q ((u, v) ∷ es))) own ∙ ap shorter first)
        | inr other ↦
            let apart : tuple_eq u t ≡ false = ap (λ (x : Tuple). tuple_eq x t) (sym (tuple_same q u same)) ∙ tuple_eq_symm q t ∙ other in
            ap (λ (l : List Row). Some l) (is ∙ ap (λ (b : Bool). cond b (front_rows v) v) apart)
            ∙ sym (ap (λ (b : Bool). cond b (shorter (found t ((u, v) ∷ es))) (found q ((u, v) ∷ es))) other ∙ was)
      ]
  | inr apart ↦
      let past : found q ((u, w) ∷ rest) ≡ found q rest = ap (λ (b : Bool). cond b (Some w) (found q rest)) (same_tie q u ∙ apart) in
      let was : found q ((u, v) ∷ es) ≡ found q es = ap (λ (b : Bool). cond b (Some v) (found q es)) (same_tie q u ∙ apart) in
      past ∙ again ∙ elim (cases_Bool (tuple_eq t q)) [
        | inl own ↦
            let first : found t ((u, v) ∷ es) ≡ found t es = ap (λ (b : Bool). cond b (Some v) (found t es)) (same_tie t u ∙ ap (λ (x : Tuple). tuple_eq x u) (tuple_same t q own) ∙ apart) in
            ap (λ (b : Bool). cond b (shorter (found t es)) (found q es)) own
            ∙ sym (ap (λ (b : Bool). cond b (shorter (found t ((u, v) ∷ es))) (found q ((u, v) ∷ es))) own ∙ ap shorter first)
        | inr other ↦
            ap (λ (b : Bool). cond b (shorter (found t es)) (found q es)) other
            ∙ sym (ap (λ (b : Bool). cond b (shorter (found t ((u, v) ∷ es))) (found q ((u, v) ∷ es))) other ∙ was)
      ]
]

none_either : (b : Bool) → None ≡ cond b (shorter None) None
none_either true = refl
none_either false = refl

still_some : (o : Option (List Row)) → is_some (shorter o) ≡ is_some o
still_some None = refl
still_some (Some v) = refl

cut_rows : (o : Option (List Row)) → rows_in (shorter o) ≡ front_rows (rows_in o)
cut_rows None = sym (take_none (0 - 1))
cut_rows (Some v) = refl

module _ {F : Type 0} (t : Tuple) (T : F → Tuple → List Row → Bool → List Row → F → Type 0) (f : F)
    (each : (k : Tuple) (v : List Row) (b : Bool) (w : List Row) (g : F) → T f k v b w g → (w ≡ cond (tuple_eq k t) (take (length v - 1) v) v) × (b ≡ true) × (g ≡ f)) where
  shortened_at : (g : F) → g ≡ f → (q : Tuple) (es kept : Entries) → RetainsPairs T g es kept → found q kept ≡ cond (tuple_eq t q) (shorter (found t es)) (found q es)
  shortened_at g same q [] kept is = ap (λ (l : Entries). found q l) is ∙ none_either (tuple_eq t q)
  shortened_at g same q ((u, v) ∷ es) kept (b, w, next, rest, called, more, is) =
      let one = each u v b w next (subst (λ (x : F). T x u v b w next) same called) in
      ap (λ (l : Entries). found q l) (is ∙ ap (λ (d : Bool). cond d ((u, w) ∷ rest) rest) one.1)
      ∙ head t q u v w es rest one.0 (shortened_at next one.2 q es rest more)

  pub shortened_same : (es kept : Entries) → RetainsPairs T f es kept → HasSame es kept
  unfolding HasSame
  shortened_same es kept is q = ap (λ (o : Option (List Row)). is_some o) (shortened_at f refl q es kept is) ∙ elim (cases_Bool (tuple_eq t q)) [
    | inl own ↦
        ap (λ (b : Bool). is_some (cond b (shorter (found t es)) (found q es))) own
        ∙ still_some (found t es)
        ∙ ap (λ (x : Tuple). is_some (found x es)) (tuple_same t q own)
    | inr other ↦ ap (λ (b : Bool). is_some (cond b (shorter (found t es)) (found q es))) other
  ]

  pub shortened_alike : (es kept : Entries) → RetainsPairs T f es kept → AreSorted es → AreSorted kept → (front : List _) (row : Row) → AreAlike (listed es) (front ++ versions_of t (row ∷ [])) → AreAlike (listed kept) front
  shortened_alike es kept is old new front row whole =
      fewer_alike t (shorter (found t es)) (row ∷ []) front es kept old new
      (λ q. shortened_at f refl q es kept is ∙ ap (λ (b : Bool). cond b (shorter (found t es)) (found q es)) (sym (same_tie t q)))
      (cut_rows (found t es)) whole
