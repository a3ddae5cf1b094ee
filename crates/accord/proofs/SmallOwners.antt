-- Small goods of callers: one write that is listed; and mistakes, each refused by a clause.
use Rattle.std.proofs.Common.{◌≡◌, ℕ, zero, suc, Bool, true, false, List, [], ◌∷◌, Option, Some, None, slice_get, refl, sym, ap, ◌∙◌, arith}
use Rattle.std.proofs.lemmas.Bool.{both_ways}
use Rattle.std.proofs.lemmas.Option.{same_Some}
use Rattle.tuples.specs.declared.change.Change.TheVariants.{Touch}
use Rattle.tuples.specs.declared.entry.Entry.{Entry}
use Rattle.tuples.proofs.Examples.{numbered, viewed}
use Rattle.accord.specs.declared.goods.Begun.{Begun}
use Rattle.accord.specs.Owning.{Owned, OwnersAgree}

abbrev pub first_write : Entry
first_write = numbered 1 (Touch (viewed 97) ∷ []) []

abbrev pub one_begun : Entry → Bool → Begun
one_begun w is_decided = record { write = w; is_decided = is_decided }

-- what callers 0 and 1 began
abbrev pub goods_of : List Begun → List Begun → ℕ → Option (List Begun)
goods_of one other zero = Some one
goods_of one other (suc zero) = Some other
goods_of one other (suc (suc k)) = None

abbrev nobody : ℕ → Option (List Begun)
nobody = goods_of [] []

of_second : (w : Entry) (is_decided : Bool) (one : List Begun) → Owned (goods_of one (one_begun w is_decided ∷ [])) 1 0 (one_begun w is_decided)
of_second w is_decided one = record { begun = one_begun w is_decided ∷ []; has = refl; there = refl }

pub of_first : (w : Entry) (is_decided : Bool) (other : List Begun) → Owned (goods_of (one_begun w is_decided ∷ []) other) 0 0 (one_begun w is_decided)
of_first w is_decided other = record { begun = one_begun w is_decided ∷ []; has = refl; there = refl }

-- one write, which the first caller began and decided
pub decided_only : (k i : ℕ) (b : Begun) → Owned (goods_of (one_begun first_write true ∷ []) []) k i b → (k ≡ 0) × (i ≡ 0) × (one_begun first_write true ≡ b)
decided_only zero i b own = at i (ap (λ (l : List Begun). slice_get l i) (same_Some _ _ own.has) ∙ own.there)
  where
    at : (j : ℕ) → slice_get (one_begun first_write true ∷ []) j ≡ Some b → (◌≡◌ {A = ℕ} 0 0) × (j ≡ 0) × (one_begun first_write true ≡ b)
    at zero is = (refl, refl, same_Some _ _ is)
    at (suc j) is = absurd cc
decided_only (suc zero) i b own = let has = own.has in let there = own.there in absurd cc
decided_only (suc (suc k)) i b own = let has = own.has in absurd cc

pub one_agrees : OwnersAgree 0 (first_write ∷ []) [] (goods_of (one_begun first_write true ∷ []) [])
one_agrees = record {
  once = λ k l i j b d own own' same.
      let x = decided_only k i b own in
      let y = decided_only l j d own' in
      (x.0 ∙ sym y.0, x.1 ∙ sym y.1);
  opened = λ k i b w own has same. absurd (omega (arith, has.1));
  listed = λ k i b j w own at same.
      let is = (decided_only k i b own).2 in
      (sym (listed_first j w at) ∙ ap (λ (x : Begun). x.write) is, ap (λ (x : Begun). x.is_decided) (sym is));
  all_listed = λ j w at le. (0, 0, one_begun first_write true, of_first first_write true [], listed_first j w at);
  all_open = λ w has. absurd (omega (arith, has.1));
}
  where
    listed_first : (j : ℕ) (w : Entry) → slice_get (first_write ∷ []) j ≡ Some w → first_write ≡ w
    listed_first zero w at = same_Some _ _ at
    listed_first (suc j) w at = absurd cc

-- a write is listed that its caller did not decide: what was refused came to stand
no_refused_write : OwnersAgree 0 (first_write ∷ []) [] (goods_of (one_begun first_write false ∷ []) []) → ⊥
no_refused_write a = both_ways false refl (a.listed 0 0 _ 0 first_write (of_first first_write false []) refl refl).1

-- a write is listed that nobody began
no_unasked_write : OwnersAgree 0 (first_write ∷ []) [] nobody → ⊥
no_unasked_write a =
    let who = a.all_listed 0 first_write refl (omega arith) in
    nobody_owns who.0 who.1 who.2 who.3
  where
    nobody_owns : (k i : ℕ) (b : Begun) → Owned nobody k i b → ⊥
    nobody_owns zero i b own = let has = own.has in let there = own.there in absurd cc
    nobody_owns (suc zero) i b own = let has = own.has in let there = own.there in absurd cc
    nobody_owns (suc (suc k)) i b own = let has = own.has in absurd cc

-- two callers began one id
no_id_twice : OwnersAgree 0 [] [] (goods_of (one_begun first_write false ∷ []) (one_begun first_write false ∷ [])) → ⊥
no_id_twice a = let same = (a.once 0 1 0 0 _ _ (of_first first_write false _) (of_second first_write false _) refl).0 in omega (arith, same)

-- an open write has the id of another that was begun
abbrev other_write : Entry
other_write = record first_write { changes = [] }

no_other_open_write : OwnersAgree 0 [] (other_write ∷ []) (goods_of (one_begun first_write false ∷ []) []) → ⊥
no_other_open_write a =
    let same = (a.opened 0 0 _ other_write (of_first first_write false []) (0, omega arith, refl) refl).0 in
    let none : [] ≡ Touch (viewed 97) ∷ [] = ap (λ (w : Entry). w.changes) same in
    absurd cc
