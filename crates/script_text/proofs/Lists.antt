-- Small facts on lists and tests.
use Rattle.std.proofs.Common.{◌≡◌, ◌≢◌, ℕ, Bool, true, false, not, eqb, List, refl, sym, ◌∙◌}
use Rattle.std.specs.Cmp.Lexicographic.{pointwise}
use Rattle.std.proofs.lemmas.Bool.{both_ways}
use Rattle.std.proofs.lemmas.Bool.Decides.{Decides-eqb}
use Rattle.std.proofs.lemmas.Slice.Eq.{slice_eq-Decides}

-- what a comparison of texts says, if the second is known
pub same_text : (s t u : List ℕ) (r : Bool) → r ≡ pointwise eqb s t → t ≡ u → r ≡ true → s ≡ u
same_text s t u r e tu was = (slice_eq-Decides Decides-eqb s t r e).0 was ∙ tu

pub other_text : (s t u : List ℕ) (r : Bool) → r ≡ pointwise eqb s t → t ≡ u → r ≡ false → s ≢ u
other_text s t u r e tu was = λ same. both_ways r was ((slice_eq-Decides Decides-eqb s t r e).1 (same ∙ sym tu))

pub not_true : (b r : Bool) → r ≡ not b → r ≡ true → b ≡ false
not_true true r e was = absurd (both_ways r e was)
not_true false r e was = refl

pub not_false : (b r : Bool) → r ≡ not b → r ≡ false → b ≡ true
not_false true r e was = refl
not_false false r e was = absurd (both_ways r was e)
