-- Which bytes the text of a number has.
use Rattle.std.proofs.Common.{◌≡◌, ℕ, ◌<◌, ◌^◌, false, eqb, List, [], ◌∷◌, ◌⊎◌, inl, inr, refl, subst, arith}
use Rattle.std.specs.List.{list_any}
use Rattle.std.specs.Int.{IsInRange}
use Rattle.std.specs.Str.Parse.{AllDigits}
use Rattle.std.specs.Fmt.{decimal}
use Rattle.std.proofs.lemmas.Fmt.{decimal_is_IsNumeral}
use Rattle.std.proofs.lemmas.Str.Parse.{digit_from_value}
use Rattle.std.proofs.lemmas.Bool.{ne_eqb, or_from}
use Rattle.tuples.specs.Parsing.{Lacks}

digit_is_not : (mark c : ℕ) → (IsInRange 48 57 mark → ⊥) → IsInRange 48 57 c → eqb c mark ≡ false
digit_is_not mark c other h = ne_eqb c mark (λ same. other (subst (λ (n : ℕ). IsInRange 48 57 n) same h))

digits_lack : (mark : ℕ) → (IsInRange 48 57 mark → ⊥) → (ds : List ℕ) → AllDigits 10 ds → Lacks mark ds
digits_lack mark other [] h = refl
digits_lack mark other (c ∷ cs) h = or_from (eqb c mark) (list_any (λ b. eqb b mark) cs) (digit_is_not mark c other (digit_from_value c h.0)) (digits_lack mark other cs h.1)

no_digit : (mark : ℕ) → (57 < mark) ⊎ (mark < 48) → IsInRange 48 57 mark → ⊥
no_digit mark (inl high) h = omega (arith, h.1)
no_digit mark (inr low) h = omega (arith, h.0)

pub decimal_lacks : (mark n : ℕ) → (57 < mark) ⊎ (mark < 48) → n < 2 ^ 63 → Lacks mark (decimal n)
decimal_lacks mark n other h = digits_lack mark (no_digit mark other) (decimal n) ((decimal_is_IsNumeral n (omega arith)).0).1
