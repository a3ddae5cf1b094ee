-- What holds of each shard below a number, and of that one.
use Rattle.std.proofs.Common.{◌≡◌, ⊎_elim, ◌==◌, ◌<◌, ◌+◌, ℕ, true, false, sym, ◌∙◌, subst, arith, eq-eqb}
use Rattle.std.proofs.lemmas.Bool.{cases_Bool, eqb-true}

pub one_shard_more : (P : ℕ → Type 0) (n : ℕ) → ((s : ℕ) → s < n → P s) → P n → (s : ℕ) → s < n + 1 → P s
one_shard_more P n before last s lt = ⊎_elim (λ same. subst P (sym (eqb-true s n same)) last) (λ other. before s (smaller other)) (cases_Bool (s == n))
  where
    smaller : (s == n) ≡ false → s < n
    smaller other = let ne : (s ≡ n) → ⊥ = λ is. (let yes : (s == n) ≡ true = eq-eqb s n is in let no : true ≡ false = sym yes ∙ other in cc) in omega (arith, lt, ne)
