-- What the shards have settled, with one more shard.
use Rattle.std.proofs.Common.{◌≡◌, ◌⊎◌, inl, inr, ℕ, ◌+◌, ◌<◌, ◌≤◌, List, [], ◌∷◌, ◌++◌, Contains, arith}
use Rattle.std.proofs.lemmas.Bool.{cases_order}
use Rattle.std.proofs.lemmas.List.Elements.{Contains-append_left, Contains-push}
use Rattle.decisions.specs.Coordinators.{HaveSettled}
use Rattle.decisions.specs.Values.{SettledValue}

-- the value that each shard below the number has settled with
abbrev HasSettled : ℕ → ℕ → List SettledValue → Type 0
HasSettled s place settled = (x : SettledValue) × Contains settled x × (x.shard ≡ s) × (place ≤ x.place)

-- by the order of a shard and the one that has settled now
by_order : (s n place : ℕ) (settled : List SettledValue) (x : SettledValue) → HaveSettled n place settled → x.shard ≡ n → place ≤ x.place → s < n + 1
    → (s ≡ n) ⊎ ((s < n) ⊎ (n < s)) → HasSettled s place (settled ++ x ∷ [])
by_order s n place settled x have own enough below (inl same) = (x, Contains-push settled x, rw same own, enough)
by_order s n place settled x have own enough below (inr (inl less)) = let y = have s less in (y.0, Contains-append_left settled (x ∷ []) y.0 y.1, y.2, y.3)
by_order s n place settled x have own enough below (inr (inr more)) = let no : ⊥ = omega (arith, below, more) in absurd no

pub one_more_has_settled : (n place : ℕ) (settled : List SettledValue) (x : SettledValue) → HaveSettled n place settled → x.shard ≡ n → place ≤ x.place
    → HaveSettled (n + 1) place (settled ++ x ∷ [])
one_more_has_settled n place settled x have own enough = λ s below. by_order s n place settled x have own enough below (cases_order s n)
