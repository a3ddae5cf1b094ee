-- A refusal is the one that is asked for, or another.
use Rattle.std.proofs.Common.{◌≡◌, ◌≢◌, ◌⊎◌, inl, inr, refl}
use Rattle.refusal.specs.declared.refusal.Refusal.{Refusal}
use Rattle.refusal.specs.declared.refusal.Refusal.TheVariants.{Collected, Full}

pub is_full : (e : Refusal) → (e ≡ Full) ⊎ (e ≢ Full)
is_full Full = inl refl
is_full e = inr (λ is. cc)

pub is_collected : (e : Refusal) → (e ≡ Collected) ⊎ (e ≢ Collected)
is_collected Collected = inl refl
is_collected e = inr (λ is. cc)
