use Rattle.std.proofs.Common.{◌≡◌, ℕ, List, refl, ap, subst, ◌∙◌}
use Rattle.decisions.specs.Values.{SettledValue}
use Rattle.decisions.specs.Coordinators.{HaveSettled}
use Rattle.cases.proofs.small_stores.raise.Goals as goal

settled_as : {n m place : ℕ} {xs ys : List SettledValue} → n ≡ m → xs ≡ ys → HaveSettled n place xs → HaveSettled m place ys
settled_as {n} {m} {place} {xs} {ys} shards values all = subst (λ (l : List SettledValue). HaveSettled m place l) values (subst (λ (k : ℕ). HaveSettled k place xs) shards all)

pub raise-requires : goal.raise-requires
raise-requires g c = record {
  settled = settled_as (c.shards-shards.ensures.value ∙ ap (λ i. i.shards) c.identity.ensures) c.deref.ensures.value (c.if-not-settles.ensures.0 refl);
}
