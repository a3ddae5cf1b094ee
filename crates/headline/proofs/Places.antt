-- What replaces what stood at one node.
use Rattle.std.proofs.Common.{◌≡◌, ◌≢◌, ⊎_elim, ◌==◌, refl, ap, if◌then◌else◌}
use Rattle.std.proofs.lemmas.Bool.{cases_Bool, eq-eqb, eqb-true}
use Rattle.headline.proofs.Words.{NodeName, coordinator, shard}

-- this at the node, and at the others what was there
abbrev pub in_place : {X : Type 0} → NodeName → X → (NodeName → X) → NodeName → X
in_place coordinator x f coordinator = x
in_place coordinator x f (shard t) = f (shard t)
in_place (shard s) x f coordinator = f coordinator
in_place (shard s) x f (shard t) = if t == s then x else f (shard t)

pub in_place_here : {X : Type 0} (n : NodeName) (x : X) (f : NodeName → X) → in_place n x f n ≡ x
in_place_here coordinator x f = refl
in_place_here (shard s) x f = ap (λ b. if b then x else f (shard s)) (eq-eqb s s refl)

pub in_place_elsewhere : {X : Type 0} (n : NodeName) (x : X) (f : NodeName → X) (m : NodeName) → m ≢ n → in_place n x f m ≡ f m
in_place_elsewhere coordinator x f coordinator ne = absurd (ne refl)
in_place_elsewhere coordinator x f (shard t) ne = refl
in_place_elsewhere (shard s) x f coordinator ne = refl
in_place_elsewhere (shard s) x f (shard t) ne = ⊎_elim
    (λ same. absurd (ne (ap shard (eqb-true t s same))))
    (λ other. ap (λ b. if b then x else f (shard t)) other)
    (cases_Bool (t == s))
