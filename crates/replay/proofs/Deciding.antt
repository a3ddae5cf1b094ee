-- The tests decide the rules of what may come next.
use Rattle.std.proofs.Common.{◌≡◌, ⊎_elim, ◌↔◌, Bool, true, false, not, ◌&&◌, List, [], ◌∷◌, Option, Some, None, is_some, refl, sym, ◌∙◌, ap, cond, All, subst}
use Rattle.std.specs.List.{list_all}
use Rattle.std.proofs.lemmas.Bool.{eqb-true, eq-eqb, cases_Bool, and_parts, and_from, not-true, not_from_false, both_ways}
use Rattle.std.proofs.lemmas.List.Elements.{All-nil, All-cons, All-head, All-tail}
use Rattle.tuples.specs.declared.tuple.Tuple.{Tuple}
use Rattle.tuples.specs.declared.entry.Entry.{Entry}
use Rattle.tuples.specs.declared.entry.WriteId.{WriteId}
use Rattle.tuples.specs.Log.{same_id}
use Rattle.tuples.specs.Parts.{shard_of}
use Rattle.tuples.proofs.Options.{some_value}
use Rattle.records.specs.declared.record.PlacedId.{PlacedId}
use Rattle.records.specs.Replays.{ArePrepared, Identity, find_in_doubt, without}
use Rattle.replay.specs.Rules.{are_prepared, has_placed_id, is_own}
use Rattle.holds.proofs.Doubts.{find_without_other, find_without_same, same_id_other, same_id_refl}

abbrev pub AreOwn : Identity → List Tuple → Type 0
AreOwn me = All (λ (t : Tuple). shard_of me.shards t.object ≡ me.node)

own_parts : (me : Identity) (ts : List Tuple) → list_all (is_own me) ts ≡ true → AreOwn me ts
own_parts me [] is = All-nil _
own_parts me (t ∷ ts) is =
    let parts = and_parts (is_own me t) (list_all (is_own me) ts) is in
    All-cons (λ (t : Tuple). shard_of me.shards t.object ≡ me.node) t ts (eqb-true _ _ parts.0) (own_parts me ts parts.1)

own_from : (me : Identity) (ts : List Tuple) → AreOwn me ts → list_all (is_own me) ts ≡ true
own_from me [] own = refl
own_from me (t ∷ ts) own =
    and_from _ _ (eq-eqb _ _ (All-head (λ (t : Tuple). shard_of me.shards t.object ≡ me.node) t ts own)) (own_from me ts (All-tail (λ (t : Tuple). shard_of me.shards t.object ≡ me.node) t ts own))

pub own_decides : (me : Identity) (ts : List Tuple) → (list_all (is_own me) ts ≡ true) ↔ AreOwn me ts
own_decides me ts = (own_parts me ts, own_from me ts)

is_found : {X : Type 0} (o : Option X) (x : X) → o ≡ Some x → is_some o ≡ true
is_found o x is = ap (λ p. is_some p) is

without_swap : (a b : WriteId) (ws : List Entry) → without a (without b ws) ≡ without b (without a ws)
without_swap a b [] = refl
without_swap a b (w ∷ ws) =
    let rest = without_swap a b ws in
    ⊎_elim
    (λ out_a. ⊎_elim (λ out_b. rw out_a (rw out_b rest)) (λ in_b. rw in_b (rw out_a rest)) (cases_Bool (same_id w.id b)))
    (λ in_a. ⊎_elim (λ out_b. rw in_a (rw out_b rest)) (λ in_b. rw in_a (rw in_b (rw in_a (ap (λ (l : List Entry). w ∷ l) rest)))) (cases_Bool (same_id w.id b)))
    (cases_Bool (same_id w.id a))

other_id : (a b : WriteId) → same_id a b ≡ false → a ≡ b → ⊥
other_id a b apart is = both_ways _ apart (ap (λ (c : WriteId). same_id a c) (sym is) ∙ same_id_refl a)

first_false : (a b : Bool) → cond a true b ≡ false → (a ≡ false) × (b ≡ false)
first_false true b is = absurd cc
first_false false b is = (refl, is)

-- the placed ids of other writes are in doubt without this one too
prepared_without : (id : WriteId) (placed_ids : List PlacedId) (ws : List Entry) → has_placed_id id placed_ids ≡ false → ArePrepared placed_ids ws → ArePrepared placed_ids (without id ws)
prepared_without id [] ws none prepared = tt
prepared_without id (p ∷ placed_ids) ws none prepared =
    let no = first_false (same_id p.id id) (has_placed_id id placed_ids) none in
    let rest = prepared_without id placed_ids (without p.id ws) no.1 prepared.1 in
    ((prepared.0.0, find_without_other p.id id ws (other_id p.id id no.0) ∙ prepared.0.1), subst (λ (l : List Entry). ArePrepared placed_ids l) (without_swap id p.id ws) rest)

-- what is in doubt without a write are placed ids of others
prepared_others : (id : WriteId) (placed_ids : List PlacedId) (ws : List Entry) → ArePrepared placed_ids (without id ws) → (has_placed_id id placed_ids ≡ false) × ArePrepared placed_ids ws
prepared_others id [] ws prepared = (refl, tt)
prepared_others id (p ∷ placed_ids) ws prepared =
    let w = prepared.0.0 in
    let ne : p.id ≡ id → ⊥ = λ is. let gone : None ≡ Some w = sym (find_without_same id ws) ∙ ap (λ (i : WriteId). find_in_doubt i (without id ws)) (sym is) ∙ prepared.0.1 in absurd cc in
    let rest = prepared_others id placed_ids (without p.id ws) (subst (λ (l : List Entry). ArePrepared placed_ids l) (without_swap p.id id ws) prepared.1) in
    (rw (same_id_other p.id id ne) rest.0, ((w, sym (find_without_other p.id id ws ne) ∙ prepared.0.1), rest.1))

prepared_parts : (placed_ids : List PlacedId) (ws : List Entry) → are_prepared placed_ids ws ≡ true → ArePrepared placed_ids ws
prepared_parts [] ws is = tt
prepared_parts (p ∷ placed_ids) ws is =
    let both = and_parts (is_some (find_in_doubt p.id ws) && not (has_placed_id p.id placed_ids)) (are_prepared placed_ids ws) is in
    let here = and_parts (is_some (find_in_doubt p.id ws)) (not (has_placed_id p.id placed_ids)) both.0 in
    (some_value (find_in_doubt p.id ws) here.0, prepared_without p.id placed_ids ws (not-true _ here.1) (prepared_parts placed_ids ws both.1))

prepared_from : (placed_ids : List PlacedId) (ws : List Entry) → ArePrepared placed_ids ws → are_prepared placed_ids ws ≡ true
prepared_from [] ws prepared = refl
prepared_from (p ∷ placed_ids) ws prepared =
    let others = prepared_others p.id placed_ids ws prepared.1 in
    and_from _ _ (and_from _ _ (is_found (find_in_doubt p.id ws) prepared.0.0 prepared.0.1) (not_from_false _ others.0)) (prepared_from placed_ids ws others.1)

pub prepared_decides : (placed_ids : List PlacedId) (ws : List Entry) → (are_prepared placed_ids ws ≡ true) ↔ ArePrepared placed_ids ws
prepared_decides placed_ids ws = (prepared_parts placed_ids ws, prepared_from placed_ids ws)
