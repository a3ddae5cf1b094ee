-- Whether an id is one of a set.
use Rattle.std.proofs.Common.{◌≡◌, Bool, true, false, ◌||◌, cond, List, [], ◌∷◌, refl, sym, ap, ◌∙◌}
use Rattle.std.specs.BTreeMap.{is_at}
use Rattle.std.specs.List.{list_any}
use Rattle.tuples.specs.declared.entry.WriteId.{WriteId}
use Rattle.tuples.specs.Log.{same_id}
use Rattle.records.specs.Replays.{id_cmp}
use Rattle.holds.proofs.Ids.{id_equivalence, id_ties}
use Rattle.shard.specs.Keeping.{has_id}

pub has_is : (id : WriteId) (ids : List WriteId) → has_id id ids ≡ list_any (is_at (id_cmp id)) ids
has_is id [] = refl
has_is id (i ∷ ids) = ap (λ (b : Bool). b || has_id id ids) (id_equivalence.symm i id ∙ id_ties id i) ∙ ap (λ (b : Bool). is_at (id_cmp id) i || b) (has_is id ids)

-- one id more
pub has_put : (id : WriteId) (ids more : List WriteId) → ((j : WriteId) → list_any (is_at (id_cmp j)) more ≡ cond (is_at (id_cmp id) j) true (list_any (is_at (id_cmp j)) ids)) → (j : WriteId) → has_id j more ≡ (has_id j ids || same_id id j)
has_put id ids more put j = has_is j more ∙ put j ∙ ap (λ (b : Bool). cond b true (list_any (is_at (id_cmp j)) ids)) (sym (id_ties id j)) ∙ either (same_id id j) (list_any (is_at (id_cmp j)) ids) ∙ ap (λ (b : Bool). b || same_id id j) (sym (has_is j ids))
  where
    either : (b d : Bool) → cond b true d ≡ (d || b)
    either true true = refl
    either true false = refl
    either false true = refl
    either false false = refl
