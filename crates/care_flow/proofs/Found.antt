-- What is found goes through the ids in their order.
use Rattle.std.proofs.Common.{◌≡◌, ◌∙◌, sym, inl, inr, ◌<◌, List, [], ◌∷◌, ◌++◌, length, map, take, slice_get, Some, None, get_or, add-one, arith}
use Rattle.std.proofs.Math.Seq.{take-suc}
use Rattle.std.proofs.lemmas.Grind.{common_steps}
use Rattle.std.proofs.lemmas.List.{map-append, length_push}
use Rattle.std.proofs.lemmas.Option.{get_or_from_slice_get, slice_get_cases, slice_get_within}
use Rattle.tuples.specs.declared.entry.WriteId.{WriteId}
use Rattle.care_flow.specs.declared.end.Resolved.{Resolved}
use Rattle.care_flow.specs.Ends.{id_of}

-- one more, of the id that comes next
pub one_more_is_found : (ids : List WriteId) (found : List Resolved) (x : Resolved) → map id_of found ≡ take (length found) ids
    → slice_get ids (length found) ≡ Some (id_of x) → map id_of (found ++ x ∷ []) ≡ take (length (found ++ x ∷ [])) ids
one_more_is_found ids found x so_far there =
    let within : length found < length ids = slice_get_within ids (length found) (id_of x) there in
    let next : get_or ids (length found) (id_of x) ≡ id_of x = get_or_from_slice_get ids (length found) (id_of x) (id_of x) there in
    rw (map-append, length_push, add-one, take-suc ids (length found) (id_of x), next, so_far)

-- all, if none comes next
pub all_are_found : (ids : List WriteId) (found : List Resolved) → map id_of found ≡ take (length found) ids → slice_get ids (length found) ≡ None → map id_of found ≡ ids
all_are_found ids found so_far none = elim (slice_get_cases ids (length found)).1 [
  | inl there ↦ absurd (let is : Some there.0 ≡ None = sym there.2 ∙ none in cc)
  | inr past ↦ (let past_all = past.0 in let all : take (length found) ids ≡ ids = grind (arith, common_steps) in so_far ∙ all)
]
