-- Places of a list, and those that heads give.
use Rattle.std.proofs.Common.{◌≡◌, ℕ, false, ◌≤◌, List, ◌++◌, length, sym, ap, subst, arith}
use Rattle.std.proofs.Math.Path.{fun_ext}
use Rattle.std.proofs.lemmas.List.{take-append-le}
use Rattle.std.specs.List.{flat_map}
use mathlib.Core.List.{IsPrefix}
use Rattle.flow_ties.proofs.Words.{at_least, Entry, exact, Freshness, HeadsValue, IsAsAsked, latest}
use Rattle.tuples.specs.Log.{is_at, there_after}
use Rattle.answer_flow.specs.Finding.{FindsPlace}

-- what was at a place of a list is at that place of each longer one
at_longer : (seen more : List Entry) (place : ℕ) → place ≤ length seen → is_at seen place ≡ is_at (seen ++ more) place
unfolding is_at
at_longer seen more place le = fun_ext (λ t. ap (λ (l : List Entry). there_after t false (flat_map (λ (v : Entry). v.changes) l)) (sym (take-append-le place seen more le)))

pub at_prefix : (seen longer : List Entry) (place : ℕ) → IsPrefix seen longer → place ≤ length seen → is_at seen place ≡ is_at longer place
at_prefix seen longer place pre le = subst (λ (l : List Entry). is_at seen place ≡ is_at l place) pre.1 (at_longer seen pre.0 place le)

-- a place that is found is kept
pub kept_place : (fresh : Freshness) (v : HeadsValue) (place : ℕ) → FindsPlace fresh v place → place ≤ v.kept
kept_place latest v place found = omega (arith, found)
kept_place (at_least z) v place found = omega (arith, found.0)
kept_place (exact z) v place found = omega (arith, found.0, found.1)

-- and as it was asked for
pub asked_place : (fresh : Freshness) (v : HeadsValue) (place : ℕ) → FindsPlace fresh v place → IsAsAsked fresh place
asked_place latest v place found = tt
asked_place (at_least z) v place found = found.1
asked_place (exact z) v place found = found.0
