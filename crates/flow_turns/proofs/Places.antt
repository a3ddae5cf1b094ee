-- What heads tell of the place of an answer, as flows and laws say it.
use Rattle.std.proofs.Common.{ℕ}
use Rattle.flow_turns.proofs.AnswerWords.{Freshness, HeadsValue}
use Rattle.decisions.specs.Flows.{at_least, exact, latest}
use Rattle.answer_flow.specs.Finding as finding
use Rattle.stores.specs.Causes.{WantsFuture}
use Rattle.turns.specs.CoordinatorSeamLaws.{FindsPlace, GivesBelow}

pub finds_place : (fresh : Freshness) (v : HeadsValue) (place : ℕ) → finding.FindsPlace fresh v place → FindsPlace fresh v place
finds_place latest v place is = is
finds_place (at_least z) v place is = is
finds_place (exact z) v place is = is

pub asks_above : (fresh : Freshness) (v : HeadsValue) → finding.IsAbove fresh v → WantsFuture v.length fresh
asks_above latest v is = absurd is
asks_above (at_least z) v is = is
asks_above (exact z) v is = is

pub asks_below : (fresh : Freshness) (v : HeadsValue) → finding.IsForgotten fresh v → GivesBelow v fresh
asks_below latest v is = absurd is
asks_below (at_least z) v is = absurd is
asks_below (exact z) v is = is.1
