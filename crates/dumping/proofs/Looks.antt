-- Steps that look at a store, one after another.
use Rattle.std.proofs.Common.{◌≡◌, ◌++◌, ◌∷◌, [], ℕ, zero, suc, List, Option, Some, None, MatchOption, Result, refl, subst}
use Rattle.std.specs.Global.{Vec}
use Rattle.std.specs.List.{AllByRecursion}
use Rattle.cluster.specs.declared.event.Answer.TheVariants.{Done, Selected}
use Rattle.cluster.specs.declared.event.What.{What}
use Rattle.cluster.specs.declared.event.What.TheVariants.{Ended}
use Rattle.cluster.specs.declared.step.Step.{Step}
use Rattle.cluster.specs.declared.step.Step.TheVariants.{Care as care_for, Start, Turn}
use Rattle.names.specs.declared.call_name.CallName.{CallName}
use Rattle.names.specs.declared.care.Care.TheVariants.{Learn}
use Rattle.refusal.specs.declared.refusal.Refusal.{Refusal}
use Rattle.scripts.specs.Cares.{Taken, TakesAll}
use Rattle.scripts.specs.Going.{Goes, Turns}
use Rattle.scripts.specs.Scripts.{slot_of}
use Rattle.tuples.specs.declared.freshness.Freshness.{Freshness}
use Rattle.tuples.specs.declared.freshness.Freshness.TheVariants.{Exact}
use Rattle.tuples.specs.declared.request.Request.TheVariants.{Read}
use Rattle.tuples.specs.declared.tuple.Tuple.{Tuple}
use Rattle.tuples.specs.declared.tupleset.Tupleset.{Tupleset}
use Rattle.tuples.specs.declared.tupleset.Tupleset.TheVariants.{Key}
use Rattle.tuples.specs.declared.version.Version.{Version}
use Rattle.dumping.specs.Gathering.{AllRead, AllTell, Plays, Reads}
use Rattle.dumping.specs.Steps.{IsLooking, LooksOn}

abbrev AllLook : List Taken → Type 0
AllLook steps = AllByRecursion (λ (t : Taken). IsLooking t.step) steps

all_look : (first more : List Taken) → AllLook first → AllLook more → AllLook (first ++ more)
all_look [] more a b = b
all_look (t ∷ first) more a b = (a.0, all_look first more a.1 b)

module _ {S : Type 0} (takes : S → Step → Option What → S → Type 0) where
  takes_then : (first more : List Taken) (old mid new : S) → TakesAll takes old first mid → TakesAll takes mid more new → TakesAll takes old (first ++ more) new
  takes_then [] more old mid new is rest = subst (λ (s : S). TakesAll takes s more new) is rest
  takes_then (t ∷ first) more old mid new (next, took, before) rest = (next, took, takes_then first more next mid new before rest)

  -- no step is taken
  pub looks_not : (old new : S) → new ≡ old → LooksOn takes old new
  looks_not old new same = record { steps = []; looking = tt; took = same }

  pub looks_once : (step : Step) (told : Option What) (old new : S) → IsLooking step → takes old step told new → LooksOn takes old new
  looks_once step told old new looking took = record { steps = record { step = step; told = told } ∷ []; looking = (looking, tt); took = (new, took, refl) }

  pub looks_then : (old mid new : S) → LooksOn takes old mid → LooksOn takes mid new → LooksOn takes old new
  looks_then old mid new first more = record {
    steps = first.steps ++ more.steps;
    looking = all_look first.steps more.steps first.looking more.looking;
    took = takes_then first.steps more.steps old mid new first.took more.took;
  }

  module _ (nexts : S → ℕ → Option CallName → Type 0) where
    pub turns_look : (slot : ℕ) (until : Option CallName) (all : List (Option What)) (old new : S) → Turns takes nexts slot until all old new → LooksOn takes old new
    turns_look slot until [] old new is = looks_not old new is
    turns_look slot until (told ∷ before) old new (mid, turns, goes, took) = looks_then old mid new (turns_look slot until before old mid turns) (looks_once (Turn slot) told mid new tt took)

    -- what has begun in a slot, if anything has
    plays_on_look : (slot : Option ℕ) (told last : Option What) (mid new : S) → MatchOption slot ((last ≡ told) × (new ≡ mid)) (λ (n : ℕ). Goes takes nexts n None mid last new) → LooksOn takes mid new
    plays_on_look None told last mid new (same, is) = looks_not mid new is
    plays_on_look (Some n) told last mid new goes = turns_look n None goes.all mid new goes.turns

    plays_look : (first : Step) (last : Option What) (old new : S) → IsLooking first → Plays takes nexts first old last new → LooksOn takes old new
    plays_look first last old new looking p =
        looks_then old p.mid new (looks_once first p.told old p.mid looking p.begins) (plays_on_look (slot_of p.told) p.told last p.mid new p.ends)

    reads_look : (fresh : Freshness) (set : Tupleset) (place : ℕ) (rows : List (List Tuple)) (old new : S) → Reads takes nexts fresh set old place rows new → LooksOn takes old new
    reads_look fresh set place rows old new r = plays_look (Start (Read fresh r.asked)) (Some (Ended (Selected place r.told))) old new tt r.plays

    pub all_read_look : (place : ℕ) (keys rows : List Tuple) (old new : S) → AllRead takes nexts place keys old rows new → LooksOn takes old new
    all_read_look place [] rows old new (none, is) = looks_not old new is
    all_read_look place (t ∷ keys) rows old new (mid, at, first, rest, read, more, rows_is) =
        looks_then old mid new (reads_look (Exact place) (Key t) at (first ∷ []) old mid read) (all_read_look place keys rest mid new more)

    module _ (shows : S → ℕ → Result (Vec Version) Refusal → Type 0) where
      pub all_tell_look : (shards : ℕ) (told : List Version) (old new : S) → AllTell takes nexts shows shards old told new → LooksOn takes old new
      all_tell_look zero told old new (none, is) = looks_not old new is
      all_tell_look (suc s) told old new (mid, before, more, tell, one, told_is) =
          looks_then old mid new (all_tell_look s before old mid tell) (plays_look (care_for (Learn s)) (Some (Ended Done)) mid new tt one.learns)
