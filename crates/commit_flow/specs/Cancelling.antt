-- What a cancel makes of a write flow.
use Rattle.std.specs.Prelude.{◌≡◌, ◌≢◌, None}
use Rattle.commit_flow.specs.declared.end.WriteEnd.TheVariants.{Cancelled}
use Rattle.commit_flow.specs.WriteHolds.{onward, outward}
use Rattle.commit_flow.specs.Views.{WriteView, at_rest, view_ended}

-- it is on its way, and is not decided
pub record IsUndecided (v : WriteView) : Type 0 where
  pub way : v.holds.way ≡ onward
  pub decided : v.holds.decided ≡ None

-- A write that is not begun ends; one that is begun goes out without a refusal; any other stays as it is.
pub record Cancels (old new : WriteView) : Type 0 where
  pub unbegun : IsUndecided old → old.write ≢ None → new ≡ view_ended Cancelled
  pub begun : IsUndecided old → old.write ≡ None → new ≡ at_rest (record old.holds { way = outward None; batch = None })
  pub others : (IsUndecided old → ⊥) → new ≡ old
