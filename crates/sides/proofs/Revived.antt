-- What is left of a device that was revived, or failed once more, could be left of it before.
use Rattle.std.proofs.Common.{◌⊎◌, ⊎_elim, ℕ, List, sym, subst}
use Rattle.sides.proofs.Words.{left, State}
use Rattle.device.specs.Device.{Leaves, Revived}
use Rattle.device.proofs.Moments.{leaves_itself}
use Rattle.device.proofs.States.{kept_left, revived_left}
use Rattle.sides.specs.Reopening.{FailsAgain, IsFound}

pub reads_itself : (old new : State) → Revived old new → left new new.seen
reads_itself old new r =
    subst (λ (d : List ℕ). Leaves d new.written new.seen) (sym r.durable) (subst (λ (w : List (ℕ × ℕ)). Leaves new.seen w new.seen) (sym r.written) (leaves_itself new.seen))

module _ {D : Type 0} (state : D → State) (honest : D → Type 0) where
  abbrev pub IsRevived : D → D → Type 0
  IsRevived old new = IsFound state honest old new ⊎ FailsAgain state honest old new

  pub left_before : (old new : D) → honest old → IsRevived old new → (c : List ℕ) → left (state new) c → left (state old) c
  left_before old new hon revived c leaves = ⊎_elim (λ f. revived_left (state old) (state new) (f.found hon) c leaves) (λ f. kept_left (state old) (state new) (f.keeps hon) c leaves) revived

  pub still : (old new : D) → honest old → IsRevived old new → honest new
  still old new hon revived = ⊎_elim (λ f. f.still_honest.0 hon) (λ f. f.still_honest.0 hon) revived
