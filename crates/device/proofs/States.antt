-- What a stop leaves of a device that was kept as it was, was revived, or was never written.
use Rattle.std.proofs.Common.{◌≡◌, ℕ, List, [], ◌∙◌, sym, subst}
use Rattle.device.specs.Device.{Keeps, Leaves, Revived, State, left}
use Rattle.device.proofs.Moments.{leaves_nothing_else}

-- if a device keeps what it has, a stop leaves what it could leave before
pub kept_left : (old new : State) → Keeps old new → (c : List ℕ) → left new c → left old c
kept_left old new k c is = subst (λ (w : List (ℕ × ℕ)). Leaves old.durable w c) k.written (subst (λ (d : List ℕ). Leaves d new.written c) k.durable is)

-- if it was revived, a stop leaves what reads
pub revived_reads : (old new : State) → Revived old new → (c : List ℕ) → left new c → c ≡ new.seen
revived_reads old new r c is = leaves_nothing_else new.durable c (subst (λ (w : List (ℕ × ℕ)). Leaves new.durable w c) r.written is) ∙ r.durable

-- which is one of the contents that could be left before
pub revived_left : (old new : State) → Revived old new → (c : List ℕ) → left new c → left old c
revived_left old new r c is = subst (left old) (sym (revived_reads old new r c is)) r.found

-- if it was never written, a stop leaves nothing
pub unmade_left : (s : State) (c : List ℕ) → s.durable ≡ [] → s.written ≡ [] → left s c → c ≡ []
unmade_left s c durable written is = leaves_nothing_else s.durable c (subst (λ (w : List (ℕ × ℕ)). Leaves s.durable w c) written is) ∙ durable
