-- What the events of a life make of its content.
use Rattle.std.proofs.Common.{Bool, true, false, suc, zero, ◌≡◌, ◌⊎◌, inl, inr, ⊎_elim, ℕ, ◌+◌, ◌-◌, ◌≤◌, ◌==◌, List, [], ◌∷◌, length, drop, sym, subst, arith}
use Rattle.device.specs.Device.{Leaves, Elapses}
use Rattle.device.specs.Sim.{Image}
use Rattle.device.proofs.History.{length-patched, reach_push_most, written_readable}
use Rattle.device.proofs.Moments.{leaves_itself}
use Rattle.files.specs.Life.{Event, written, done, image, CouldLeave, NoneLonger, LeftSince}

done_readable : (opens writes : Bool) (at : ℕ) (bytes : List ℕ) (m : Image) → Leaves m.durable m.written m.seen
    → Leaves (done opens writes at bytes m).durable (done opens writes at bytes m).written (done opens writes at bytes m).seen
done_readable true writes at bytes m leaves = leaves_itself bytes
done_readable false true at bytes m leaves = written_readable m.durable m.seen bytes m.written at leaves
done_readable false false at bytes m leaves = leaves_itself m.seen

-- what reads is one of the contents that a stop may leave
pub reads : (events : List Event) → CouldLeave events (image events).seen
reads [] = leaves_itself []
reads (e ∷ events) = done_readable (e.0 == 0) (e.0 == 1) e.1 e.2 (image events) (reads events)

-- no content is longer than what reads, after a write that begins inside
pub longest_write : (events : List Event) (at : ℕ) (bytes : List ℕ) → at ≤ length (image events).seen → NoneLonger events → NoneLonger (written at bytes ∷ events)
longest_write events at bytes inside longest =
    let m : Image = image events in
    let len = length-patched m.seen bytes at in
    ⊎_elim
    (λ up. omega (arith, up, len, inside))
    (λ up. omega (arith, up, len, inside, longest))
    (reach_push_most m.written at (length bytes) (length m.durable))

past_or_now : (e : Event) (events : List Event) (t : ℕ) (c : List ℕ) (k : ℕ) → k + t ≤ length (e ∷ events) → CouldLeave (drop k (e ∷ events)) c → LeftSince events t c ⊎ CouldLeave (e ∷ events) c
past_or_now e events t c zero le could = inr could
past_or_now e events t c (suc k) le could = inl (k, omega (arith, le), could)

-- time passes by one event
pub elapses : (e : Event) (events : List Event) → Elapses (length events) (length (e ∷ events)) (LeftSince events) (LeftSince (e ∷ events)) (CouldLeave (e ∷ events))
elapses e events = record {
  later = omega arith;
  nothing_else = λ t c le since. past_or_now e events t c since.0 since.1 since.2;
  keeps = λ t c le past. (suc past.0, omega (arith, past.1), past.2);
}

-- time after an event that was noted
pub noted : (e : Event) (events more : List Event) → more ≡ e ∷ events → Elapses (length events) (length more) (LeftSince events) (LeftSince more) (CouldLeave more)
noted e events more is = subst (λ (l : List Event). Elapses (length events) (length l) (LeftSince events) (LeftSince l) (CouldLeave l)) (sym is) (elapses e events)

pub longest_after : (events more : List Event) (at : ℕ) (bytes : List ℕ) → more ≡ written at bytes ∷ events → at ≤ length (image events).seen → NoneLonger events → NoneLonger more
longest_after events more at bytes is inside longest = subst (λ (l : List Event). NoneLonger l) (sym is) (longest_write events at bytes inside longest)
