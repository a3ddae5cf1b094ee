-- Devices that fail, and the errors of a call over them.
use Rattle.std.proofs.Common.{inl, inr, ◌≤◌, arith, ◌≡◌, ◌⊎◌, Result, Ok, Err}
use Rattle.std.specs.Result.{IfErr, OnErr, IsErrOf}
use Rattle.device.specs.Device.{HasFailed, State}
use Rattle.refusal.specs.declared.refusal.Refusal.{Refusal}
use Rattle.refusal.specs.declared.refusal.Refusal.TheVariants.{Down, Full}

-- a device that failed in a later part of a call failed in the call
pub failed_since : (was now new : State) → was.failures ≤ now.failures → HasFailed now new → HasFailed was new
failed_since was now new le (inl more) = inl (omega (arith, le, more))
failed_since was now new le (inr most) = inr most

-- one of two errors, and what follows from each
pub by_error : {T P Q : Type 0} (r : Result T Refusal) → IfErr r (λ e. (e ≡ Down) ⊎ (e ≡ Full)) → (IsErrOf r Down → P) → (IsErrOf r Full → Q) → OnErr r (P ⊎ Q)
by_error (Ok x) err down full = tt
by_error (Err e) (inl is) down full = inl (down cc)
by_error (Err e) (inr is) down full = inr (full cc)
