-- One more step makes a run one step longer.
use Rattle.std.proofs.Common.{◌≡◌, ◌+◌, ◌<◌, ◌++◌, ◌∙◌, ℕ, List, [], ◌∷◌, length, get_or, take, true, false, Result, Ok, Err, OnOk, OnErr, is_err, refl, sym, ap, subst, append_assoc, append-nil, arith}
use Rattle.std.proofs.lemmas.List.{length-take-le, take_more}
use Rattle.std.specs.declared.alloc.AllocError.{AllocError}
use Rattle.device.specs.Device.{State}
use Rattle.cluster.specs.declared.event.Event.{Event}
use Rattle.cluster.specs.declared.step.Step.{Step}
use Rattle.cluster.specs.Runs.{Took, TookAll}
use Rattle.cluster.specs.Worlds.{WorldView}

module _ {D : Type 0} (state : D → State) (honest : D → Type 0) (moment : D → ℕ) (left_since : D → ℕ → List ℕ → Type 0) where
  pub one_more : (old mid new : WorldView D) (number at : ℕ) (steps : List Step) (step : Step) (events more : List Event)
      → TookAll state honest moment left_since old number steps events mid → at ≡ number + length steps → Took state honest moment left_since mid at step more new
      → TookAll state honest moment left_since old number (steps ++ step ∷ []) (events ++ more) new
  one_more old mid new number at [] step events more all is took =
      let here = subst (λ (w : WorldView D). Took state honest moment left_since w at step more new) all.1 took in
      let numbered = subst (λ (n : ℕ). Took state honest moment left_since old n step more new) (omega (arith, is)) here in
      (new, more, [], numbered, (refl, refl), ap (λ (es : List Event). es ++ more) all.0 ∙ sym (append-nil more))
  one_more old mid new number at (s ∷ steps) step events more all is took =
      let later = one_more all.0 mid new (number + 1) at steps step all.2 more all.4 (omega (arith, is)) took in
      (all.0, all.1, all.2 ++ more, all.3, later, ap (λ (es : List Event). es ++ more) all.5 ∙ append_assoc all.1 all.2 more)

  -- the first steps were taken, and told what is after the events that there were
  pub record RanSoFar (old : WorldView D) (steps : List Step) (n : ℕ) (before : List Event) (new : WorldView D) (events : List Event) : Type 0 where
    pub more : List Event
    pub runs : TookAll state honest moment left_since old 0 (take n steps) more new
    pub told : events ≡ before ++ more

  pub ran_none : (old : WorldView D) (steps : List Step) (before : List Event) → RanSoFar old steps 0 before old before
  ran_none old steps before = record { more = []; runs = (refl, refl); told = sym (append-nil before) }

  pub ran_more : (old mid new : WorldView D) (steps : List Step) (n : ℕ) (step : Step) (before events more later : List Event)
      → RanSoFar old steps n before mid events → n < length steps → step ≡ get_or steps n step → Took state honest moment left_since mid n step more new → later ≡ events ++ more
      → RanSoFar old steps (n + 1) before new later
  ran_more old mid new steps n step before events more later so within is took told =
      let len : length (take n steps) ≡ n = length-take-le n steps (omega arith) in
      let count : n ≡ 0 + length (take n steps) = omega (arith, len) in
      let taken : take (n + 1) steps ≡ take n steps ++ step ∷ [] = take_more steps n step within ∙ ap (λ (s : Step). take n steps ++ s ∷ []) (sym is) in
      record {
        more = so.more ++ more;
        runs = subst (λ (ss : List Step). TookAll state honest moment left_since old 0 ss (so.more ++ more) new) (sym taken) (one_more old mid new 0 n (take n steps) step so.more more so.runs count took);
        told = told ∙ ap (λ (es : List Event). es ++ more) so.told ∙ append_assoc before so.more more;
      }

-- a result that is not an error
pub on_ok : (result : Result (Unit {0}) AllocError) (P : Type 0) → is_err result ≡ false → OnOk result P → P
on_ok (Ok done) P is p = p
on_ok (Err e) P is p = absurd (cc)

pub on_err : (result : Result (Unit {0}) AllocError) (P : Type 0) → is_err result ≡ true → OnErr result P → P
on_err (Ok done) P is p = absurd (cc)
on_err (Err e) P is p = p
