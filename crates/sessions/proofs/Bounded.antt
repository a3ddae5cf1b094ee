-- What one call leaves.
use Rattle.std.proofs.Common.{arith, ◌≡◌, ℕ, true, false, List, [], ◌++◌, refl, sym, subst, inl, inr, Result, Ok, Err, OnOk, OnErr}
use Rattle.refusal.specs.declared.refusal.Refusal.{Refusal}
use Rattle.json_lines.specs.declared.answer.Answer.{Answer}
use Rattle.std.specs.Prelude.{◌⊎◌}
use Rattle.sessions.specs.Bounds.{IsBounded}
use Rattle.sessions.specs.Machines.{AnswersLine}
use Rattle.sessions.specs.Sessions.{Giving, RepliesTo, reply_line}

pub on_ok_by : {T E P Q : Type 0} (r : Result T E) → (P → Q) → OnOk r P → OnOk r Q
on_ok_by (Ok x) f p = f p
on_ok_by (Err e) f p = tt

pub on_err_by : {T E P Q : Type 0} (r : Result T E) → (P → Q) → OnErr r P → OnErr r Q
on_err_by (Ok x) f p = tt
on_err_by (Err e) f p = f p

pub bounded_none : (store : ℕ) (bytes : List ℕ) → bytes ≡ [] → IsBounded store bytes
bounded_none store bytes none = ([], [], none, omega arith, inl refl)

module _ {A : Type 0} (store : ℕ) (gives : Giving A) (a : A) (line old new : List ℕ) (b : A) (reply : Result Answer Refusal) where
  pub answered : RepliesTo store gives a line reply b → new ≡ old ++ reply_line store reply → AnswersLine true store gives a line old new b
  answered replies e = record { reply = reply; replies = replies; text = λ _. e; none = λ no. absurd (cc no) }

  pub not_told : RepliesTo store gives a line reply b → new ≡ old → AnswersLine false store gives a line old new b
  not_told replies e = record { reply = reply; replies = replies; text = λ no. absurd (cc no); none = λ _. e }

pub bounded_kept : (store : ℕ) (old new : List ℕ) → IsBounded store old → (new ≡ []) ⊎ (new ≡ old) → IsBounded store new
bounded_kept store old new b (inl none) = bounded_none store new none
bounded_kept store old new b (inr same) = subst (IsBounded store) (sym same) b
