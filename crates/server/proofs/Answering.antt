-- What was found for a caller is an answer, since a session is its caller; and so is a refusal its refusal.
use Rattle.std.proofs.Common.{◌≡◌, Bool, List, MatchResult, subst, Result}
use Rattle.refusal.specs.declared.refusal.Refusal.{Refusal}
use Rattle.tuples.specs.declared.entry.Entry.{Entry}
use Rattle.tuples.specs.declared.request.Request.{Request}
use Rattle.published.specs.Known.{Known}
use Rattle.json_lines.specs.declared.answer.Answer.{Answer}
use Rattle.sides.specs.Sides.{IsLater}
use Rattle.server.specs.Answered.{Answered, IsAnswerTo, IsRefusalTo, SessionValue}

module _ (rests : Type 0) (caller : Known Entry) (told : List Bool) (old new : SessionValue) (same : record { known = caller; told = told } ≡ old) (request : Request)
    (result : Result Answer Refusal) where
  pub what_is_found_answers : IsLater caller new.known → (rests → MatchResult result (IsAnswerTo caller new request) (IsRefusalTo caller new request))
      → Answered rests old new request result
  what_is_found_answers later replies =
      subst (λ (session : SessionValue). Answered rests session new request result) same
      (record { later = later; replies = replies })
