-- A call that needs no devices leaves the coordinator up or down as it was, and stages after what is staged.
use Rattle.std.proofs.Common.{◌≡◌, ⊎_elim, false, ℕ, List, [], ◌++◌, Result, Option, Some, Ok, Err, refl, sym, ◌∙◌, ap, subst}
use Rattle.std.proofs.lemmas.List.{append-nil}
use Rattle.std.proofs.lemmas.Bool.{false_from_ne_true}
use mathlib.Core.List.{IsPrefix}
use Rattle.sides.proofs.Words.{Abort, AbortAnswers, Answered, AnsweredThere, Batch, Begin, BeginAnswers, Checkpoint, Coordinator, coordinator, CoordinatorAnswers, CoordinatorCall, CoordinatorReply, CoordinatorView, Decide, DecideAnswers, DecidedValue, Flush, from_coordinator, Heads, Inquire, IntentValue, IsSound, IsSoundThere, NodeView, NotDecided, NotRaised, Outcome, Raise, RaiseAnswers, Record, Refusal, refused, Reply, SettledValue, State, VerdictValue, VoteValue, WriteValue}
use Rattle.calls.specs.declared.reply.CoordinatorReply.TheVariants as told
use Rattle.sides.specs.CoordinatorSides.{is_log_flush}
use Rattle.sides.specs.Lending.{LogStagesMoreIn}

module _ {D : Type 0} (state : D → State) (honest : D → Type 0) (moment : D → ℕ) (left_since : D → ℕ → List ℕ → Type 0) (store shards : ℕ) where
  -- what was staged is staged before anything else, and it is up if it was
  pub record LogGoesOn (old new : CoordinatorView D) : Type 0 where
    pub durable : new.durable ≡ old.durable
    pub staged : IsPrefix old.staged new.staged
    pub is_down : new.is_down ≡ old.is_down

  -- Given a coordinator before and after a call
  module _ (old new : CoordinatorView D) (sound : IsSound state honest store shards old) where
    unchanged : new ≡ old → LogGoesOn old new
    unchanged same = subst (λ (v : CoordinatorView D). LogGoesOn old v) (sym same) (record { durable = refl; staged = ([], append-nil old.staged); is_down = refl })

    -- one record more, or none
    more : (rs : List Record) → new.durable ≡ old.durable → new.staged ≡ old.staged ++ rs → new.is_down ≡ old.is_down → LogGoesOn old new
    more rs durable staged down = record { durable = durable; staged = (rs, sym staged); is_down = down }

    begun : (write : WriteValue) (r : Result IntentValue Refusal) → BeginAnswers state honest old write r new → LogGoesOn old new
    begun write (Ok i) a =
        let begins = (a.ok (sound.running (false_from_ne_true old.is_down (λ down. cc (a.down.1 down))))).0 in
        more [] (ap (λ (v : CoordinatorView D). v.durable) begins.new_is) (ap (λ (v : CoordinatorView D). v.staged) begins.new_is ∙ sym (append-nil old.staged)) (ap (λ (v : CoordinatorView D). v.is_down) begins.new_is)
    begun write (Err e) a = unchanged a.err.0

    decided : (intent : IntentValue) (votes : List VoteValue) (r : Result DecidedValue NotDecided) → DecideAnswers state honest old intent votes r new → LogGoesOn old new
    decided intent votes (Ok d) a =
        let decides = (a.ok (sound.running (false_from_ne_true old.is_down (λ down. cc (a.was_up down))))).0 in
        more _ (ap (λ (v : CoordinatorView D). v.durable) decides.new_is) (ap (λ (v : CoordinatorView D). v.staged) decides.new_is) (ap (λ (v : CoordinatorView D). v.is_down) decides.new_is)
    decided intent votes (Err e) a = unchanged a.same

    aborted : (intent : IntentValue) (r : Result VerdictValue Refusal) → AbortAnswers state honest old intent r new → LogGoesOn old new
    aborted intent (Ok v) a =
        let aborts = (a.ok (sound.running (false_from_ne_true old.is_down (λ down. cc (a.down.1 down))))).1 in
        more [] (ap (λ (v : CoordinatorView D). v.durable) aborts.new_is) (ap (λ (v : CoordinatorView D). v.staged) aborts.new_is ∙ sym (append-nil old.staged)) (ap (λ (v : CoordinatorView D). v.is_down) aborts.new_is)
    aborted intent (Err e) a = unchanged a.err.0

    raised : (place : ℕ) (settled : List SettledValue) (r : Result (Unit {0}) NotRaised) → RaiseAnswers state honest old place settled r new → LogGoesOn old new
    raised place settled (Ok done) a =
        let raises = (a.ok (sound.running (false_from_ne_true old.is_down (λ down. cc (a.was_up down))))).0 in
        ⊎_elim
        (λ one. more _ (ap (λ (v : CoordinatorView D). v.durable) one.1) (ap (λ (v : CoordinatorView D). v.staged) one.1) (ap (λ (v : CoordinatorView D). v.is_down) one.1))
        (λ none. unchanged none.1)
        raises.new_is
    raised place settled (Err e) a = unchanged a.err.0

  goes_on : (old new : CoordinatorView D) (call : CoordinatorCall) (reply : CoordinatorReply) → is_log_flush call ≡ false → IsSound state honest store shards old → CoordinatorAnswers state honest moment left_since old call reply new → LogGoesOn old new
  goes_on old new (Begin write) (told.Begin r) calm sound a = begun old new sound write r a
  goes_on old new Heads (told.Heads r) calm sound a = unchanged old new sound a.0
  goes_on old new (Batch from to) (told.Batch r) calm sound a = unchanged old new sound a.0
  goes_on old new (Decide intent votes) (told.Decide r) calm sound a = decided old new sound intent votes.items r a
  goes_on old new (Outcome d) (told.Outcome r) calm sound a = unchanged old new sound a.0
  goes_on old new (Abort intent) (told.Abort r) calm sound a = aborted old new sound intent r a
  goes_on old new (Inquire id) (told.Inquire r) calm sound a = unchanged old new sound a.0
  goes_on old new (Raise place settled) (told.Raise r) calm sound a = raised old new sound place settled.items r a
  goes_on old new Flush reply calm sound a = absurd (cc calm)
  goes_on old new Checkpoint reply calm sound a = absurd (cc calm)
  goes_on old new call reply calm sound a = absurd a

  more_of_node : (call : CoordinatorCall) (old : NodeView D) (reply : Reply) (new : NodeView D) → is_log_flush call ≡ false → IsSoundThere state honest store shards (Some old)
      → Answered state honest moment left_since old (Coordinator call) reply new → LogStagesMoreIn (Some old) (Some new)
  more_of_node call (coordinator old) (from_coordinator reply) (coordinator new) calm sound a = let goes = goes_on old new call reply calm sound a in (goes.durable, goes.staged, goes.is_down)
  more_of_node call (refused e x y) reply new calm sound a = tt
  more_of_node call old reply new calm sound a = absurd a

  pub log_stages_more : (call : CoordinatorCall) (old new : Option (NodeView D)) (reply : Reply) → is_log_flush call ≡ false → IsSoundThere state honest store shards old
      → AnsweredThere state honest moment left_since old call reply new → LogStagesMoreIn old new
  log_stages_more call (Some old) (Some new) reply calm sound a = more_of_node call old reply new calm sound a
  log_stages_more call old new reply calm sound a = absurd a
