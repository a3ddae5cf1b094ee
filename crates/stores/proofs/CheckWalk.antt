-- A check that walks from userset to userset holds what is right, and what it answers agrees.
use Rattle.std.proofs.Common.{◌≡◌, inr, ℕ, Bool, true≢false, List, [], ◌++◌, Some, None, refl, sym, ◌∙◌, subst}
use Rattle.std.proofs.lemmas.Option.{same_Some}
use Rattle.stores.proofs.Words.{IsCheckSelection, IsFull, IsPlaceOf, NodeName, Record, Tuple, Userset, holding, is_at}
use Rattle.laws.specs.Walks.{IsWalk}
use Rattle.laws.proofs.Walk.{all_reached, goes_on, many_reached, one_shard_is_asked, says_no, says_yes, walk_begins}
use Rattle.stores.specs.CheckingLaws.{CheckRepliesSelect, ChecksBegin, ChecksGoOn, ChecksSayNo, ChecksSayYes, FullChecksHaveCause}
use Rattle.stores.proofs.ReadAnswer.{rows_show}

-- all that a check asks of a userset has the shard of the userset's object
pub check_replies_select : (store shards : ℕ) (left : NodeName → List Record → Type 0) → CheckRepliesSelect store shards left
check_replies_select store shards left now s place y u rows st some lt own low reply = one_shard_is_asked shards s now.machine.log place y u rows own
    (subst (λ (there : Tuple → Bool). IsCheckSelection there y u rows) (rows_show store shards left now s place reply.memory st some lt low reply.knows reply.above reply.learned) reply.selected)

pub checks_begin : (store shards : ℕ) (left : NodeName → List Record → Type 0) → ChecksBegin store shards left
checks_begin store shards left now r fresh x u h place right none found =
    let empty = right.nothing none in
    record {
      heads = right.heads;
      place = λ s is. subst (IsPlaceOf fresh r now.machine) (same_Some place s is) found;
      nothing = λ is. absurd cc;
      walk = λ s is. subst (λ (l : List Userset). IsWalk (is_at now.machine.log s) x u l h.waiting) (sym empty.0)
          (subst (λ (l : List Userset). IsWalk (is_at now.machine.log s) x u [] l) (sym empty.1) (walk_begins (is_at now.machine.log s) x u));
      batch = right.batch;
    }

pub checks_go_on : (store shards : ℕ) (left : NodeName → List Record → Type 0) → ChecksGoOn store shards left
checks_go_on store shards left now r fresh x u h next place y rows right at walks selected lacks = record {
  heads = λ v is. right.heads v (sym walks.heads ∙ is);
  place = λ s is. right.place s (sym walks.place ∙ is);
  nothing = λ is. let both : Some place ≡ None = sym at ∙ sym walks.place ∙ is in absurd cc;
  walk = λ s is. subst (λ (p : ℕ). IsWalk (is_at now.machine.log p) x u next.walked next.waiting) (same_Some place s (sym at ∙ sym walks.place ∙ is))
      (goes_on (is_at now.machine.log place) x u h (right.walk place at) next y rows walks selected lacks);
  batch = λ b is. right.batch b (sym walks.batch ∙ is);
}

pub checks_say_yes : (store shards : ℕ) (left : NodeName → List Record → Type 0) → ChecksSayYes store shards left
checks_say_yes store shards left now r fresh x u h place y rows right at waits selected has = record {
  place = right.place place at;
  member = (λ yes. says_yes (is_at now.machine.log place) x u h (right.walk place at) y waits ((selected.exact (holding y u)).0 has).0, λ m. refl);
}

pub checks_say_no : (store shards : ℕ) (left : NodeName → List Record → Type 0) → ChecksSayNo store shards left
checks_say_no store shards left now r fresh x u h place right at none = record {
  place = right.place place at;
  member = (λ yes. absurd (true≢false (sym yes)), λ m. absurd (says_no (is_at now.machine.log place) x u h (right.walk place at) none m));
}

pub full_checks_have_cause : (store shards : ℕ) (left : NodeName → List Record → Type 0) → FullChecksHaveCause store shards left
full_checks_have_cause store shards left n now after r fresh x u h place y asked found right at many waits = subst (IsFull shards n now r) (sym asked) (inr (
  place,
  found,
  right.place place at,
  record {
    reached = h.walked ++ h.waiting;
    once = (right.walk place at).once;
    each = all_reached (is_at now.machine.log place) x u h (right.walk place at);
    many = many_reached (is_at now.machine.log place) x u h (right.walk place at) y many waits;
  },
))
