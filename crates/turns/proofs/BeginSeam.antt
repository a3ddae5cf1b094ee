-- What the coordinator's own contract of begin says makes a turn of a run, and gives each refusal its cause.
use Rattle.std.proofs.Common.{◌≡◌, inl, inr, ⊎_elim, ℕ, ◌+◌, ◌<◌, List, [], ◌∷◌, length, map, Some, None, refl, sym, ◌∙◌, ap, subst, arith}
use Rattle.std.proofs.lemmas.Option.{none-some}
use Rattle.std.proofs.lemmas.Bool.{cases_lt}
use Rattle.std.proofs.lemmas.List.{length-map}
use Rattle.std.proofs.lemmas.List.Elements.{All-nil}
use Rattle.turns.proofs.Words.{Change, Condition, CoordinatorKnows, CoordinatorView, Entry, IntentValue, IsBegin, IsBelow, IsCause, IsFull, IsFuture, IsHorizonIn, IsQuiet, IsSeen, MayRise, Moment, NodeName, Nodes, Record, Running, SameBut, Stands, TakesMemory, Turns, WriteHolds, WriteId, coordinator, end_of, goes_on, id_of, kept_of, memory_of, replaced, to_write, up, with_intent, with_open, writing}
use Rattle.decisions.specs.Coordinators.{BeginsAt, FirstIs, HasNoId, NamesCollected, NamesFuture, next_id}
use Rattle.stores.proofs.ShardStagesStands.{contained_from}
use Rattle.stores.proofs.WriteBegins.{writes_begin}
use Rattle.turns.specs.SeamLaws.{BeginHasCause, BeginTurns, IsBeginner}

module _ (store shards : ℕ) (left : NodeName → List Record → Type 0) {D : Type 0} (now : Moment) (old new : CoordinatorView D) (changes : List Change) (conditions : List Condition) (i : IntentValue) (r : Running) (h : WriteHolds)
    (st : Stands store shards left now) (seen : IsSeen now.nodes old) (begins : BeginsAt old changes conditions i new) (own : IsBeginner now r h changes conditions) where
  abbrev w : Entry
  w = i.write

  knows : CoordinatorKnows now.nodes (kept_of old) (memory_of old)
  knows = record { durable = old.durable; staged = old.staged; is_up = seen.at; durable_state = refl; replayed = refl }

  few : length now.nodes.open_writes < 1024
  few = ⊎_elim
      (λ lt. lt)
      (λ ge. let same : length now.nodes.open_writes ≡ length old.open_ids = sym (length-map now.nodes.open_writes (λ (x : Entry). x.id)) ∙ ap length seen.open_writes in
      absurd (begins.has_id (inl (omega (arith, ge, same)))))
      (cases_lt (length now.nodes.open_writes) 1024)

  asked_w : r.asked ≡ to_write w.changes w.conditions
  asked_w = own.asked ∙ ap (λ (x : Entry). to_write x.changes x.conditions) (sym begins.write)

  begin : IsBegin store shards left now r h w
  begin = record {
    kept = kept_of old;
    memory = memory_of old;
    knows = knows;
    room = few;
    epoch = ap (λ (x : Entry). x.id.epoch) begins.write;
    number = ap (λ (x : Entry). x.id.number) begins.write ∙ ap (λ (n : ℕ). n + 1) (sym seen.given);
    running = own.running;
    asked = asked_w;
    holds = own.holds;
    unbegun = own.unbegun;
    undecided = own.undecided;
  }

  abbrev next : Nodes
  next = with_open store shards left now.nodes w

  seen_after : IsSeen next new
  seen_after = record {
    at = seen.at ∙ ap (λ (v : CoordinatorView D). up v.durable v.staged) (sym begins.new_is);
    open_writes = ap (λ (x : Entry). x.id ∷ map (λ (y : Entry). y.id) now.nodes.open_writes) begins.write
        ∙ ap (λ (l : List WriteId). next_id old ∷ l) seen.open_writes
        ∙ ap (λ (v : CoordinatorView D). v.open_ids) (sym begins.new_is);
    given = ap (λ (n : ℕ). n + 1) seen.given ∙ ap (λ (v : CoordinatorView D). v.given) (sym begins.new_is);
  }

  abbrev later : Running
  later = with_intent store shards left now r h w

  -- the kept place that the intent knows is the machine's
  held : later.holds ≡ writing (record h { id = Some w.id; intent = Some i })
  held =
      let kept : now.machine.kept ≡ i.kept = sym (begins.kept ∙ st.heads.kept (kept_of old) (memory_of old) knows) in
      ap (λ (n : ℕ). writing (record h { id = Some w.id; intent = Some (record { write = w; kept = n }) })) kept

  abbrev after : Moment
  after = record now { nodes = next; running = replaced later now.running }

  same_but : SameBut coordinator now.nodes next
  same_but = record { others = λ n ne. refl; open_writes = λ ne. absurd (ne refl); given = λ ne. absurd (ne refl) }

  unheld : id_of r.holds ≡ None
  unheld = ap id_of own.holds ∙ own.unbegun

  turns : (found_before : ℕ → Type 0) → Turns shards found_before now r (goes_on ∷ []) after
  turns found_before = record {
    moves = [];
    machine = refl;
    node = coordinator;
    others = same_but;
    called = inl refl;
    later = later;
    open_writes = inr (inl (record {
      write = w;
      kept = begin.kept;
      memory = begin.memory;
      knows = begin.knows;
      epoch = begin.epoch;
      asked = asked_w;
      unbegun = unheld;
      held = refl;
      number = begin.number;
      open_writes = refl;
      given = refl;
    }));
    turned = record {
      slot = refl;
      asked = refl;
      same_id = λ id is. absurd (none-some _ (sym unheld ∙ is));
      seen = refl;
      decides = inr (record { moves_are = All-nil (IsQuiet (MayRise shards found_before now)); decided = refl });
      met = inl refl;
      cancelled = refl;
      reopened_is = refl;
    };
    named = refl;
    tells = inl (own.goes_on, (goes_on, refl, (refl, refl)));
  }

pub begin_turns : (store shards : ℕ) (left : NodeName → List Record → Type 0) (D : Type 0) → BeginTurns store shards left D
begin_turns store shards left D now old new changes conditions i r h st seen begins own = (
  seen_after store shards left now old new changes conditions i r h st seen begins own,
  held store shards left now old new changes conditions i r h st seen begins own,
  writes_begin store shards left now r h i.write (begin store shards left now old new changes conditions i r h st seen begins own) st,
  turns store shards left now old new changes conditions i r h st seen begins own (IsHorizonIn store shards left now.nodes),
)

pub begin_has_cause : (store shards : ℕ) (left : NodeName → List Record → Type 0) (D : Type 0) → BeginHasCause store shards left D
begin_has_cause store shards left D now after old changes conditions e r st seen asked why = ⊎_elim
    (λ is. subst (IsCause shards coordinator now after r) (sym is) (future (why.future is)))
    (λ rest. ⊎_elim
    (λ is. subst (IsCause shards coordinator now after r) (sym is) (collected (why.collected is)))
    (λ more. ⊎_elim
    (λ is. subst (IsCause shards coordinator now after r) (sym is) (full (why.full is)))
    (λ is. subst (IsCause shards coordinator now after r) (sym is) (subst TakesMemory (sym asked) tt))
    more)
    rest)
    why.others
  where
    known : CoordinatorKnows now.nodes (kept_of old) (memory_of old)
    known = record { durable = old.durable; staged = old.staged; is_up = seen.at; durable_state = refl; replayed = refl }

    future : FirstIs old conditions (NamesFuture old) → IsFuture now.machine r.asked
    future first =
        let end : end_of (memory_of old) ≡ length now.machine.log = st.heads.log (kept_of old) (memory_of old) known in
        subst (IsFuture now.machine) (sym asked) (first.is.0, (first.condition, contained_from conditions first.index first.condition first.there, first.is.1), (let at = first.is.2 in omega (arith, at, end)))

    collected : FirstIs old conditions (NamesCollected old) → IsBelow now.machine.horizon r r.asked
    collected first =
        let low : (kept_of old).horizon ≡ now.machine.horizon = st.heads.horizon (kept_of old) (memory_of old) known in
        subst (IsBelow now.machine.horizon r) (sym asked) (first.is.0, (first.condition, contained_from conditions first.index first.condition first.there, first.is.1), (let at = first.is.2 in omega (arith, at, low)))

    full : HasNoId old → IsFull shards coordinator now r r.asked
    full none = subst (IsFull shards coordinator now r) (sym asked) (inr (
      refl,
      ⊎_elim
          (λ many. inl (let same : length now.nodes.open_writes ≡ length old.open_ids = sym (length-map now.nodes.open_writes (λ (x : Entry). x.id)) ∙ ap length seen.open_writes in omega (arith, many, same)))
          (λ last. inr (inl (let same = seen.given in omega (arith, last, same))))
          none,
    ))
