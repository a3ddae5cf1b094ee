-- What the coordinator's own contract of abort says makes a turn of a run.
use Rattle.std.proofs.Common.{◌≡◌, ◌⊎◌, inl, inr, ⊎_elim, ℕ, true, false, List, [], ◌∷◌, Some, refl, sym, ◌∙◌, ap}
use Rattle.std.proofs.lemmas.Bool.{cases_Bool}
use Rattle.std.proofs.lemmas.List.Elements.{All-nil}
use Rattle.turns.proofs.Words.{CoordinatorView, EndsAs, EndsQuietly, Entry, IsHorizonIn, IsQuiet, IsSeen, IsUndecidedFlow, MayRise, Moment, NodeName, Nodes, Record, Running, SameBut, Told, Turns, WriteHolds, coordinator, goes_on, id_of, replaced, told_unless, up, with_closed, with_verdict, without_id}
use Rattle.decisions.specs.Coordinators.{AbortsAt}
use Rattle.stores.proofs.Abort.{aborts_stand}
use Rattle.turns.specs.SeamLaws.{AbortTurns}
use Rattle.turns.proofs.DecideSeam.{ids_without}

module _ (store shards : ℕ) (left : NodeName → List Record → Type 0) {D : Type 0} (now : Moment) (old new : CoordinatorView D) (r : Running) (h : WriteHolds) (w : Entry)
    (seen : IsSeen now.nodes old) (aborts : AbortsAt old w.id new) (own : IsUndecidedFlow now r h w) (found_before : ℕ → Type 0) where
  abbrev next : Nodes
  next = with_closed now.nodes w.id

  abbrev later : Running
  later = with_verdict now r h w

  abbrev after : Moment
  after = record now { nodes = next; running = replaced later now.running }

  pub seen_after : IsSeen next new
  seen_after = record {
    at = seen.at ∙ ap (λ (v : CoordinatorView D). up v.durable v.staged) (sym aborts.new_is);
    open_writes = ids_without w.id now.nodes.open_writes ∙ ap (without_id w.id) seen.open_writes ∙ ap (λ (v : CoordinatorView D). v.open_ids) (sym aborts.new_is);
    given = seen.given ∙ ap (λ (v : CoordinatorView D). v.given) (sym aborts.new_is);
  }

  same_but : SameBut coordinator now.nodes next
  same_but = record { others = λ n ne. refl; open_writes = λ ne. absurd (ne refl); given = λ ne. absurd (ne refl) }

  held : id_of r.holds ≡ Some w.id
  held = ap id_of own.holds ∙ own.id

  tells : ((r.is_cancelled ≡ false) × ((t : Told) × (told_unless r.is_cancelled ≡ t ∷ []) × EndsAs shards found_before now later after t))
      ⊎ ((r.is_cancelled ≡ true) × (told_unless r.is_cancelled ≡ []) × EndsQuietly shards found_before now later after)
  tells = ⊎_elim
      (λ yes. inr (yes, ap told_unless yes, (refl, inl refl)))
      (λ none. inl (none, (goes_on, ap told_unless none, (refl, refl))))
      (cases_Bool r.is_cancelled)

  pub turns : Turns shards found_before now r (told_unless r.is_cancelled) after
  turns = record {
    moves = [];
    machine = refl;
    node = coordinator;
    others = same_but;
    called = inl refl;
    later = later;
    open_writes = inr (inr (record { id = w.id; held = held; open_writes = refl; given = refl }));
    turned = record {
      slot = refl;
      asked = refl;
      same_id = λ id is. ap id_of (sym own.holds) ∙ is;
      seen = refl;
      decides = inr (record { moves_are = All-nil (IsQuiet (MayRise shards found_before now)); decided = refl });
      met = inl refl;
      cancelled = refl;
      reopened_is = refl;
    };
    named = refl;
    tells = tells;
  }

pub abort_turns : (store shards : ℕ) (left : NodeName → List Record → Type 0) (D : Type 0) → AbortTurns store shards left D
abort_turns store shards left D now old new r h w st seen aborts own = (
  seen_after store shards left now old new r h w seen aborts own (IsHorizonIn store shards left now.nodes),
  (aborts_stand store shards left now r h w st own).0,
  turns store shards left now old new r h w seen aborts own (IsHorizonIn store shards left now.nodes),
)
