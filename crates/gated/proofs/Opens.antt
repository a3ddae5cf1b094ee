-- The states of an opening.
use Rattle.std.proofs.Common.{◌≡◌, ◌⊎◌, inl, inr, ℕ, ◌≤◌, List, [], ◌∷◌, length, Some, false, refl, sym, ◌∙◌, ap, subst, arith}
use Rattle.std.proofs.lemmas.List.{drop_all}
use Rattle.device.specs.Device.{State, Leaves, Synced, Keeps, Elapses, LeavesOnly, left}
use Rattle.device.proofs.Moments.{leaves_map, leaves_then, leaves_nothing_else}
use Rattle.gated.specs.Gated.{closed_gate, gated, AreBehind, HasList, IsAllDurable, IsReady, IsSpelled, IsFoundList, WasPut}
use Rattle.gated.proofs.Calls.{one_call, still}
use Rattle.gated.proofs.Splitting.{short_list, spelled_list}

-- all that a stop may leave is what reads
has_list : (s : State) (bodies : List (List ℕ)) → s.durable ≡ s.seen → s.written ≡ [] → gated s.seen ≡ Some bodies → HasList s bodies
has_list s bodies durable written list c leaves =
    let is : c ≡ s.durable = leaves_nothing_else s.durable c (subst (λ (w : List (ℕ × ℕ)). Leaves s.durable w c) written leaves) in
    ap gated (is ∙ durable) ∙ list

module _ (s : State) (short : length s.seen ≤ 1) where
  -- at most one byte has no list but the empty one
  pub short_leaves : (c : List ℕ) → length c ≤ 1 → gated c ≡ gated s.seen
  short_leaves c le = short_list c le ∙ sym (short_list s.seen short)

  module _ (new : State) (put : WasPut s 0 (closed_gate ∷ []) new) where
    made_is : new.seen ≡ 0 ∷ []
    made_is = put.seen ∙ ap (λ (l : List ℕ). 0 ∷ l) (drop_all 1 s.seen short)

    pub made_ready : IsReady new 0
    made_ready = record {
      bodies = [];
      gate = 0;
      rest = [];
      kept = [];
      fit = tt;
      closed = λ is. omega (arith, is);
      seen = made_is;
      durable = put.durable ∙ made_is;
      end_is = refl;
      written = subst (AreBehind 0) (sym put.written) tt;
    }

    pub made_list : new.stopped ≡ false → IsFoundList s [] new
    made_list up = record {
      was = short_list s.seen short;
      has = has_list new [] put.durable put.written (short_list new.seen (omega (arith, ap length made_is)));
      up = up;
      reads = inr (omega (arith, ap length made_is));
    }

-- a length, a sync, and what reads
module _ {D : Type 0} (moment : D → ℕ) (left_since : D → ℕ → List ℕ → Type 0) (state : D → State) where
  pub read_moments : (old one mid new : D) → Keeps (state old) (state one) → Synced (state one) (state mid)
      → ((c : List ℕ) → left_since old (moment old) c → left (state old) c) → ((c : List ℕ) → left_since one (moment one) c → left (state one) c)
      → Elapses (moment old) (moment one) (left_since old) (left_since one) (left (state one))
      → Elapses (moment one) (moment mid) (left_since one) (left_since mid) (left (state mid))
      → LeavesOnly moment left_since mid new (left (state mid))
      → LeavesOnly moment left_since old new (λ c. left (state old) c ⊎ (gated c ≡ gated (state old).seen))
  read_moments old one mid new keeps synced only_old only_one first second third =
      let s = state old in
      let P : List ℕ → Type 0 = λ c. left s c ⊎ (gated c ≡ gated s.seen) in
      let same : (c : List ℕ) → left (state one) c → P c = λ c l. inl (still s (state one) keeps.durable keeps.written c l) in
      let seen : (c : List ℕ) → left (state mid) c → P c
      = λ c l. inr (ap gated (leaves_nothing_else (state mid).durable c (subst (λ (w : List (ℕ × ℕ)). Leaves (state mid).durable w c) synced.written l) ∙ synced.durable ∙ keeps.seen)) in
      leaves_then moment left_since old one new P
      (one_call moment left_since state old one P only_old first (λ c l. inl l) same)
      (leaves_then moment left_since one mid new P
      (one_call moment left_since state one mid P only_one second same seen)
      (leaves_map moment left_since mid new (left (state mid)) P seen third))

-- the same states after a call that keeps all
pub synced_since : (s one mid : State) → Keeps s one → Synced one mid → Synced s mid
synced_since s one mid keeps synced = record { seen = synced.seen ∙ keeps.seen; durable = synced.durable ∙ keeps.seen; written = synced.written; stopped = synced.stopped }

module _ (s mid new : State) (synced : Synced s mid) (keeps : Keeps mid new) (content : List ℕ) (content_is : content ≡ mid.seen) (bodies : List (List ℕ)) (end : ℕ) (spelled : IsSpelled content bodies end) where
  seen_is : new.seen ≡ content
  seen_is = keeps.seen ∙ sym content_is

  durable_is : new.durable ≡ new.seen
  durable_is = keeps.durable ∙ synced.durable ∙ sym synced.seen ∙ sym keeps.seen

  written_is : new.written ≡ []
  written_is = keeps.written ∙ synced.written

  pub found_durable : IsAllDurable new
  found_durable = record { durable = durable_is; written = written_is }

  pub found_ready : IsReady new end
  found_ready = record {
    bodies = bodies;
    gate = spelled.gate;
    rest = spelled.rest;
    kept = spelled.rest;
    fit = spelled.fit;
    closed = spelled.closed;
    seen = seen_is ∙ spelled.content_is;
    durable = durable_is ∙ seen_is ∙ spelled.content_is;
    end_is = spelled.end_is;
    written = subst (AreBehind end) (sym written_is) tt;
  }

  pub found_list : new.stopped ≡ false → IsFoundList s bodies new
  found_list up =
      let list = spelled_list content bodies end spelled in
      record {
        was = ap gated (sym (content_is ∙ synced.seen)) ∙ list;
        has = has_list new bodies durable_is written_is (ap gated seen_is ∙ list);
        up = up;
        reads = inl (keeps.seen ∙ synced.seen);
      }
