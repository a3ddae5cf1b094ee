-- A call of a shard that is up, over the shard's own records: what is known of the nodes after it.
use Rattle.std.proofs.Common.{◌≡◌, ◌≢◌, ◌⊎◌, inl, inr, ⊎_elim, ◌==◌, ◌++◌, ℕ, false, List, [], ◌∷◌, Contains, refl, sym, ◌∙◌, ap, subst, append_assoc, if◌then◌else◌}
use Rattle.std.proofs.Math.Path.{fun_ext}
use Rattle.std.proofs.lemmas.Bool.{cases_Bool, eq-eqb, eqb-true}
use Rattle.turns.proofs.Words.{Entry, Epoch, Identity, IsQuietCall, IsShardImage, IsStaging, Moment, NodeName, NodeState, Nodes, Record, ShardIsSeen, ShardKnows, ShardState, ShardView, Stages, StagesAt, Stands, behind_shard, coordinator, empty_shard, leaves, memory, own_part, part, shard, shard_from, shard_from-append, shard_node, shard_push, staged_of, up, with_nodes}
use Rattle.records.specs.Replays.{shard_state, shard_step}
use Rattle.turns.specs.ShardSeamLaws.{at_shard}
use Rattle.turns.proofs.QuietTurns.{nothing_changes, one_more_staged}
use Rattle.stores.proofs.ShardStages.{durable_in}
use Rattle.stores.proofs.ShardFlush.{epoch_stays}

pub same_epoch : (durable staged : List Record) → ((e a b c : ℕ) → Contains staged (Epoch e a b c) → ⊥) → (shard_state (durable ++ staged)).epoch ≡ (shard_state durable).epoch
unfolding shard_state
same_epoch durable staged none = ap (λ (s : ShardState). s.epoch) (shard_from-append empty_shard durable staged) ∙ epoch_stays (shard_from empty_shard durable) staged none

-- shard s has the state that was put there, and the other nodes what they had
module _ (s : ℕ) (state : NodeState) (at : NodeName → NodeState) where
  at_it : (t : ℕ) → t ≡ s → at_shard s state at (shard t) ≡ state
  at_it t same = ap (λ b. if b then state else at (shard t)) (eq-eqb t s same)

  at_other : (t : ℕ) → (t == s) ≡ false → at_shard s state at (shard t) ≡ at (shard t)
  at_other t other = ap (λ b. if b then state else at (shard t)) other

  pub put_here : at_shard s state at (shard s) ≡ state
  put_here = at_it s refl

  pub put_elsewhere : (n : NodeName) → n ≢ shard s → at_shard s state at n ≡ at n
  put_elsewhere coordinator ne = refl
  put_elsewhere (shard t) ne = ⊎_elim (λ same. absurd (ne (ap shard (eqb-true t s same)))) (λ other. at_other t other) (cases_Bool (t == s))

-- so it is after a call
pub here : {D : Type 0} (s : ℕ) (nodes : Nodes) (v : ShardView D) → (behind_shard s nodes v).at (shard s) ≡ up v.durable v.staged
here s nodes v = put_here s (up v.durable v.staged) nodes.at

pub elsewhere : {D : Type 0} (s : ℕ) (nodes : Nodes) (v : ShardView D) (n : NodeName) → n ≢ shard s → (behind_shard s nodes v).at n ≡ nodes.at n
elsewhere s nodes v = put_elsewhere s (up v.durable v.staged) nodes.at

module _ (store shards : ℕ) (left : NodeName → List Record → Type 0) {D : Type 0} (now : Moment) (old : ShardView D) (s : ℕ) (seen : ShardIsSeen store shards s now.nodes old) where
  abbrev pub knows : ShardKnows now.nodes s (memory old)
  knows = record { durable = old.durable; staged = old.staged; is_up = seen.at; replayed = refl }

  pub own_is : (w : Entry) → own_part old w ≡ part shards s w
  own_is w = ap (λ (i : Identity). part i.shards i.node w) seen.me

  -- what it knows is among what a stop leaves, with what is staged
  pub known_left : Stands store shards left now → leaves left now.nodes (shard s) (old.durable ++ old.staged)
  known_left st = (
    old.durable,
    (st.nodes.durable (shard s) old.durable old.staged old.durable seen.at).1 refl,
    inr (ap (λ (l : List Record). old.durable ++ l) (sym (ap staged_of seen.at))),
  )

  -- and a stop leaves nothing but the durable records, with what is staged or without
  pub left_or_known : Stands store shards left now → (found : List Record) → leaves left now.nodes (shard s) found → (found ≡ old.durable) ⊎ (found ≡ old.durable ++ old.staged)
  left_or_known st found is =
      let before : is.0 ≡ old.durable = (st.nodes.durable (shard s) old.durable old.staged is.0 seen.at).0 is.1 in
      ⊎_elim
      (λ plain. inl (plain ∙ before))
      (λ more. inr (more ∙ ap (λ (l : List Record). l ++ staged_of (now.nodes.at (shard s))) before ∙ ap (λ (n : NodeState). old.durable ++ staged_of n) seen.at))
      is.2

  module _ (new : ShardView D) where
    abbrev pub next : Nodes
    next = behind_shard s now.nodes new

    same_at : new ≡ old → (n : NodeName) → next.at n ≡ now.nodes.at n
    same_at is coordinator = refl
    same_at is (shard t) = ⊎_elim
        (λ same. at_it s (up new.durable new.staged) now.nodes.at t (eqb-true t s same) ∙ ap (λ (v : ShardView D). up v.durable v.staged) is ∙ sym seen.at ∙ ap (λ (k : ℕ). now.nodes.at (shard k)) (sym (eqb-true t s same)))
        (λ other. at_other s (up new.durable new.staged) now.nodes.at t other)
        (cases_Bool (t == s))

    same_nodes : new ≡ old → next ≡ now.nodes
    same_nodes is = ap (λ (f : NodeName → NodeState). record now.nodes { at = f }) (fun_ext (λ n. same_at is n))

    -- if the call changed nothing, the nodes are as they were
    pub unchanged : Stands store shards left now → new ≡ old → ShardIsSeen store shards s next new × IsQuietCall store shards left left now next now.machine
    unchanged st is = (
      record { there = seen.there; me = ap (λ (v : ShardView D). v.me) is ∙ seen.me; at = here s now.nodes new },
      subst (λ (n : Nodes). IsQuietCall store shards left left now n now.machine) (sym (same_nodes is)) (nothing_changes store shards left now st),
    )

    module _ (r : Record) (stages : Stages old r new) where
      pub here_staged : next.at (shard s) ≡ up old.durable (old.staged ++ r ∷ [])
      here_staged = here s now.nodes new ∙ ap (λ (v : ShardView D). up v.durable v.staged) stages

      pub seen_after : ShardIsSeen store shards s next new
      seen_after = record { there = seen.there; me = ap (λ (v : ShardView D). v.me) stages ∙ seen.me; at = here s now.nodes new }

      abbrev pub step : StagesAt (shard s) r now.nodes next
      step = record {
        durable = old.durable;
        staged = old.staged;
        was = seen.at;
        now = here_staged;
        others = record { others = elsewhere s now.nodes new; open_writes = λ ne. refl; given = λ ne. refl };
      }

      -- what the shard knows then
      pub memory_after : (m : ShardState) → ShardKnows next s m → m ≡ shard_step (memory old) r
      memory_after m k =
          let both : up k.durable k.staged ≡ up old.durable (old.staged ++ r ∷ []) = sym k.is_up ∙ here_staged in
          k.replayed
          ∙ ap (λ (l : List Record). shard_state (l ++ k.staged)) (ap durable_in both)
          ∙ ap (λ (l : List Record). shard_state (old.durable ++ l)) (ap staged_of both)
          ∙ ap shard_state (sym (append_assoc old.durable old.staged (r ∷ [])))
          ∙ shard_push (old.durable ++ old.staged) r

      pub longer_image : IsShardImage new.me (new.durable ++ new.staged) → IsShardImage (shard_node store shards s) ((old.durable ++ old.staged) ++ r ∷ [])
      longer_image image =
          let was : IsShardImage old.me (old.durable ++ (old.staged ++ r ∷ [])) = subst (λ (v : ShardView D). IsShardImage v.me (v.durable ++ v.staged)) stages image in
          subst (IsShardImage (shard_node store shards s)) (sym (append_assoc old.durable old.staged (r ∷ [])))
          (subst (λ (me : Identity). IsShardImage me (old.durable ++ (old.staged ++ r ∷ []))) seen.me was)

      abbrev pub staging : Stands store shards left now → IsShardImage new.me (new.durable ++ new.staged) → IsStaging store shards left now next s r
      staging st image = record { stands = st; there = seen.there; step = step; image = longer_image image }

      -- if the store still stands, the call was quiet
      pub staged_quietly : ((e a b c : ℕ) → r ≡ Epoch e a b c → ⊥) → Stands store shards left (with_nodes now next) → IsQuietCall store shards left left now next now.machine
      staged_quietly no_opening st = one_more_staged store shards left now next (shard s) r step no_opening refl refl st
