-- What joins the list leaves the coordinator tied to it.
use Rattle.std.proofs.Common.{◌≡◌, ◌≤◌, ℕ, true≢false, List, ◌++◌, length, Result, Option, Some, None, Ok, Err, refl, sym, ◌∙◌, subst, ap, arith}
use Rattle.std.proofs.lemmas.Bool.{false_from_ne_true}
use Rattle.sides.proofs.Words.{Answered, AnsweredThere, AreHeadsOf, Attempt, behind_in, Coordinator, coordinator, CoordinatorAnswers, CoordinatorMayJoin, CoordinatorReply, CoordinatorView, Entry, from_coordinator, Heads, HeadsAnswers, HeadsValue, IsTiedThere, kept_of, MayJoin, NodeView, Refusal, refused, Refuses, Reply, shard, State, tied_up_is_tied}
use Rattle.decisions.specs.Coordinators.{heads_of}
use Rattle.calls.specs.declared.reply.CoordinatorReply.TheVariants as told
use Rattle.sides.specs.Joining.{heads_in}

module _ {D : Type 0} (state : D → State) (honest : D → Type 0) (moment : D → ℕ) (left_since : D → ℕ → List ℕ → Type 0) where
  coordinator_heads : (v : CoordinatorView D) (r : Result HeadsValue Refusal) → HeadsAnswers state honest v r → AreHeadsOf state honest (Some (coordinator v)) (heads_in (from_coordinator (told.Heads r)))
  coordinator_heads v (Ok h) a = (λ running. ap Some (a.ok running), λ down. absurd (cc (a.down.1 down)))
  coordinator_heads v (Err e) a = (λ running. absurd (true≢false (sym (a.down.0 refl) ∙ running.up)), λ down. refl)

  heads_by_coordinator : (old new : CoordinatorView D) (reply : CoordinatorReply) → CoordinatorAnswers state honest moment left_since old Heads reply new
      → (new ≡ old) × AreHeadsOf state honest (Some (coordinator old)) (heads_in (from_coordinator reply))
  heads_by_coordinator old new (told.Heads r) a = (a.0, coordinator_heads old r a.1)
  heads_by_coordinator old new reply a = absurd a

  heads_of_refused : (e : Refusal) (reply : Reply) → Refuses e (Coordinator Heads) reply → heads_in reply ≡ None
  heads_of_refused e (from_coordinator (told.Heads (Ok h))) r = absurd (cc r)
  heads_of_refused e (from_coordinator (told.Heads (Err f))) r = refl
  heads_of_refused e reply r = absurd r

  heads_of_node : (old : NodeView D) (reply : Reply) (new : NodeView D) → Answered state honest moment left_since old (Coordinator Heads) reply new
      → (new ≡ old) × AreHeadsOf state honest (Some old) (heads_in reply)
  heads_of_node (coordinator old) (from_coordinator reply) (coordinator new) a = let h = heads_by_coordinator old new reply a in (ap coordinator h.0, h.1)
  heads_of_node (refused e x y) reply new a = (a.0, heads_of_refused e reply a.1)
  heads_of_node old reply new a = absurd a

  -- the heads that are told are those of the node, which stays as it was
  pub heads_are_told : (old new : Option (NodeView D)) (reply : Reply) → AnsweredThere state honest moment left_since old Heads reply new
      → (new ≡ old) × AreHeadsOf state honest old (heads_in reply)
  heads_are_told (Some old) (Some new) reply a = let h = heads_of_node old reply new a in (ap Some h.0, h.1)
  heads_are_told old new reply a = absurd a

module _ {D : Type 0} (state : D → State) (honest : D → Type 0) (store shards : ℕ) where
  -- the list with what is kept after it, of a node that told its heads
  pub record JoinsTo (node : Option (NodeView D)) (seen : List Entry) (low : ℕ) (tried : List Attempt) (heads : HeadsValue) : Type 0 where
    pub kept : heads.kept ≡ length (seen ++ behind_in seen node)
    pub within : heads.horizon ≤ heads.kept
    pub raised : low ≤ heads.horizon
    pub tied : IsTiedThere state honest store shards node (seen ++ behind_in seen node) heads.horizon tried

  up_joins : (v : CoordinatorView D) (seen : List Entry) (low : ℕ) (tried : List Attempt) (heads : HeadsValue) → CoordinatorMayJoin state honest store shards v seen low tried
      → AreHeadsOf state honest (Some (coordinator v)) (Some heads) → JoinsTo (Some (coordinator v)) seen low tried heads
  up_joins v seen low tried heads may are =
      let joins = may.up (false_from_ne_true v.is_down (λ down. cc (are.1 down))) in
      let is : heads ≡ heads_of v = cc (are.0 joins.tied.running) in
      let kept = ap (λ (h : HeadsValue). h.kept) is in
      let horizon = ap (λ (h : HeadsValue). h.horizon) is in
      let within = joins.tied.kept.within in
      record {
        kept = kept ∙ sym joins.tied.whole;
        within = omega (arith, kept, horizon, within, joins.tied.whole);
        raised = omega (arith, horizon, joins.raised);
        tied = subst (λ (n : ℕ). IsTiedThere state honest store shards (Some (coordinator v)) (seen ++ behind_in seen (Some (coordinator v))) n tried) (sym horizon)
            (tied_up_is_tied state honest store shards v (seen ++ behind_in seen (Some (coordinator v))) (kept_of v).horizon tried joins.tied may.me);
      }

  -- a node that told its heads joins
  pub told_joins : (node : Option (NodeView D)) (seen : List Entry) (low : ℕ) (tried : List Attempt) (heads : HeadsValue) → MayJoin state honest store shards node seen low tried
      → AreHeadsOf state honest node (Some heads) → JoinsTo node seen low tried heads
  told_joins (Some (coordinator v)) seen low tried heads may are = up_joins v seen low tried heads may are
  told_joins (Some (refused e a b)) seen low tried heads may are = absurd (cc are)
  told_joins (Some (shard v)) seen low tried heads may are = absurd may
  told_joins None seen low tried heads may are = absurd may
