-- What a stop leaves of the coordinator's new devices, while they are written.
use Rattle.std.proofs.Common.{◌≡◌, ◌⊎◌, ◌≤◌, inl, inr, ◌+◌, ℕ, suc, List, [], ◌∷◌, ◌++◌, All, Result, Ok, Err, None, Some, append-nil, get_or, length, set, slice_get, sym, ◌∙◌, ap, subst, arith}
use Rattle.std.specs.Result.{OnErr, OnOk}
use Rattle.std.proofs.lemmas.List.Elements.{All-set}
use Rattle.std.proofs.lemmas.Option.{same_Some}
use Rattle.calls.specs.Carrying.{Carries}
use Rattle.calls.specs.Views.{NodeView, coordinator, refused, shard}
use Rattle.calls.specs.declared.carrying.Reach.{Reach}
use Rattle.cluster.specs.Worlds.{WorldView, node_at}
use Rattle.decisions.specs.Checkpoints.{carried_checkpoint}
use Rattle.device.specs.Device.{State}
use Rattle.journal.specs.Beginnings.{BegunView}
use Rattle.journal.specs.Records.{HasRecords}
use Rattle.names.specs.declared.node_name.NodeName.TheVariants.{Coordinator}
use Rattle.refusal.specs.declared.refusal.Refusal.{Refusal}
use Rattle.refusal.specs.declared.refusal.Refusal.TheVariants.{Damaged, Down, NoMemory}
use Rattle.tuples.specs.declared.version.Version.{Version}
use Rattle.reshard.specs.Made.{AreHonest, HasLog, HaveShards, devices_of}
use Rattle.refusal.specs.Refusals.{IsOneOf}
use Rattle.reshard.specs.Refusing.{HaveSomething, IsNotWritten, LacksLog}
use Rattle.reshard.specs.Written.{AreLeft, AreWrittenInOrder, BeginsNode, EndsFirst, EndsLast, FirstTwo, HasBegunOn, HasTried, HeadBegins, KeepsFirst, PutsTwoBack}

-- another node than the first is changed
pub keeps_first_set : {D : Type 0} (old nodes : List (BegunView D)) (i s : ℕ) (new : BegunView D) → i ≡ s + 1 → KeepsFirst old nodes → KeepsFirst old (set nodes i new)
keeps_first_set {D} old nodes i s new at keeps head others is =
    let k = keeps head others is in
    let next : i ≡ suc s = omega (arith, at) in
    (set k.0 s new, ap (λ (l : List (BegunView D)). set l i new) k.1 ∙ ap (λ (j : ℕ). set (head ∷ k.0) j new) next)

module _ {D : Type 0} (state : D → State) (honest : D → Type 0) (moment : D → ℕ) (left_since : D → ℕ → List ℕ → Type 0) where
  -- no node has begun yet, or the first one has
  abbrev pub HeadSoFar : List D → List (BegunView D) → List D → Type 0
  HeadSoFar given nodes devices = ((nodes ≡ []) × (devices ≡ given)) ⊎ ((head : BegunView D) × (others : List (BegunView D)) × (nodes ≡ head ∷ others) × HasBegunOn state honest moment left_since given head)

  pub head_more : (given devices new : List D) (nodes news : List (BegunView D)) → HeadSoFar given nodes devices → BeginsNode state honest moment left_since devices nodes new news → HeadSoFar given news new
  head_more given devices new nodes news (inl (none, same)) b = inr (
    b.node,
    [],
    b.new_is ∙ ap (λ (l : List (BegunView D)). l ++ b.node ∷ []) none,
    record { a = b.a; b = b.b; rest = new; given_is = sym same ∙ b.old_is; is_open = b.is_open; still_honest = b.still_honest; moments = b.moments },
  )
  head_more given devices new nodes news (inr (head, others, is, begun)) b = inr (head, others ++ b.node ∷ [], b.new_is ∙ ap (λ (l : List (BegunView D)). l ++ b.node ∷ []) is, begun)

  pub head_back : (given devices new : List D) (nodes news : List (BegunView D)) → HeadSoFar given nodes devices → PutsTwoBack state honest moment left_since devices new → news ≡ nodes
      → HeadBegins state honest moment left_since given news new
  head_back given devices new nodes news (inl (none, same)) p is =
      inl (is ∙ none, inr (record { a = p.a; b = p.b; later_a = p.later_a; later_b = p.later_b; rest = p.rest; old_is = sym same ∙ p.old_is; new_is = p.new_is; moments = p.moments }))
  head_back given devices new nodes news (inr (head, others, at, begun)) p is = inr (head, others, is ∙ at, begun)

  module _ (old : WorldView D) (shards : ℕ) where
    -- the end of the coordinator's is tried
    pub ends_first : (node : NodeView D) (nodes : List (BegunView D)) (was new : BegunView D) (r : Result (Unit {0}) Refusal) → node_at old.nodes Coordinator ≡ Some node → was ≡ get_or nodes 0 was
        → Carries state honest moment left_since shards node was r new → EndsFirst state honest moment left_since old shards nodes (set nodes 0 new)
    ends_first node nodes was new r at is carries head others nodes_are =
        let same : was ≡ head = is ∙ ap (λ (l : List (BegunView D)). get_or l 0 was) nodes_are in (
          new,
          ap (λ (l : List (BegunView D)). set l 0 new) nodes_are,
          λ v here runs is_open fine.
              let is_node : node ≡ coordinator v = same_Some node (coordinator v) (sym at ∙ here) in
              let carried : Carries state honest moment left_since shards (coordinator v) head r new =
              subst (λ (n : BegunView D). Carries state honest moment left_since shards (coordinator v) n r new) same (subst (λ (n : NodeView D). Carries state honest moment left_since shards n was r new) is_node carries) in
              (carried.moments runs is_open fine, carried.same),
        )

    first_fine : (nodes : List (BegunView D)) (was : BegunView D) → 1 ≤ length nodes → was ≡ get_or nodes 0 was → AreHonest honest nodes → honest was.a × honest was.b
    first_fine nodes was some is all = subst (λ (n : BegunView D). honest n.a × honest n.b) (sym is) (all 0 was some)

    still_fine : (node : NodeView D) (was new : BegunView D) (r : Result (Unit {0}) Refusal) → Carries state honest moment left_since shards node was r new → honest was.a × honest was.b → honest new.a × honest new.b
    still_fine (coordinator v) was new r carries fine = (carries.still_honest.0.0 fine.0, carries.still_honest.1.0 fine.1)
    still_fine (shard v) was new r carries fine = subst (λ (n : BegunView D). honest n.a × honest n.b) (sym carries.1) fine
    still_fine (refused e a b) was new r carries fine = subst (λ (n : BegunView D). honest n.a × honest n.b) (sym carries.1) fine

    -- whatever comes of it, the devices are as honest as before
    pub honest_first : (node : NodeView D) (nodes : List (BegunView D)) (was new : BegunView D) (r : Result (Unit {0}) Refusal) → 1 ≤ length nodes → was ≡ get_or nodes 0 was
        → Carries state honest moment left_since shards node was r new → AreHonest honest nodes → AreHonest honest (set nodes 0 new)
    honest_first node nodes was new r some is carries all =
        All-set (λ (n : BegunView D). honest n.a × honest n.b) nodes 0 new (still_fine node was new r carries (first_fine nodes was some is all)) all

    -- and no other node has changed
    pub others_stay : (nodes : List (BegunView D)) (new n : BegunView D) (s : ℕ) → slice_get (set nodes 0 new) (s + 1) ≡ Some n → slice_get nodes (s + 1) ≡ Some n
    others_stay [] new n s there = there
    others_stay (x ∷ xs) new n s there =
        let e : s + 1 ≡ suc s = omega arith in
        subst (λ (i : ℕ). slice_get (x ∷ xs) i ≡ Some n) (sym e) (subst (λ (i : ℕ). slice_get (new ∷ xs) i ≡ Some n) e there)

    first_is : (nodes : List (BegunView D)) (new n : BegunView D) → slice_get (set nodes 0 new) 0 ≡ Some n → new ≡ n
    first_is [] new n there = absurd (let bad : None ≡ Some n = there in cc)
    first_is (x ∷ xs) new n there = same_Some new n there

    -- if it went well, the first node has what the old coordinator knows
    pub has_log : (node : NodeView D) (nodes : List (BegunView D)) (was new : BegunView D) (r : Result (Unit {0}) Refusal) → 1 ≤ length nodes → was ≡ get_or nodes 0 was
        → node_at old.nodes Coordinator ≡ Some node → Carries state honest moment left_since shards node was r new → AreHonest honest nodes → OnOk r (HasLog state honest old shards (set nodes 0 new))
    has_log node nodes was new (Err e) some is at carries all = tt
    has_log node nodes was new (Ok x) some is at carries all = λ v here runs n there.
        let is_node : node ≡ coordinator v = same_Some node (coordinator v) (sym at ∙ here) in
        let carried : Carries state honest moment left_since shards (coordinator v) was (Ok x) new = subst (λ (m : NodeView D). Carries state honest moment left_since shards m was (Ok x) new) is_node carries in
        let fine = first_fine nodes was some is all in
        subst (λ (m : BegunView D). HasRecords (state m.a) (state m.b) (carried_checkpoint shards v)) (first_is nodes new n there) (carried.ok runs fine.0 fine.1)

    pub ends_none : (nodes : List (BegunView D)) → node_at old.nodes Coordinator ≡ None → EndsFirst state honest moment left_since old shards nodes nodes
    ends_none nodes none head others nodes_are = (head, nodes_are, λ v here. absurd (let bad : None ≡ Some (coordinator v) = sym none ∙ here in cc))

    -- the shards first, and then the coordinator, whatever came of its end
    pub ends_last : (reach : Reach) (rows : List Version) (is_fine : Type 0) (before mid new : List (BegunView D)) → KeepsFirst before mid
        → (is_fine → HaveShards state old.store shards reach rows shards mid) → EndsFirst state honest moment left_since old shards mid new
        → (head : BegunView D) (others : List (BegunView D)) → before ≡ head ∷ others → EndsLast state honest moment left_since old shards reach rows is_fine head new
    ends_last reach rows is_fine before mid new keeps have ends head others is =
        let k = keeps head others is in
        let e = ends head k.0 k.1 in
        record { last = e.0; others = k.0; new_is = e.1; each = λ fine. subst (HaveShards state old.store shards reach rows shards) k.1 (have fine); ends = e.2 }

    -- what comes of it after the making, the devices being handed back
    pub left_over : (reach : Reach) (rows : List Version) (given back rest : List D) (nodes : List (BegunView D)) → back ≡ devices_of nodes ++ rest
        → ((nodes ≡ []) × FirstTwo state honest moment left_since given rest) ⊎ ((head : BegunView D) × HasBegunOn state honest moment left_since given head × HasTried state honest moment left_since old shards reach rows (All honest given) head nodes)
        → AreLeft state honest moment left_since old shards reach rows given back
    left_over reach rows given back rest nodes is (inl (none, first)) =
        inl (subst (FirstTwo state honest moment left_since given) (sym (is ∙ ap (λ (l : List (BegunView D)). devices_of l ++ rest) none)) first)
    left_over reach rows given back rest nodes is (inr (head, begun, tried)) = inr (head, begun, nodes, rest, is, tried)

    -- and so if all are written
    pub written_in_order : {T E : Type 0} (reach : Reach) (rows : List Version) (given back rest : List D) (nodes : List (BegunView D)) (result : Result T E) → back ≡ devices_of nodes ++ rest → OnOk result (rest ≡ [])
        → OnOk result ((head : BegunView D) × HasBegunOn state honest moment left_since given head × EndsLast state honest moment left_since old shards reach rows (All honest given) head nodes)
        → OnOk result (AreWrittenInOrder state honest moment left_since old shards reach rows given back)
    written_in_order reach rows given back rest nodes (Ok done) is none (head, begun, ended) =
        record { head = head; begun = begun; nodes = nodes; made_is = is ∙ ap (λ (l : List D). devices_of nodes ++ l) none ∙ append-nil (devices_of nodes); ended = ended }
    written_in_order reach rows given back rest nodes (Err e) is none ended = tt

    -- what is asked of the devices may be more
    pub ends_last_weaker : (reach : Reach) (rows : List Version) (is_fine more : Type 0) (head : BegunView D) (nodes : List (BegunView D)) → (more → is_fine) → EndsLast state honest moment left_since old shards reach rows is_fine head nodes
        → EndsLast state honest moment left_since old shards reach rows more head nodes
    ends_last_weaker reach rows is_fine more head nodes given e = record { last = e.last; others = e.others; new_is = e.new_is; each = λ m. e.each (given m); ends = e.ends }

    -- and of a node whose end was tried, or was not
    pub tried_weaker : (reach : Reach) (rows : List Version) (is_fine more : Type 0) (head : BegunView D) (nodes : List (BegunView D)) → (more → is_fine) → HasTried state honest moment left_since old shards reach rows is_fine head nodes
        → HasTried state honest moment left_since old shards reach rows more head nodes
    tried_weaker reach rows is_fine more head nodes given (inl not) = inl not
    tried_weaker reach rows is_fine more head nodes given (inr e) = inr (ends_last_weaker reach rows is_fine more head nodes given e)

    -- no end was tried if the beginning did not come to its end
    pub head_tried : (reach : Reach) (rows : List Version) (given devices : List D) (nodes : List (BegunView D)) → HeadBegins state honest moment left_since given nodes devices
        → ((nodes ≡ []) × FirstTwo state honest moment left_since given devices) ⊎ ((head : BegunView D) × HasBegunOn state honest moment left_since given head × HasTried state honest moment left_since old shards reach rows (All honest given) head nodes)
    head_tried reach rows given devices nodes (inl first) = inl first
    head_tried reach rows given devices nodes (inr b) = inr (b.0, b.3, inl (b.1, b.2))

    -- the first node of those that have begun
    pub first_begun : (given devices : List D) (nodes : List (BegunView D)) (count : ℕ) → length nodes ≡ count + 1 → HeadBegins state honest moment left_since given nodes devices
        → (head : BegunView D) × (others : List (BegunView D)) × (nodes ≡ head ∷ others) × HasBegunOn state honest moment left_since given head
    first_begun given devices nodes count long (inl (none, first)) = absurd (omega (arith, long, ap (λ (l : List (BegunView D)). length l) none))
    first_begun given devices nodes count long (inr begun) = begun

pub on_err_always : {T E : Type 0} (P : Type 0) (result : Result T E) → P → OnErr result P
on_err_always P (Ok done) p = tt
on_err_always P (Err e) p = p

pub on_ok_always : {T E : Type 0} (P : Type 0) (result : Result T E) → P → OnOk result P
on_ok_always P (Ok done) p = p
on_ok_always P (Err e) p = tt

pub written_not : {D : Type 0} (state : D → State) (honest : D → Type 0) (given : List D) (nodes : List (NodeView D)) (e : Refusal) → (e ≡ Down) ⊎ ((e ≡ NoMemory) ⊎ LacksLog nodes e) → IsNotWritten state honest given nodes e
written_not state honest given nodes e (inl down) = inl down
written_not state honest given nodes e (inr (inl none)) = inr (inl none)
written_not state honest given nodes e (inr (inr lacks)) = inr (inr (inr lacks))

-- a checkpoint could not begin
pub begun_not : {D T : Type 0} (state : D → State) (honest : D → Type 0) (given : List D) (nodes : List (NodeView D)) (r : Result T Refusal) (e : Refusal) → r ≡ Err e → IsOneOf e (Down ∷ NoMemory ∷ Damaged ∷ [])
    → (r ≡ Err Damaged → HaveSomething state honest given) → IsNotWritten state honest given nodes e
begun_not state honest given nodes r e is (inl down) damaged = inl down
begun_not state honest given nodes r e is (inr (inl none)) damaged = inr (inl none)
begun_not state honest given nodes r e is (inr (inr bad)) damaged = inr (inr (inl (bad, damaged (is ∙ ap (λ (x : Refusal). Err x) bad))))
