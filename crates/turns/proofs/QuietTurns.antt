-- A quiet call makes a turn of a run, whatever node it called.
use Rattle.std.proofs.Common.{◌≡◌, ◌≢◌, ◌⊎◌, inl, inr, ⊎_elim, ℕ, true, false, List, [], ◌∷◌, ◌++◌, Option, Some, None, Contains, All, slice_index_or, ◌==◌, refl, sym, ◌∙◌, ap, subst, arith}
use Rattle.std.proofs.lemmas.Bool.{cases_Bool, eq-eqb, eqb-true}
use Rattle.std.proofs.lemmas.List.Elements.{All-append, All-cons, All-contains, All-nil, Contains-append_right}
use Rattle.stores.specs.Held.{HoldsNothing}
use Rattle.stores.proofs.FlowBegins.{alone, same_right, same_verdict}
use Rattle.stores.proofs.FlowEnds.{flows_end}
use Rattle.stores.proofs.FlowGoesOn.{flows_go_on, sees_more}
use Rattle.turns.proofs.Words.{Agrees, Answer, Asked, Calls, Change, Condition, Down, EndsAs, EndsQuietly, Entry, Epoch, Full, HasItsCause, HeldTicket, HeldVote, Holds, HoldsLess, HoldsOf, IsCause, IsHorizonIn, IsOfRefusedOpening, IsQuiet, IsQuietCall, IsRight, IsRightOwn, IsRightTicket, IsRightVerdict, IsRightVote, IsRightWrite, IsTurned, LetsLearn, Machine, MayRise, Moment, Move, Moves, NoMemory, NodeName, NodeState, NodeTurns, Nodes, Record, Refusal, Running, SameBut, StagesAt, Stands, TakesMemory, Told, Turns, Unsure, WriteHolds, WriteId, answered, behind_call, coordinator, ended, ending, goes_on, going_on, id_of, outward, own_write, refused, refuses, replaced, shard, to_check, to_collect, to_flush, to_learn, to_raise, to_read, to_resolve, to_watch, to_write, told_by, told_unless, up, with_batch, with_call, with_nodes, writing}
use Rattle.turns.specs.QuietTurns.{HasMet, AwayNodesHaveCause, IsQuietStep, QuietCallsAnswer, QuietCallsEnd, QuietCallsKeep, QuietCallsRefuse, QuietCallsTurn, RefusedFlowsEnd, RefusedWritesGoOut, WritesSpend}
use Rattle.turns.specs.Runs.{KeepsOpen}
use Rattle.turns.proofs.SeesOn.{same_write, sees_on}

-- someone is told that these ids are aborted
told_more : (store shards : ℕ) (left : NodeName → List Record → Type 0) (now : Moment) (ids : List WriteId) → Stands store shards left now → All (IsRightVerdict shards left now) ids
    → Stands store shards left (record now { told = ids ++ now.told })
told_more store shards left now ids st right = record {
  rests = st.rests;
  nodes = st.nodes;
  heads = st.heads;
  listed = st.listed;
  locks = st.locks;
  ids = st.ids;
  flows = record {
    few = st.flows.few;
    slots = st.flows.slots;
    ids = st.flows.ids;
    held = λ r has. same_right shards left now now.running (ids ++ now.told) now.named r (λ x is. is) (st.flows.held r has);
    seen = st.flows.seen;
    quiet = st.flows.quiet;
  };
  told = λ j d lt. same_verdict shards left now now.running (ids ++ now.told) now.named (slice_index_or (ids ++ now.told) j d) (All-append (IsRightVerdict shards left now) ids now.told right st.told j d lt);
}

no_one : {X : Type 0} (xs : List X) → ((x : X) → Contains xs x → Contains [] x) → xs ≡ []
no_one [] sub = refl
no_one (x ∷ xs) sub = absurd (let has = sub x (alone x xs) in omega (arith, has.1))

none_left : {X : Type 0} (o : Option X) → ((x : X) → o ≡ Some x → None ≡ Some x) → o ≡ None
none_left None sub = refl
none_left (Some x) sub = absurd (let bad : None ≡ Some x = sub x refl in cc)

-- what was not begun has spent nothing
nothing_less : (shards : ℕ) (left : NodeName → List Record → Type 0) (h k : WriteHolds) → HoldsLess h k → HoldsNothing shards left h → HoldsNothing shards left k
nothing_less shards left h k less none = record {
  intent = none_left k.intent (λ i is. sym none.intent ∙ less.intent i is);
  tickets = no_one k.tickets (λ t has. subst (λ ts. Contains ts t) none.tickets (less.tickets t has));
  votes = no_one k.votes (λ v has. subst (λ vs. Contains vs v) none.votes (less.votes v has));
  decided = less.decided ∙ none.decided;
  verdict = none_left k.verdict (λ id is. sym none.verdict ∙ less.verdict id is);
}

pub all_of : {X : Type 0} (P : X → Type 0) (xs ys : List X) → ((x : X) → Contains ys x → Contains xs x) → All P xs → All P ys
all_of P xs [] sub all = All-nil P
all_of P xs (y ∷ ys) sub all = All-cons P y ys (All-contains P xs y all (sub y (alone y ys))) (all_of P xs ys (λ x has. sub x (Contains-append_right (y ∷ []) ys x has)) all)

own_less : (shards : ℕ) (left : NodeName → List Record → Type 0) (now : Moment) (r : Running) (holds : Holds) (met : Option Refusal) (m : Machine) (w : Entry) (h k : WriteHolds) → HoldsLess h k
    → IsRightOwn shards left now r w h → IsRightOwn shards left now (with_call r holds met m) w k
own_less shards left now r holds met m w h k less old = record {
  undecided = old.undecided;
  intent = λ i is. old.intent i (less.intent i is);
  tickets = all_of (IsRightTicket shards left now w) h.tickets k.tickets less.tickets old.tickets;
  votes = all_of (IsRightVote shards left now w) h.votes k.votes less.votes old.votes;
  decision = λ d is. old.decision d (sym less.decided ∙ is);
  verdict = λ id is. old.verdict id (less.verdict id is);
  not_reopened = λ i is. old.not_reopened i (less.intent i is);
  gave = λ way none s found p lt is has.
      let still = less.gave way in
      subst (λ (votes : List HeldVote). HoldsOf (record k { votes = votes }) s) (sym still.2)
      (subst (λ (tickets : List HeldTicket). HoldsOf (record k { tickets = tickets; votes = h.votes }) s) (sym still.1) (old.gave still.0 none s found p lt is has));
}

pub is_same_node : (n k : NodeName) → (n ≡ k) ⊎ (n ≢ k)
is_same_node coordinator coordinator = inl refl
is_same_node coordinator (shard t) = inr (λ is. cc)
is_same_node (shard s) coordinator = inr (λ is. cc)
is_same_node (shard s) (shard t) = ⊎_elim (λ same. inl (ap shard (eqb-true s t same))) (λ other. inr (λ is. let same : s ≡ t = cc in let both : true ≡ false = sym (eq-eqb s t same) ∙ other in cc)) (cases_Bool (s == t))

-- no call opens a node whose opening was refused
still_refused : (n : NodeName) (old new : NodeState) (e : Refusal) → NodeTurns n old new → old ≡ refused e → new ≡ refused e
still_refused n old new e (inl same) is = same ∙ is
still_refused n old new e (inr (inl more)) is = let both : up more.durable more.staged ≡ refused e = sym more.was ∙ is in absurd cc
still_refused n old new e (inr (inr (inl all))) is = let both : up all.durable all.staged ≡ refused e = sym all.was ∙ is in absurd cc
still_refused n old new e (inr (inr (inr down))) is = let both : up down.durable down.staged ≡ refused e = sym down.was ∙ is in absurd cc

-- nor is any refused for Unsure
not_unsure : (e : Refusal) → IsOfRefusedOpening e → e ≢ Unsure
not_unsure e (inl is) same_as = let both : Down ≡ Unsure = sym is ∙ same_as in cc
not_unsure e (inr (inl is)) same_as = let both : NoMemory ≡ Unsure = sym is ∙ same_as in cc
not_unsure e (inr (inr is)) same_as = let both : Full ≡ Unsure = sym is ∙ same_as in cc

-- What a quiet call does to the nodes and the machine, whatever it leaves its flow with.
record IsQuietChange (store shards : ℕ) (left : NodeName → List Record → Type 0) (now : Moment) (next : Nodes) (m : Machine) : Type 0 where
  moves : List Move
  machine : Moves now.machine moves m
  quiet : All (IsQuiet (MayRise shards (IsHorizonIn store shards left now.nodes) now)) moves
  node : NodeName
  others : SameBut node now.nodes next
  called : NodeTurns node (now.nodes.at node) (next.at node)
  open_writes : KeepsOpen now.nodes next

module _ (store shards : ℕ) (left : NodeName → List Record → Type 0) (now : Moment) (next : Nodes) (m : Machine) (call : IsQuietChange store shards left now next m) where
  abbrev found_before : ℕ → Type 0
  found_before = IsHorizonIn store shards left now.nodes

  module _ (r : Running) (running : Contains now.running r) where
    turned : (holds : Holds) (met : Option Refusal) (ran : Moment) → ran.machine ≡ m → id_of holds ≡ id_of r.holds → HasMet shards call.node now ran r met
        → IsTurned shards found_before call.node now r call.moves ran (with_call r holds met m)
    turned holds met ran is_m same_id has_met = record {
      slot = refl;
      asked = refl;
      same_id = λ id is. same_id ∙ is;
      seen = ap (λ (x : Machine). r.seen ++ x ∷ []) (sym is_m);
      decides = inr (record { moves_are = call.quiet; decided = refl });
      met = has_met;
      cancelled = refl;
      reopened_is = refl;
    }

    -- the turn, whatever it tells
    turns_as : (holds : Holds) (met : Option Refusal) (told : List Told) (running_after : List Running) (told_after : List WriteId) → id_of holds ≡ id_of r.holds
        → HasMet shards call.node now (record now { nodes = next; machine = m; running = running_after; told = told_after }) r met
        → (((r.is_cancelled ≡ false) × ((t : Told) × (told ≡ t ∷ []) × EndsAs shards found_before now (with_call r holds met m) (record now { nodes = next; machine = m; running = running_after; told = told_after }) t))
        ⊎ ((r.is_cancelled ≡ true) × (told ≡ []) × EndsQuietly shards found_before now (with_call r holds met m) (record now { nodes = next; machine = m; running = running_after; told = told_after })))
        → Turns shards found_before now r told (record now { nodes = next; machine = m; running = running_after; told = told_after })
    turns_as holds met told running_after told_after same_id has_met tells = record {
      moves = call.moves;
      machine = call.machine;
      node = call.node;
      others = call.others;
      called = call.called;
      later = with_call r holds met m;
      open_writes = inl (call.open_writes, same_id);
      turned = turned holds met (record now { nodes = next; machine = m; running = running_after; told = told_after }) refl same_id has_met;
      named = refl;
      tells = tells;
    }

    -- the flow goes on
    goes_on_as : (holds : Holds) (met : Option Refusal) → id_of holds ≡ id_of r.holds → HasMet shards call.node now (going_on now next m (with_call r holds met m)) r met
        → Turns shards found_before now r (told_unless r.is_cancelled) (going_on now next m (with_call r holds met m))
    goes_on_as holds met same_id has_met = turns_as holds met (told_unless r.is_cancelled) (replaced (with_call r holds met m) now.running) now.told same_id has_met tells
      where
        tells : ((r.is_cancelled ≡ false) × ((t : Told) × (told_unless r.is_cancelled ≡ t ∷ []) × EndsAs shards found_before now (with_call r holds met m) (going_on now next m (with_call r holds met m)) t))
            ⊎ ((r.is_cancelled ≡ true) × (told_unless r.is_cancelled ≡ []) × EndsQuietly shards found_before now (with_call r holds met m) (going_on now next m (with_call r holds met m)))
        tells = ⊎_elim
            (λ yes. inr (yes, ap told_unless yes, (refl, inl refl)))
            (λ none. inl (none, (goes_on, ap told_unless none, (refl, refl))))
            (cases_Bool r.is_cancelled)

-- A quiet call is such a change.
abbrev change_of : (store shards : ℕ) (left after : NodeName → List Record → Type 0) (now : Moment) (next : Nodes) (m : Machine) → IsQuietCall store shards left after now next m → IsQuietChange store shards left now next m
change_of store shards left after now next m call = record {
  moves = call.moves;
  machine = call.machine;
  quiet = call.quiet;
  node = call.node;
  others = call.others;
  called = call.called;
  open_writes = call.open_writes;
}

module _ (store shards : ℕ) (left after : NodeName → List Record → Type 0) (now : Moment) (next : Nodes) (m : Machine) (call : IsQuietCall store shards left after now next m) where
  abbrev known_before : ℕ → Type 0
  known_before = IsHorizonIn store shards left now.nodes

  abbrev change : IsQuietChange store shards left now next m
  change = change_of store shards left after now next m call

  -- each node turned as a call may turn it
  turns_at : (n : NodeName) → NodeTurns n (now.nodes.at n) (next.at n)
  turns_at n = ⊎_elim
      (λ same. subst (λ (k : NodeName). NodeTurns k (now.nodes.at k) (next.at k)) (sym same) call.called)
      (λ other. inl (call.others.others n other))
      (is_same_node n call.node)

  module _ (r : Running) (running : Contains now.running r) where
    pub go_on : (holds : Holds) (met : Option Refusal) → IsQuietStep store shards left after now next m r (with_call r holds met m) → HasMet shards call.node now (going_on now next m (with_call r holds met m)) r met
        → Stands store shards after (going_on now next m (with_call r holds met m)) × Turns shards known_before now r (told_unless r.is_cancelled) (going_on now next m (with_call r holds met m))
    go_on holds met step has_met = (
      flows_go_on store shards after (behind_call now next m) r (with_call r holds met m) call.stands running refl step.same_id
          (sees_more m m m r (with_call r holds met m) refl (omega arith) (omega arith) (omega arith) (omega arith) (call.stands.flows.seen r running))
          (λ no_write. call.stands.flows.quiet r running no_write) step.right,
      goes_on_as store shards left now next m change r running holds met step.same_id has_met,
    )

    abbrev ended_moment : Moment
    ended_moment = record now { nodes = next; machine = m; running = ended r.slot now.running }

    ended_stands : Stands store shards after ended_moment
    ended_stands = flows_end store shards after (behind_call now next m) r.slot call.stands

    pub answer : (holds : Holds) (a : Answer) → id_of holds ≡ id_of r.holds → r.is_cancelled ≡ false
        → Agrees (with_call r holds r.met m) (ending now next m r (told_by a)) r.asked a → All (IsRightVerdict shards after (behind_call now next m)) (told_by a)
        → Stands store shards after (ending now next m r (told_by a)) × Turns shards known_before now r (answered a ∷ []) (ending now next m r (told_by a))
    answer holds a same_id alive agrees right = (
      told_more store shards after ended_moment (told_by a) ended_stands
          (λ j d lt. same_verdict shards after (behind_call now next m) (ended r.slot now.running) now.told now.named (slice_index_or (told_by a) j d) (right j d lt)),
      turns_as store shards left now next m change r running holds r.met (answered a ∷ []) (ended r.slot now.running) (told_by a ++ now.told) same_id (inl refl) (inl (alive, (answered a, refl, (agrees, refl, refl)))),
    )

    pub refuse : (e : Refusal) → r.is_cancelled ≡ false → (r.decided ≡ None → e ≢ Unsure) → (e ≢ Unsure → r.decided ≡ None) → HasMet shards call.node now (ending now next m r []) r (Some e)
        → Stands store shards after (ending now next m r []) × Turns shards known_before now r (refuses e ∷ []) (ending now next m r [])
    refuse e alive not_unsure none has_met = (
      ended_stands,
      turns_as store shards left now next m change r running r.holds (Some e) (refuses e ∷ []) (ended r.slot now.running) now.told refl has_met
          (inl (alive, (refuses e, refl, (record { met = refl; decided = not_unsure; undecided_write = none }, refl, refl)))),
    )

    pub end_quietly : r.is_cancelled ≡ true → Stands store shards after (ending now next m r []) × Turns shards known_before now r [] (ending now next m r [])
    end_quietly cancelled = (
      ended_stands,
      turns_as store shards left now next m change r running r.holds r.met [] (ended r.slot now.running) now.told refl (inl refl) (inr (cancelled, refl, (refl, inr refl))),
    )

    was : (h : WriteHolds) (changes : List Change) (conditions : List Condition) → r.asked ≡ to_write changes conditions → r.holds ≡ writing h
        → IsRightWrite shards after (behind_call now next m) r changes conditions h
    was h changes conditions asked holds = subst (λ a. IsRight shards after (behind_call now next m) r a (writing h)) asked (subst (λ x. IsRight shards after (behind_call now next m) r r.asked x) holds (call.stands.flows.held r running))

    pub spend : (h k : WriteHolds) (changes : List Change) (conditions : List Condition) → r.asked ≡ to_write changes conditions → r.holds ≡ writing h → HoldsLess h k → k.way ≡ h.way
        → Stands store shards after (going_on now next m (with_call r (writing k) r.met m)) × Turns shards known_before now r (told_unless r.is_cancelled) (going_on now next m (with_call r (writing k) r.met m))
    spend h k changes conditions asked holds less same_way = go_on (writing k) r.met
        (record { call = call; running = running; same_id = less.id ∙ sym (ap id_of holds); right = right })
        (inl refl)
      where
        old : IsRightWrite shards after (behind_call now next m) r changes conditions h
        old = was h changes conditions asked holds

        right : IsRight shards after (behind_call now next m) (with_call r (writing k) r.met m) r.asked (writing k)
        right = subst (λ a. IsRight shards after (behind_call now next m) (with_call r (writing k) r.met m) a (writing k)) (sym asked) (record {
          nothing = λ none. nothing_less shards after h k less (old.nothing (sym less.id ∙ none));
          own = λ id is. own_less shards after (behind_call now next m) r (writing k) r.met m (own_write id changes conditions) h k less (old.own id (sym less.id ∙ is));
          same_decision = less.decided ∙ old.same_decision;
          batch = λ b is. old.batch b (less.batch b is);
          out = λ met is. old.out met (sym same_way ∙ is);
          cancelled = λ is none. let way = old.cancelled is none in (way.0, same_way ∙ way.1);
          refused_or_cancelled = λ is. old.refused_or_cancelled (sym same_way ∙ is);
        })

    -- a refusal with its cause, of a flow that has not decided, is not Unsure
    sure_of : (n : NodeName) (ran : Moment) (e : Refusal) → r.decided ≡ None → HasItsCause shards n now ran r e → e ≢ Unsure
    sure_of n ran e none cause is = ⊎_elim
        (λ own. let d = subst (IsCause shards n now ran r) is own in let both : None ≡ Some d.0 = sym none ∙ d.1 in cc)
        (λ away. not_unsure e (call.stands.nodes.sound n e (still_refused n (now.nodes.at n) (next.at n) e (turns_at n) away.1)) is)
        cause

    pub go_out : (h k : WriteHolds) (changes : List Change) (conditions : List Condition) (e : Refusal) → r.asked ≡ to_write changes conditions → r.holds ≡ writing h → HoldsLess h k → k.way ≡ outward (Some e)
        → r.decided ≡ None → HasItsCause shards call.node now (going_on now next m (with_call r (writing k) (Some e) m)) r e
        → Stands store shards after (going_on now next m (with_call r (writing k) (Some e) m)) × Turns shards known_before now r (told_unless r.is_cancelled) (going_on now next m (with_call r (writing k) (Some e) m))
    go_out h k changes conditions e asked holds less goes_out none cause = go_on (writing k) (Some e)
        (record { call = call; running = running; same_id = less.id ∙ sym (ap id_of holds); right = right })
        (inr (e, refl, cause))
      where
        sure : (f : Refusal) → HasItsCause shards call.node now (going_on now next m (with_call r (writing k) (Some e) m)) r f → f ≢ Unsure
        sure f its = sure_of call.node (going_on now next m (with_call r (writing k) (Some e) m)) f none its

        old : IsRightWrite shards after (behind_call now next m) r changes conditions h
        old = was h changes conditions asked holds

        right : IsRight shards after (behind_call now next m) (with_call r (writing k) (Some e) m) r.asked (writing k)
        right = subst (λ a. IsRight shards after (behind_call now next m) (with_call r (writing k) (Some e) m) a (writing k)) (sym asked) (record {
          nothing = λ no_id. nothing_less shards after h k less (old.nothing (sym less.id ∙ no_id));
          own = λ id is. own_less shards after (behind_call now next m) r (writing k) (Some e) m (own_write id changes conditions) h k less (old.own id (sym less.id ∙ is));
          same_decision = less.decided ∙ old.same_decision;
          batch = λ b is. old.batch b (less.batch b is);
          out = λ met is. (
            none,
            λ f is_f.
                let both : outward (Some e) ≡ outward (Some f) = sym goes_out ∙ is ∙ ap outward is_f in
                let same : e ≡ f = cc in
                (ap (λ (x : Refusal). Some x) same, λ unsure. sure e cause (same ∙ unsure)),
          );
          cancelled = λ is undecided. (Some e, goes_out);
          refused_or_cancelled = λ is. let both : outward (Some e) ≡ outward None = sym goes_out ∙ is in absurd cc;
        })

pub quiet_calls_keep : (store shards : ℕ) (left after : NodeName → List Record → Type 0) → QuietCallsKeep store shards left after
quiet_calls_keep store shards left after now next m r b call running right_batch = go_on store shards left after now next m call r running (with_batch b r.holds) r.met
    (record {
      call = call;
      running = running;
      same_id = same_write b r.holds;
      right = sees_on shards after (behind_call now next m) r (with_batch b r.holds) m b right_batch r.asked r.holds (call.stands.flows.held r running);
    })
    (inl refl)

pub quiet_calls_turn : (store shards : ℕ) (left after : NodeName → List Record → Type 0) → QuietCallsTurn store shards left after
quiet_calls_turn store shards left after now next m r holds met step has_met = go_on store shards left after now next m step.call r step.running holds met step has_met

pub quiet_calls_answer : (store shards : ℕ) (left after : NodeName → List Record → Type 0) → QuietCallsAnswer store shards left after
quiet_calls_answer store shards left after now next m r holds a call running same_id alive agrees right = answer store shards left after now next m call r running holds a same_id alive agrees right

pub quiet_calls_refuse : (store shards : ℕ) (left after : NodeName → List Record → Type 0) → QuietCallsRefuse store shards left after
quiet_calls_refuse store shards left after now next m r e call running alive not_unsure none has_met = refuse store shards left after now next m call r running e alive not_unsure none has_met

pub quiet_calls_end : (store shards : ℕ) (left after : NodeName → List Record → Type 0) → QuietCallsEnd store shards left after
quiet_calls_end store shards left after now next m r call running cancelled = end_quietly store shards left after now next m call r running cancelled

pub refused_writes_go_out : (store shards : ℕ) (left after : NodeName → List Record → Type 0) → RefusedWritesGoOut store shards left after
refused_writes_go_out store shards left after now next m r h k changes conditions e call running asked holds less goes_out none cause =
    go_out store shards left after now next m call r running h k changes conditions e asked holds less goes_out none cause

pub writes_spend : (store shards : ℕ) (left after : NodeName → List Record → Type 0) → WritesSpend store shards left after
writes_spend store shards left after now next m r h k changes conditions call running asked holds less same_way = spend store shards left after now next m call r running h k changes conditions asked holds less same_way

pub refused_flows_end : (store shards : ℕ) (left after : NodeName → List Record → Type 0) → RefusedFlowsEnd store shards left after
refused_flows_end store shards left after now next m r e call running no_write sure cause =
    let quiet = call.stands.flows.quiet r running no_write in
    refuse store shards left after now next m call r running e quiet.1 (λ none. sure) (λ other. quiet.0) (inr (e, refl, cause))

pub away_nodes_have_cause : (store shards : ℕ) (left after : NodeName → List Record → Type 0) → AwayNodesHaveCause store shards left after
away_nodes_have_cause store shards left after now behind r n e st same calls away = ⊎_elim
    (λ gone. (
      subst (HasItsCause shards n now behind r) (sym gone.1) (inl (calls, inl (ap (λ (nodes : Nodes). nodes.at n) same ∙ gone.0))),
      λ is. let both : Down ≡ Unsure = sym gone.1 ∙ is in cc,
    ))
    (λ refused_is. (inr (calls, refused_is), λ is. not_unsure e (st.nodes.sound n e refused_is) is))
    away

-- a call that changes nothing is quiet, of whatever node
pub nothing_changes : (store shards : ℕ) (left : NodeName → List Record → Type 0) (now : Moment) → Stands store shards left now → IsQuietCall store shards left left now now.nodes now.machine
nothing_changes store shards left now st = record {
  stands = st;
  moves = [];
  machine = refl;
  quiet = All-nil (IsQuiet (MayRise shards (IsHorizonIn store shards left now.nodes) now));
  node = coordinator;
  others = record { others = λ n ne. refl; open_writes = λ ne. refl; given = λ ne. refl };
  called = inl refl;
  open_writes = record { open_writes = refl; given = refl };
}

-- and so it is of the node that was called
abbrev pub of_node : (store shards : ℕ) (left after : NodeName → List Record → Type 0) (now : Moment) (m : Machine) (n : NodeName) → IsQuietCall store shards left after now now.nodes m
    → IsQuietCall store shards left after now now.nodes m
of_node store shards left after now m n call = record {
  stands = call.stands;
  moves = call.moves;
  machine = call.machine;
  quiet = call.quiet;
  node = n;
  others = record { others = λ k ne. refl; open_writes = λ ne. refl; given = λ ne. refl };
  called = inl refl;
  open_writes = call.open_writes;
}

-- what a flow that is asked this and holds this calls, the flow calls
pub calls_on : (shards : ℕ) (r : Running) (asked : Asked) (holds : Holds) (n : NodeName) → r.asked ≡ asked → r.holds ≡ holds → Calls shards asked holds n → Calls shards r.asked r.holds n
calls_on shards r asked holds n asks held calls = subst (λ (a : Asked). Calls shards a r.holds n) (sym asks) (subst (λ (h : Holds). Calls shards asked h n) (sym held) calls)

-- a flow that lets a shard learn takes memory
pub lets_take_memory : (asked : Asked) → LetsLearn asked → TakesMemory asked
lets_take_memory (to_write changes conditions) lets = tt
lets_take_memory (to_read fresh sets) lets = tt
lets_take_memory (to_check fresh x u) lets = tt
lets_take_memory (to_watch c limit names) lets = absurd lets
lets_take_memory (to_flush n) lets = tt
lets_take_memory (to_learn s) lets = tt
lets_take_memory (to_resolve s) lets = tt
lets_take_memory (to_raise x) lets = tt
lets_take_memory (to_collect s) lets = absurd lets

-- so is one that stages a record, which is not an opening, if the store still stands
pub one_more_staged : (store shards : ℕ) (left : NodeName → List Record → Type 0) (now : Moment) (next : Nodes) (n : NodeName) (r : Record) → StagesAt n r now.nodes next
    → ((epoch store' shards' node : ℕ) → r ≡ Epoch epoch store' shards' node → ⊥) → next.open_writes ≡ now.nodes.open_writes → next.given ≡ now.nodes.given
    → Stands store shards left (with_nodes now next) → IsQuietCall store shards left left now next now.machine
one_more_staged store shards left now next n r step no_opening open_writes given st = record {
  stands = st;
  moves = [];
  machine = refl;
  quiet = All-nil (IsQuiet (MayRise shards (IsHorizonIn store shards left now.nodes) now));
  node = n;
  others = step.others;
  called = inr (inl (record { durable = step.durable; staged = step.staged; next = r; was = step.was; now = step.now; no_opening = no_opening }));
  open_writes = record { open_writes = open_writes; given = given };
}

-- If a node stages a record that is not an opening, its flow's turn is one of a run, whatever it then holds under its id.
pub staged_and_goes_on : (store shards : ℕ) (left : NodeName → List Record → Type 0) (now : Moment) (next : Nodes) (n : NodeName) (record_staged : Record) → StagesAt n record_staged now.nodes next
    → ((epoch store' shards' node : ℕ) → record_staged ≡ Epoch epoch store' shards' node → ⊥) → next.open_writes ≡ now.nodes.open_writes → next.given ≡ now.nodes.given
    → (r : Running) → Contains now.running r → (holds : Holds) → id_of holds ≡ id_of r.holds
    → Turns shards (IsHorizonIn store shards left now.nodes) now r (told_unless r.is_cancelled) (going_on now next now.machine (with_call r holds r.met now.machine))
staged_and_goes_on store shards left now next n record_staged step no_opening open_writes given r running holds same_id = goes_on_as store shards left now next now.machine
    (record {
      moves = [];
      machine = refl;
      quiet = All-nil (IsQuiet (MayRise shards (IsHorizonIn store shards left now.nodes) now));
      node = n;
      others = step.others;
      called = inr (inl (record { durable = step.durable; staged = step.staged; next = record_staged; was = step.was; now = step.now; no_opening = no_opening }));
      open_writes = record { open_writes = open_writes; given = given };
    })
    r running holds r.met same_id (inl refl)
