-- What a stop leaves of the new coordinator, at every moment of a resharding.
use Rattle.std.proofs.Common.{◌≡◌, ◌⊎◌, ◌+◌, ◌-◌, inl, inr, ⊎_elim, ℕ, false, List, [], ◌∷◌, ◌++◌, All, Some, drop, refl, sym, ◌∙◌, ap, subst, arith}
use Rattle.std.proofs.lemmas.List.Elements.{All-head, All-tail}
use Rattle.calls.specs.Views.{coordinator}
use Rattle.reshard_laws.proofs.Words.{BegunView, Coordinator, coordinator_number, CoordinatorView, decisions_from, devices_of, Epoch, IsRunning, left, memory_of, node_at, Reach, Record, State, Version, WorldView}
use Rattle.decisions.specs.Checkpoints.{carried_checkpoint}
use Rattle.device.specs.Device.{LeavesOnly}
use Rattle.device.proofs.Moments.{leaves_map, leaves_then}
use Rattle.journal.specs.Ahead.{checkpoint_of}
use Rattle.journal.specs.Beginnings.{HasBeginsOr, HasNone, HasNoneOrBegins, HasNoneOrNeverOpens, NeverOpensOr}
use Rattle.journal.specs.Records.{LeavesEach}
use Rattle.journal.proofs.Beginnings.{each_begun, each_finished, none_first, stays_none}
use Rattle.records.specs.declared.record.Record.TheVariants.{Horizon}
use Rattle.records.specs.Checkpoints.{coordinator_checkpoint}
use Rattle.reshard.specs.Written.{AreLeft, AreWrittenInOrder, EndsLog, HasBegunOn, IsEmpty, IsLeftOver, OnlyBegins}
use Rattle.reshard_laws.specs.Moments.{AllOrNothing, LeavesAllOrNothing, NewCoordinatorsAreWhole}

-- ---- two contents

-- contents as devices that never change
abbrev same_since : List ℕ → ℕ → List ℕ → Type 0
same_since x t c = c ≡ x

abbrev no_time : List ℕ → ℕ
no_time x = 0

as_device : (P : List ℕ → Type 0) (x : List ℕ) → P x → LeavesOnly no_time same_since x x P
as_device P x is = record { later = omega arith; each = λ c same. subst P (sym same) is; before = λ t c le was. inl was }

abbrev holds : List ℕ → State
holds c = record { seen = c; durable = c; written = []; stopped = false; failures = 0 }

found_begun : (x y : List ℕ) → HasNoneOrBegins x → HasNone y → HasNoneOrNeverOpens x y
found_begun x y in_x in_y = (each_begun holds no_time same_since x y x y (as_device HasNoneOrBegins x in_x) (as_device HasNone y in_y)).each x y refl refl

found_ended : (rs : List Record) (x y : List ℕ) → HasBeginsOr (checkpoint_of 1 rs) x → HasNone y → NeverOpensOr (checkpoint_of 1 rs) x y
found_ended rs x y in_x in_y = (each_finished holds no_time same_since rs x y x y (as_device (HasBeginsOr (checkpoint_of 1 rs)) x in_x) (as_device HasNone y in_y)).each x y refl refl

-- bank a has nothing, a begin, or all
abbrev NoneOrBeginsOr : List Record → List ℕ → Type 0
NoneOrBeginsOr rs c = HasNoneOrBegins c ⊎ HasBeginsOr rs c

pair_is : (rs : List Record) (x y : List ℕ) → NoneOrBeginsOr (checkpoint_of 1 rs) x → HasNone y → AllOrNothing (checkpoint_of 1 rs) x y
pair_is rs x y (inl begun) none = ⊎_elim (λ is. inl is) (λ is. inr (inl is)) (found_begun x y begun none)
pair_is rs x y (inr ended) none = ⊎_elim (λ is. inr (inl is)) (λ is. inr (inr is)) (found_ended rs x y ended none)

-- what is carried over is a first checkpoint
carried_is : {D : Type 0} (shards : ℕ) (v : CoordinatorView D) → (rs : List Record) × (carried_checkpoint shards v ≡ checkpoint_of 1 rs)
unfolding coordinator_checkpoint
carried_is shards v = (
  Epoch (memory_of v).epoch v.me.store shards coordinator_number ∷ Horizon (memory_of v).horizon ∷ decisions_from ((memory_of v).horizon + 1) (drop ((memory_of v).horizon - (memory_of v).base) (memory_of v).log),
  refl,
)

module _ {D : Type 0} (state : D → State) (honest : D → Type 0) (moment : D → ℕ) (left_since : D → ℕ → List ℕ → Type 0) (only_now : (d : D) (c : List ℕ) → honest d → left_since d (moment d) c → left (state d) c) where
  abbrev Empty : D → Type 0
  Empty = IsEmpty state honest moment left_since

  both_leave : (rs : List Record) (a b c d : D) → LeavesOnly moment left_since a c (NoneOrBeginsOr (checkpoint_of 1 rs)) → LeavesOnly moment left_since b d HasNone → LeavesEach moment left_since a b c d (AllOrNothing (checkpoint_of 1 rs))
  both_leave rs a b c d l m = record { later_a = l.later; later_b = m.later; each = λ x y in_a in_b. pair_is rs x y (l.each x in_a) (m.each y in_b) }

  begun_leave : (rs : List Record) (a b c d : D) → OnlyBegins state honest moment left_since a b c d → LeavesEach moment left_since a b c d (AllOrNothing (checkpoint_of 1 rs))
  begun_leave rs a b c d o = both_leave rs a b c d (leaves_map moment left_since a c HasNoneOrBegins (NoneOrBeginsOr (checkpoint_of 1 rs)) (λ x is. inl is) o.first) o.second

  untouched : (rs : List Record) (a b : D) → Empty a → Empty b → LeavesEach moment left_since a b a b (AllOrNothing (checkpoint_of 1 rs))
  untouched rs a b in_a in_b = begun_leave rs a b a b (record {
    first = none_first state moment left_since a a (stays_none state moment left_since a in_a.none (λ c is. only_now a c in_a.is_honest is));
    second = stays_none state moment left_since b in_b.none (λ c is. only_now b c in_b.is_honest is);
  })

  module _ (old : WorldView D) (v : CoordinatorView D) (shards : ℕ) (at : node_at old.nodes Coordinator ≡ Some (coordinator v)) (runs : IsRunning state honest v) where
    abbrev rs : List Record
    rs = (carried_is shards v).0

    abbrev Leaves : D → D → D → D → Type 0
    Leaves a b c d = LeavesEach moment left_since a b c d (AllOrNothing (checkpoint_of 1 rs))

    -- the end of the coordinator's was tried
    ended : (given : List D) (head last : BegunView D) (h : HasBegunOn state honest moment left_since given head) → EndsLog state honest moment left_since old shards head last → Empty h.a → Empty h.b → Leaves h.a h.b last.a last.b
    ended given head last h ends in_a in_b =
        let o = h.moments in_a in_b in
        let e = ends v at runs h.is_open (h.still_honest in_a.is_honest) in
        let tried : LeavesOnly moment left_since head.a last.a (HasBeginsOr (checkpoint_of 1 rs)) = subst (λ (l : List Record). LeavesOnly moment left_since head.a last.a (HasBeginsOr l)) (carried_is shards v).1 e.0 in
        both_leave rs h.a h.b last.a last.b
        (leaves_then moment left_since h.a head.a last.a (NoneOrBeginsOr (checkpoint_of 1 rs))
        (leaves_map moment left_since h.a head.a HasNoneOrBegins (NoneOrBeginsOr (checkpoint_of 1 rs)) (λ x is. inl is) o.first)
        (leaves_map moment left_since head.a last.a (HasBeginsOr (checkpoint_of 1 rs)) (NoneOrBeginsOr (checkpoint_of 1 rs)) (λ x is. inr is) tried))
        (subst (λ (d : D). LeavesOnly moment left_since h.b d HasNone) (sym e.1) o.second)

    -- of all devices, the first two
    first_two : (given made : List D) (a b c d : D) (rest more : List D) → given ≡ a ∷ b ∷ rest → made ≡ c ∷ d ∷ more → All Empty given → (Empty a → Empty b → Leaves a b c d) → LeavesAllOrNothing state honest moment left_since (checkpoint_of 1 rs) given made
    first_two given made a b c d rest more given_is made_is all leaves a' b' c' d' rest' more' given_also made_also =
        let olds : a ∷ b ∷ rest ≡ a' ∷ b' ∷ rest' = sym given_is ∙ given_also in
        let news : c ∷ d ∷ more ≡ c' ∷ d' ∷ more' = sym made_is ∙ made_also in
        let is_a : a ≡ a' = cc in
        let is_b : b ≡ b' = cc in
        let is_c : c ≡ c' = cc in
        let is_d : d ≡ d' = cc in
        let both = subst (All Empty) given_is all in
        subst (λ (x : D). Leaves x b' c' d') is_a (subst (λ (x : D). Leaves a x c' d') is_b (subst (λ (x : D). Leaves a b x d') is_c (subst (λ (x : D). Leaves a b c x) is_d
        (leaves (All-head Empty a (b ∷ rest) both) (All-head Empty b rest (All-tail Empty a (b ∷ rest) both))))))

    module _ (given made : List D) (all : All Empty given) where
      written : (reach : Reach) (rows : List Version) → AreWrittenInOrder state honest moment left_since old shards reach rows given made → LeavesAllOrNothing state honest moment left_since (checkpoint_of 1 rs) given made
      written reach rows w = first_two given made w.begun.a w.begun.b w.ended.last.a w.ended.last.b w.begun.rest (devices_of w.ended.others) w.begun.given_is
          (w.made_is ∙ ap (λ (l : List (BegunView D)). devices_of l) w.ended.new_is) all (ended given w.head w.ended.last w.begun w.ended.ends)

      -- all of them came back as they were
      stays : made ≡ given → LeavesAllOrNothing state honest moment left_since (checkpoint_of 1 rs) given made
      stays same = λ a b c d rest more given_is made_is.
          let news : a ∷ b ∷ rest ≡ c ∷ d ∷ more = sym given_is ∙ sym same ∙ made_is in
          let is_c : a ≡ c = cc in
          let is_d : b ≡ d = cc in
          let both = subst (All Empty) given_is all in
          subst (λ (x : D). Leaves a b x d) is_c (subst (λ (x : D). Leaves a b a x) is_d
          (untouched rs a b (All-head Empty a (b ∷ rest) both) (All-head Empty b rest (All-tail Empty a (b ∷ rest) both))))

      left_so : (reach : Reach) (rows : List Version) → AreLeft state honest moment left_since old shards reach rows given made → LeavesAllOrNothing state honest moment left_since (checkpoint_of 1 rs) given made
      left_so reach rows (inl (inl same)) = stays same
      left_so reach rows (inl (inr p)) = first_two given made p.a p.b p.later_a p.later_b p.rest p.rest p.old_is p.new_is all (λ in_a in_b. begun_leave rs p.a p.b p.later_a p.later_b (p.moments in_a in_b))
      left_so reach rows (inr (head, begun, nodes, rest, made_is, inl (more, not))) =
          first_two given made begun.a begun.b head.a head.b begun.rest (devices_of more ++ rest) begun.given_is (made_is ∙ ap (λ (l : List (BegunView D)). devices_of l ++ rest) not) all
          (λ in_a in_b. begun_leave rs begun.a begun.b head.a head.b (begun.moments in_a in_b))
      left_so reach rows (inr (head, begun, nodes, rest, made_is, inr e)) =
          first_two given made begun.a begun.b e.last.a e.last.b begun.rest (devices_of e.others ++ rest) begun.given_is (made_is ∙ ap (λ (l : List (BegunView D)). devices_of l ++ rest) e.new_is) all
          (ended given head e.last begun e.ends)

      left_over : IsLeftOver state honest moment left_since old shards given made → LeavesAllOrNothing state honest moment left_since (checkpoint_of 1 rs) given made
      left_over (inl same) = stays same
      left_over (inr (reach, rows, reached, gathered, left)) = left_so reach rows left

  pub new_coordinators_are_whole : NewCoordinatorsAreWhole state honest moment left_since
  new_coordinators_are_whole old v shards given made at runs all =
      let is = sym (carried_is shards v).1 in
      record {
        written = λ reach rows w. subst (λ (l : List Record). LeavesAllOrNothing state honest moment left_since l given made) is (written old v shards at runs given made all reach rows w);
        left = λ l. subst (λ (r : List Record). LeavesAllOrNothing state honest moment left_since r given made) is (left_over old v shards at runs given made all l);
      }
