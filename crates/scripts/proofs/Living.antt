-- A script over empty disks is one life of a store, or one after another.
use Rattle.std.proofs.Common.{◌≡◌, ◌≤◌, ◌+◌, ◌*◌, ◌++◌, ℕ, List, [], ◌∷◌, All, Option, length, refl, subst, sym, ◌∙◌}
use Rattle.std.proofs.lemmas.List.Elements.{All-cons, All-nil, All-weaker}
use Rattle.cluster.specs.Openings.{IsOpenedOver}
use Rattle.cluster.specs.Steps.{Takes}
use Rattle.cluster.specs.Worlds.{WorldView}
use Rattle.device.specs.Device.{State}
use Rattle.device.specs.Disk.{is_set_to_fail, left_since_of, moment_of, state_of}
use Rattle.device.specs.declared.sim_disk.SimDisk.{SimDisk}
use Rattle.device.specs.declared.tear.Tear.{Tear}
use Rattle.headline.specs.Acts.{Acted, ActedHeadline, LivesActing, steps_in}
use Rattle.headline.specs.Promised.{devices_at}
use Rattle.headline.specs.Told.{IsWholeStep}
use Rattle.laws.specs.Machines.{Machine}
use Rattle.reshard_laws.specs.Carried.{KeepsAndCarries, WhatIsCarriedOverRests}
use Rattle.scripts.specs.Resharding.{IsMoved, IsReady, Reshards}
use Rattle.scripts.specs.Runs.{Prints, last_line}
use Rattle.scripts.specs.Scripts.{ScriptView}
use Rattle.scripts.specs.Sims.{BrokeOver, IsEmptyDisk, RanOver, begun}
use Rattle.scripts.specs.Stepping.{IsNext, SetsScript, ShowsRows, shards_in}
use Rattle.tuples.specs.Limits.{max_shards}
use Rattle.tuples.specs.declared.entry.WriteId.{WriteId}
use Rattle.stores.specs.NewStores.{empty_machine}
use Rattle.stores.specs.Stores.{IsToldOver, RestsOver, StandsOver}
use Rattle.scripts.specs.Deeds.{Deed, Story, took, set, acts_of, done_for, more_lives, one_life, told_by}
use Rattle.scripts.specs.Lives.{BrokeAsLife, Lives, RanAsLife}
use Rattle.scripts.proofs.Done.{Did, Went, lines_went}
use Rattle.scripts.proofs.Empty.{empty_disks_rest}
use Rattle.scripts.proofs.SameStore.{cares_keep}

module _ {D : Type 0} (set_to : D → ℕ → Tear → Type 0) (state : D → State) (honest : D → Type 0) (moment : D → ℕ) (left_since : D → ℕ → List ℕ → Type 0) where
  acted : (deeds : List Deed) (old new : WorldView D) → Did (Takes state honest moment left_since) (SetsScript set_to state honest moment left_since) old deeds new
      → Acted set_to state honest moment left_since old (acts_of deeds) (told_by deeds) new
  acted [] old new is = (refl, is)
  acted (took s told ∷ deeds) old new d = (d.0, told, told_by deeds, d.1, acted deeds d.0 new d.3, refl)
  acted (set name bank n tear ∷ deeds) old new d = (d.0, record { nodes = d.1.0; rest = d.1.1 }, acted deeds d.0 new d.2)

  whole : (deeds : List Deed) (old new : WorldView D) → Did (Takes state honest moment left_since) (SetsScript set_to state honest moment left_since) old deeds new
      → All IsWholeStep (steps_in (acts_of deeds))
  whole [] old new is = All-nil IsWholeStep
  whole (took s told ∷ deeds) old new d = All-cons IsWholeStep s (steps_in (acts_of deeds)) d.2 (whole deeds d.0 new d.3)
  whole (set name bank n tear ∷ deeds) old new d = whole deeds d.0 new d.2

module _ {D : Type 0} (gives : D → Type 0) (set_to : D → ℕ → Tear → Type 0) (state : D → State) (honest : D → Type 0) (moment : D → ℕ) (left_since : D → ℕ → List ℕ → Type 0) (any : D)
    (law : (store shards : ℕ) → ActedHeadline set_to state honest moment left_since store shards) (carrying : WhatIsCarriedOverRests state honest moment left_since) (fine : (d : D) → gives d → honest d) where
  abbrev WentOn : WorldView D → Story (WorldView D) → WorldView D → Type 0
  WentOn = Went (Takes state honest moment left_since) (SetsScript set_to state honest moment left_since) IsNext (ShowsRows state honest) (Reshards gives state honest moment left_since) shards_in

  -- what was done to a store until it was carried over is a life of it
  lives_acting : (store shards : ℕ) (devices : List D) (m : Machine) (ids : List WriteId) (opened new : WorldView D) (deeds : List Deed) → 1 ≤ shards → shards ≤ max_shards → length devices ≡ 2 * (shards + 1)
      → RestsOver state honest store shards (devices_at any devices) m → All (IsToldOver state honest store shards (devices_at any devices) m) ids
      → IsOpenedOver state honest moment left_since store shards devices opened → Did (Takes state honest moment left_since) (SetsScript set_to state honest moment left_since) opened deeds new
      → LivesActing set_to state honest moment left_since store shards (devices_at any devices) m ids opened (acts_of deeds) (told_by deeds) new
  lives_acting store shards devices m ids opened new deeds some few count rests told is did =
      law store shards any devices opened new (acts_of deeds) (told_by deeds) m ids some few count rests told is
      (whole set_to state honest moment left_since deeds opened new did) (acted set_to state honest moment left_since deeds opened new did)

  -- the devices of what it became rest where it stood after its cares
  carries_on : (store shards : ℕ) (devices : List D) (m : Machine) (ids : List WriteId) (opened was cared new : WorldView D) (deeds : List Deed) (to : ℕ) → 1 ≤ to → to ≤ max_shards
      → (life : LivesActing set_to state honest moment left_since store shards (devices_at any devices) m ids opened (acts_of deeds) (told_by deeds) was) → IsReady state honest was
      → (carried : IsMoved gives state honest moment left_since was cared to new) → KeepsAndCarries state honest moment left_since store shards to any life.acted.later life.acted.after cared carried.made
  carries_on store shards devices m ids opened was cared new deeds to some few life ready carried =
      let store_is = life.acted.store_is in
      let shards_is = life.acted.shards_is in
      let stands : StandsOver state honest was.store was.shards life.acted.later life.acted.after =
      subst (λ (n : ℕ). StandsOver state honest n was.shards life.acted.later life.acted.after) (sym store_is) (subst (λ (n : ℕ). StandsOver state honest store n life.acted.later life.acted.after) (sym shards_is) life.acted.stands) in
      let rest = carrying any was cared life.acted.later life.acted.after to carried.given carried.made some few life.acted.shows ready.0 stands carried.cared_for carried.carried (All-weaker gives honest fine carried.given carried.fresh) in
      subst (λ (n : ℕ). KeepsAndCarries state honest moment left_since n shards to any life.acted.later life.acted.after cared carried.made) store_is
      (subst (λ (n : ℕ). KeepsAndCarries state honest moment left_since was.store n to any life.acted.later life.acted.after cared carried.made) shards_is rest)

  -- and its story one life after another
  pub lives : (store shards : ℕ) (devices : List D) (m : Machine) (ids : List WriteId) (opened : WorldView D) (story : Story (WorldView D)) (new : WorldView D) → 1 ≤ shards → shards ≤ max_shards
      → length devices ≡ 2 * (shards + 1) → RestsOver state honest store shards (devices_at any devices) m → All (IsToldOver state honest store shards (devices_at any devices) m) ids
      → IsOpenedOver state honest moment left_since store shards devices opened → WentOn opened story new → Lives gives set_to state honest moment left_since any store shards (devices_at any devices) m ids opened story new
  lives store shards devices m ids opened (one_life deeds) new some few count rests told is went = lives_acting store shards devices m ids opened new deeds some few count rests told is went
  lives store shards devices m ids opened (more_lives deeds move story) new some few count rests told is went =
      let life = lives_acting store shards devices m ids opened move.was deeds some few count rests told is went.0 in
      let carried = went.1.moved.1 in
      let now_opened = subst (λ (id : ℕ). IsOpenedOver state honest moment left_since id move.shards carried.made move.new) (cares_keep state honest moment left_since move.was move.cared went.1.cares ∙ life.acted.store_is) carried.opened in (
        life,
        went.1.cares,
        went.1.moved.0,
        carried,
        carries_on store shards devices m ids opened move.was move.cared move.new deeds move.shards went.1.some went.1.few life went.1.moved.0 carried,
        λ later more rests_later told_later.
            lives store move.shards carried.made later more move.new story new went.1.some went.1.few carried.count rests_later told_later now_opened went.2,
      )

module _ (store shards : ℕ) (some : 1 ≤ shards) (few : shards ≤ max_shards) (law : (id count : ℕ) → ActedHeadline is_set_to_fail state_of (λ (d : SimDisk). Unit {0}) moment_of left_since_of id count)
    (carrying : WhatIsCarriedOverRests state_of (λ (d : SimDisk). Unit {0}) moment_of left_since_of) (disks : List SimDisk) (empty : All IsEmptyDisk disks) (in_before in_after out_before out_after : Option (List ℕ)) where
  story_lives : (any : SimDisk) (opened : WorldView SimDisk) (lines : List (List ℕ)) (text : List ℕ) (after : ScriptView (WorldView SimDisk)) → length disks ≡ 2 * (shards + 1)
      → IsOpenedOver state_of (λ (d : SimDisk). Unit {0}) moment_of left_since_of store shards disks opened
      → (p : Prints (Takes state_of (λ (d : SimDisk). Unit {0}) moment_of left_since_of) IsNext (ShowsRows state_of (λ (d : SimDisk). Unit {0})) (SetsScript is_set_to_fail state_of (λ (d : SimDisk). Unit {0}) moment_of left_since_of)
      (Reshards IsEmptyDisk state_of (λ (d : SimDisk). Unit {0}) moment_of left_since_of) shards_in (begun store opened) lines text after)
      → Lives IsEmptyDisk is_set_to_fail state_of (λ (d : SimDisk). Unit {0}) moment_of left_since_of any store shards (devices_at any disks) empty_machine [] opened
      (done_for (Takes state_of (λ (d : SimDisk). Unit {0}) moment_of left_since_of) IsNext (ShowsRows state_of (λ (d : SimDisk). Unit {0})) (SetsScript is_set_to_fail state_of (λ (d : SimDisk). Unit {0}) moment_of left_since_of)
      (Reshards IsEmptyDisk state_of (λ (d : SimDisk). Unit {0}) moment_of left_since_of) shards_in (begun store opened) lines text after p) after.running.store
  story_lives any opened lines text after count is p =
      let takes = Takes state_of (λ (d : SimDisk). Unit {0}) moment_of left_since_of in
      let sets = SetsScript is_set_to_fail state_of (λ (d : SimDisk). Unit {0}) moment_of left_since_of in
      let shows = ShowsRows state_of (λ (d : SimDisk). Unit {0}) in
      let reshards = Reshards IsEmptyDisk state_of (λ (d : SimDisk). Unit {0}) moment_of left_since_of in
      let went = lines_went takes sets IsNext shows reshards shards_in (begun store opened) lines text after p in
      lives IsEmptyDisk is_set_to_fail state_of (λ (d : SimDisk). Unit {0}) moment_of left_since_of any law carrying (λ d is. tt) store shards disks empty_machine [] opened
      (done_for takes IsNext shows sets reshards shards_in (begun store opened) lines text after p) after.running.store
      some few count (empty_disks_rest store shards any disks count empty) (All-nil _) is went

  pub ran_as_life : RanOver IsEmptyDisk is_set_to_fail state_of (λ (d : SimDisk). Unit {0}) moment_of left_since_of store shards disks in_before in_after out_before out_after
      → RanAsLife IsEmptyDisk is_set_to_fail state_of (λ (d : SimDisk). Unit {0}) moment_of left_since_of store shards disks in_before in_after out_before out_after
  ran_as_life over = record { over = over; life = λ any. story_lives any over.world (over.ran.lines ++ last_line over.ran.last) over.ran.text over.after over.count over.opened over.ran.prints }

  pub broke_as_life : BrokeOver IsEmptyDisk is_set_to_fail state_of (λ (d : SimDisk). Unit {0}) moment_of left_since_of store shards disks in_before in_after out_before out_after
      → BrokeAsLife IsEmptyDisk is_set_to_fail state_of (λ (d : SimDisk). Unit {0}) moment_of left_since_of store shards disks in_before in_after out_before out_after
  broke_as_life over = record { over = over; life = λ any. story_lives any over.world over.broke.answered over.broke.text over.after over.count over.opened over.broke.prints }
