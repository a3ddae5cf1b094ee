-- What the flows that run were asked: what turns leave of it.
use Rattle.std.proofs.Common.{◌≡◌, ⊎_elim, ◌==◌, ℕ, zero, suc, Bool, true≢false, cond, eq-eqb, is_some, List, [], ◌∷◌, Option, None, Some, refl, sym, ◌∙◌, ap, subst, arith, if◌then◌else◌}
use Rattle.std.proofs.lemmas.Bool.{cases_Bool}
use Rattle.std.proofs.lemmas.List.Sums.{sum_by-cons}
use Rattle.std.proofs.lemmas.Option.{same_Some}
use Rattle.cluster.specs.declared.flow.Flow.{Flow}
use Rattle.reshard_laws.proofs.Words.{Asked, ended, flow_at, flow_count, Moment, replaced, Running, Shows, StandsOver, State, Store, WorldView}
use Rattle.cluster.specs.Worlds.{flow_at as flow_in}
use Rattle.headline.specs.Shown.{IsShownSlot}
use Rattle.stores.specs.Stores.{FlowView, ShowsSlot}

-- what each flow was asked has P
abbrev pub Each : (Asked → Type 0) → List Running → Type 0
Each P [] = Unit {0}
Each P (r ∷ rs) = P r.asked × Each P rs

module _ (P : Asked → Type 0) where
  pub each_replaced : (later : Running) (rs : List Running) → P later.asked → Each P rs → Each P (replaced later rs)
  each_replaced later [] is each = tt
  each_replaced later (q ∷ rs) is each = ⊎_elim
      (λ here. subst (λ (b : Bool). Each P (if b then later ∷ rs else q ∷ replaced later rs)) (sym here) (is, each.1))
      (λ other. subst (λ (b : Bool). Each P (if b then later ∷ rs else q ∷ replaced later rs)) (sym other) (each.0, each_replaced later rs is each.1))
      (cases_Bool (q.slot == later.slot))

  pub each_ended : (slot : ℕ) (rs : List Running) → Each P rs → Each P (ended slot rs)
  each_ended slot [] each = tt
  each_ended slot (q ∷ rs) each = ⊎_elim
      (λ here. subst (λ (b : Bool). Each P (if b then rs else q ∷ ended slot rs)) (sym here) each.1)
      (λ other. subst (λ (b : Bool). Each P (if b then rs else q ∷ ended slot rs)) (sym other) (each.0, each_ended slot rs each.1))
      (cases_Bool (q.slot == slot))

  pub each_at : (slot : ℕ) (rs : List Running) (r : Running) → Each P rs → flow_at slot rs ≡ Some r → P r.asked
  each_at slot [] r each is = absurd cc
  each_at slot (q ∷ rs) r each is = ⊎_elim
      (λ here.
      let same : q ≡ r = same_Some q r (sym (ap (λ (b : Bool). if b then Some q else flow_at slot rs) here) ∙ is) in
      subst (λ (x : Running). P x.asked) same each.0)
      (λ other. each_at slot rs r each.1 (sym (ap (λ (b : Bool). if b then Some q else flow_at slot rs) other) ∙ is))
      (cases_Bool (q.slot == slot))

-- ---- a world in which no flow runs

-- if no slot has a flow none runs
none_runs : (rs : List Running) → ((slot : ℕ) → flow_at slot rs ≡ None) → rs ≡ []
none_runs [] none = refl
none_runs (q ∷ rs) none = absurd (⊎_elim
    (λ here. let bad : Some q ≡ None = sym (ap (λ (b : Bool). if b then Some q else flow_at q.slot rs) here) ∙ none q.slot in absurd cc)
    (λ other. true≢false (sym (eq-eqb q.slot q.slot refl) ∙ other))
    (cases_Bool (q.slot == q.slot)))

none_in : (flows : List (Option Flow)) → flow_count flows ≡ 0 → (slot : ℕ) → flow_in flows slot ≡ None
none_in [] none slot = refl
none_in (None ∷ flows) none zero = refl
none_in (None ∷ flows) none (suc slot) = none_in flows (let e = sum_by-cons (λ (f : Option Flow). cond (is_some f) 1 0) None flows in omega (arith, e, none)) slot
none_in (Some f ∷ flows) none slot = absurd (let e = sum_by-cons (λ (f : Option Flow). cond (is_some f) 1 0) (Some f) flows in omega (arith, e, none))

none_shown : (n : ℕ) (r : Option Running) (v : Option FlowView) (f : Option Flow) → ShowsSlot r v → IsShownSlot n f v → f ≡ None → r ≡ None
none_shown n None v f shows shown none = refl
none_shown n (Some r) None f shows shown none = absurd shows
none_shown n (Some r) (Some v) None shows shown none = absurd shown
none_shown n (Some r) (Some v) (Some f) shows shown none = absurd cc

pub none_running : {D : Type 0} (state : D → State) (honest : D → Type 0) (store shards : ℕ) (w : WorldView D) (s : Store D) (now : Moment) → Shows w s → StandsOver state honest store shards s now → flow_count w.flows ≡ 0 → now.running ≡ []
none_running state honest store shards w s now shows stands none =
    none_runs now.running (λ slot. none_shown w.shards (flow_at slot now.running) (s.flows slot) (flow_in w.flows slot) (stands.flows slot) (shows.flows slot) (none_in w.flows none slot))
