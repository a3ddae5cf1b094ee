-- What is put into a slot, one after another, and that flows of a store stay such.
use Rattle.std.proofs.Common.{◌≡◌, ◌∙◌, ℕ, List, [], Option, Some, None, MatchOption, inl, inr, sym, ap, subst}
use Rattle.std.proofs.lemmas.Bool.{cases_eq}
use Rattle.std.proofs.lemmas.Option.{same_Some}
use Rattle.slab.specs.Slab.{Slab, Updates}
use Rattle.names.specs.declared.call_name.CallName.{CallName}
use Rattle.cluster.specs.declared.event.What.{What}
use Rattle.cluster.specs.declared.event.What.TheVariants.{Next}
use Rattle.cluster.specs.declared.flow.Flow.{Flow}
use Rattle.cluster.specs.Flows.{IsNamed, IsOf, is_cancelled}
use Rattle.cluster.specs.Kept.{AreFlows}
use Rattle.cluster.specs.Steps.{GoesOn, unless}
use Rattle.cluster.specs.Worlds.{Puts, flow_at}

-- what a slab does to one key
pub puts : (old new : Slab Flow) (key : ℕ) (flow : Option Flow) → Updates old new key flow → Puts old.slots key flow new.slots
puts old new key flow u = record { at = u.changed; others = u.others }

-- what is put later stays
pub puts_over : (old mid new : List (Option Flow)) (slot : ℕ) (was is : Option Flow) → Puts old slot was mid → Puts mid slot is new → Puts old slot is new
puts_over old mid new slot was is first then = record { at = then.at; others = λ other differs. then.others other differs ∙ first.others other differs }

-- with one flow more or less, they are such flows
pub keeps : (shards : ℕ) (old new : List (Option Flow)) (slot : ℕ) (put : Option Flow) → Puts old slot put new → AreFlows shards old
    → ((flow : Flow) → put ≡ Some flow → IsOf shards flow) → AreFlows shards new
keeps shards old new slot put p all here =
    λ other flow is. elim (cases_eq other slot) [
      | inl same ↦ here flow (sym p.at ∙ ap (flow_at new) (sym same) ∙ is)
      | inr differs ↦ all other flow (sym (p.others other differs) ∙ is)
    ]

-- a flow that goes on in a slot from which it was taken
pub on_over : (old mid new : List (Option Flow)) (slot : ℕ) (was : Option Flow) (later : Flow) (told : Option What) → Puts old slot was mid → GoesOn mid slot later told new → GoesOn old slot later told new
on_over old mid new slot was later told first on = record { name = on.name; named = on.named; puts = puts_over old mid new slot was (Some later) first on.puts; tells = on.tells }

-- what is said by cases of a slot, or of a node, if the case is known
pub at_some : {X : Type 0} (here : Option X) (x : X) (P : Type 0) (Q : X → Type 0) → here ≡ Some x → Q x → MatchOption here P Q
at_some here x P Q is q = subst (λ (o : Option _). MatchOption o P Q) (sym is) q

pub at_none : {X : Type 0} (here : Option X) (P : Type 0) (Q : X → Type 0) → here ≡ None → P → MatchOption here P Q
at_none here P Q is p = subst (λ (o : Option _). MatchOption o P Q) (sym is) p

no_flow : (flow : Flow) (shards : ℕ) → None ≡ Some flow → IsOf shards flow
no_flow flow shards is = absurd (cc)

pub keeps_flow : (shards : ℕ) (old new : List (Option Flow)) (slot : ℕ) (flow : Flow) → Puts old slot (Some flow) new → AreFlows shards old → IsOf shards flow → AreFlows shards new
keeps_flow shards old new slot flow p all of = keeps shards old new slot (Some flow) p all (λ other is. subst (IsOf shards) (same_Some flow other is) of)

pub keeps_none : (shards : ℕ) (old new : List (Option Flow)) (slot : ℕ) → Puts old slot None new → AreFlows shards old → AreFlows shards new
keeps_none shards old new slot p all = keeps shards old new slot None p all (λ other is. no_flow other shards is)

-- what is put into a free slot goes on there
pub goes_on : (old new : List (Option Flow)) (slot : ℕ) (flow : Flow) (name : CallName) (told : Option What) → IsNamed flow name → Puts old slot (Some flow) new → told ≡ unless (is_cancelled flow) (Some (Next name)) → GoesOn old slot flow told new
goes_on old new slot flow name told named p tells = record { name = name; named = named; puts = p; tells = tells }

pub no_flows : (shards : ℕ) (flows : List (Option Flow)) → flows ≡ [] → AreFlows shards flows
no_flows shards flows none slot flow is = no_flow flow shards (sym (ap (λ (fs : List (Option Flow)). flow_at fs slot) none) ∙ is)
