use Rattle.std.proofs.Common.{Bool, ℕ, Some, Vec, Global, map, sym, ◌∙◌, ap, subst}
use Rattle.journal.specs.Summaries.{IsChosen}
use Rattle.journal.proofs.Summaries.{chosen_a, chosen_b}
use Rattle.journal.proofs.summary.choose.Goals as goal

pub returns-then-is_b-clause-ok : goal.returns-then-is_b-clause-ok
returns-then-is_b-clause-ok c =
    let in_a = map (λ (b : Vec ℕ Global). b.items) c.args.in_a.items in
    let in_b = map (λ (b : Vec ℕ Global). b.items) c.args.in_b.items in
    let of_a = rw c.deref.ensures.value at c.in_ok-a.ensures.ok in
    let of_b = rw c.deref-2.ensures.value at c.in_ok-b.ensures.ok in
    subst (λ (is_b : Bool). IsChosen in_a in_b is_b c.in_ok-b.b.generation c.new.result.records) (sym c.if-is_b.true)
    (chosen_b in_a in_b c.in_ok-a.a c.in_ok-b.b of_a of_b c.new.result.records (λ rs ss a_is b_is. ap (λ (b : Bool). Some b) (sym c.if-is_b.true) ∙ c.in-Some.ensures rs ss a_is b_is) c.new.ensures)

pub returns-clause-ok : goal.returns-clause-ok
returns-clause-ok c =
    let in_a = map (λ (b : Vec ℕ Global). b.items) c.args.in_a.items in
    let in_b = map (λ (b : Vec ℕ Global). b.items) c.args.in_b.items in
    let of_a = rw c.deref.ensures.value at c.in_ok-a.ensures.ok in
    let of_b = rw c.deref-2.ensures.value at c.in_ok-b.ensures.ok in
    subst (λ (is_b : Bool). IsChosen in_a in_b is_b c.in_ok-a.a.generation c.new-2.result.records) (sym c.if-is_b.false)
    (chosen_a in_a in_b c.in_ok-a.a c.in_ok-b.b of_a of_b c.new-2.result.records (λ rs ss a_is b_is. ap (λ (b : Bool). Some b) (sym c.if-is_b.false) ∙ c.in-Some.ensures rs ss a_is b_is) c.new-2.ensures)
