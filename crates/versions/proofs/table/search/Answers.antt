use Rattle.std.proofs.Common.{◌≡◌, Bool, true, false, ◌∷◌, Some, cond, sym, ap, ◌∙◌, rules}
use Rattle.std.specs.BTreeMap.{is_at}
use Rattle.tuples.specs.Order.{tuple_cmp}
use Rattle.tuples.proofs.Ordered.{tuple_eq_symm}
use Rattle.versions.specs.Rows.{found}
use Rattle.versions.proofs.Tables.{Entries}
use Rattle.versions.proofs.Tied.{same_tie}
use Rattle.versions.proofs.table.search.Goals as goal

pub returns-then-is : goal.returns-then-is
returns-then-is c =
    let t = c.args.tuple.now in
    let u = c.in-Some.key.now in
    let h = c.in-Some.rows.now in
    let rest : Entries = c.next.new.self in
    let cut : c.loop-key.key-iterator ≡ (u, h) ∷ rest = search rules in
    let here : is_at (tuple_cmp t) u ≡ true = same_tie t u ∙ tuple_eq_symm t u ∙ sym c.is.ensures ∙ c.if-is.true in
    sym c.loop-key.invariant ∙ ap (λ (l : Entries). found t l) cut ∙ ap (λ (b : Bool). cond b (Some h) (found t rest)) here

pub loop-key-preserved : goal.loop-key-preserved
loop-key-preserved c =
    let t = c.args.tuple.now in
    let u = c.in-Some.key.now in
    let h = c.in-Some.rows.now in
    let rest : Entries = c.next.new.self in
    let cut : c.loop-key.key-iterator ≡ (u, h) ∷ rest = search rules in
    let other : is_at (tuple_cmp t) u ≡ false = same_tie t u ∙ tuple_eq_symm t u ∙ sym c.is.ensures ∙ c.if-is.false in
    sym (ap (λ (b : Bool). cond b (Some h) (found t rest)) other) ∙ sym (ap (λ (l : Entries). found t l) cut) ∙ c.loop-key.invariant
