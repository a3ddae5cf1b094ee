use Rattle.tuples.specs.Order.{tuple_cmp}
use Rattle.std.proofs.Common.{◌≡◌, Bool, true, false, ◌∷◌, Some, None, cond, sym, ap, ◌∙◌, rules}
use Rattle.std.specs.Prelude.{is_some}
use Rattle.std.specs.BTreeMap.{is_at}
use Rattle.versions.proofs.Tied.{same_tie}
use Rattle.versions.specs.Rows.{found}
use Rattle.tuples.proofs.Ordered.{tuple_eq_symm}
use Rattle.versions.proofs.Tables.{Entries}
use Rattle.versions.proofs.table.is_among.Goals as goal

pub returns-then-is_same : goal.returns-then-is_same
returns-then-is_same c =
    let t = c.args.named.now in
    let u = c.in-Some.key.now in
    let rest : Entries = c.next.new.self in
    let cut : c.loop-key.key-iterator ≡ (u, c.in-Some._rows.now) ∷ rest = search rules in
    let here : is_at (tuple_cmp t) u ≡ true = same_tie t u ∙ tuple_eq_symm t u ∙ sym c.is_same.ensures ∙ c.if-is_same.true in
    sym (sym c.loop-key.invariant ∙ ap (λ (l : Entries). is_some (found t l)) cut ∙ ap (λ (b : Bool). is_some (cond b (Some c.in-Some._rows.now) (found t rest))) here)

pub loop-key-preserved : goal.loop-key-preserved
loop-key-preserved c =
    let t = c.args.named.now in
    let u = c.in-Some.key.now in
    let rest : Entries = c.next.new.self in
    let cut : c.loop-key.key-iterator ≡ (u, c.in-Some._rows.now) ∷ rest = search rules in
    let other : is_at (tuple_cmp t) u ≡ false = same_tie t u ∙ tuple_eq_symm t u ∙ sym c.is_same.ensures ∙ c.if-is_same.false in
    sym (ap (λ (b : Bool). is_some (cond b (Some c.in-Some._rows.now) (found t rest))) other) ∙ sym (ap (λ (l : Entries). is_some (found t l)) cut) ∙ c.loop-key.invariant
