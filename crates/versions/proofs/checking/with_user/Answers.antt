use Rattle.std.proofs.Common.{◌≡◌, ◌∷◌, Bool, true, false, cond, sym, ap, ◌∙◌, rules}
use Rattle.tuples.specs.Versions.{there_at}
use Rattle.versions.specs.Kept.{lent_rows}
use Rattle.versions.specs.Rows.{listed}
use Rattle.versions.proofs.Counted.{counted_first}
use Rattle.versions.proofs.Selected.{there_by_rows}
use Rattle.versions.proofs.checking.with_user.Goals as goal

pub returns-then-not-is_there_at-clause-rows : goal.returns-then-not-is_there_at-clause-rows
returns-then-not-is_there_at-clause-rows g c =
    let t = c.args.tuple in
    let gone : there_at (listed c.args.table.now.entries) c.args.place t ≡ false = there_by_rows t (lent_rows c.rows_of.result) (listed c.args.table.now.entries) c.args.place c.rows_of.ensures.versions ∙ sym (c.is_there_at.ensures.there t) ∙ c.if-not-is_there_at.true in
    sym (ap (λ (b : Bool). cond b (t ∷ c.args.sets.items) c.args.sets.items) gone)

pub returns-clause-rows : goal.returns-clause-rows
returns-clause-rows g c =
    let t = c.args.tuple in
    let there : there_at (listed c.args.table.now.entries) c.args.place t ≡ true = there_by_rows t (lent_rows c.rows_of.result) (listed c.args.table.now.entries) c.args.place c.rows_of.ensures.versions ∙ sym (c.is_there_at.ensures.there t) ∙ c.if-not-is_there_at.false in
    let put : c.insert.new.self.items ≡ t ∷ c.args.sets.items = search rules in
    put ∙ sym (ap (λ (b : Bool). cond b (t ∷ c.args.sets.items) c.args.sets.items) there)

pub returns-clause-counted : goal.returns-clause-counted
returns-clause-counted g c =
    let put : c.insert.new.self.items ≡ c.args.tuple ∷ c.args.sets.items = search rules in
    counted_first c.args.sets.items c.insert.new.self.items c.args.tuple _ _ put c.in_ok-take.ensures.ok
