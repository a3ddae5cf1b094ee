use Rattle.std.proofs.Common.{Bool, cond, [], ◌∷◌, sym, ap, ◌∙◌}
use Rattle.versions.proofs.Histories.{single_left}
use Rattle.versions.proofs.rows.left_of.Goals as goal

pub returns-then-stays : goal.returns-then-stays
returns-then-stays c = c.single.ensures ∙ sym (single_left c.args.horizon c.args.row ∙ ap (λ (b : Bool). cond b (c.args.row ∷ []) []) (sym c.stays.ensures ∙ c.if-stays.true))

pub returns-else-stays : goal.returns-else-stays
returns-else-stays c = sym (single_left c.args.horizon c.args.row ∙ ap (λ (b : Bool). cond b (c.args.row ∷ []) []) (sym c.stays.ensures ∙ c.if-stays.false))
