use Rattle.std.proofs.Common.{◌≡◌, inl, inr, Option, Some, OnErr, refl, subst, sym}
use Rattle.std.proofs.lemmas.Result.{on_err_weaker}
use Rattle.cluster.specs.declared.event.What.{What}
use Rattle.cluster.specs.declared.event.What.TheVariants.{Began}
use Rattle.scripts.specs.Refusing.{EndsNot}
use Rattle.scripts.specs.Telling.{told_text}
use Rattle.scripts.proofs.serving.end.Goals as goal

pub returns-in-Some-Began-clause-refused : goal.returns-in-Some-Began-clause-refused
returns-in-Some-Began-clause-refused g c =
    let told_is : c.args.told ≡ Some (Began c.in-Some-Began.slot) = rw (c.in-Some-Began.is, ← c.in-Some-Began.field-0-is, c.in-Some-Began.is) refl in
    let Ended : Option What → Type 0 = λ told. OnErr c.run_out.result (EndsNot g.S.Store.takes g.S.Store.nexts c.args.id c.args.each told c.args.store.now c.run_out.new.store) in
    subst Ended (sym told_is) (on_err_weaker c.run_out.result
    (λ r. elim r [ inl g ↦ inl (c.in-Some-Began.slot, refl, g) | inr e ↦ inr (told_text c.args.id e.0, (e.0, e.1, refl), e.2) ]) c.run_out.ensures.refused)
