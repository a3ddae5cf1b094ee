use Rattle.std.proofs.Common.{◌∙◌, ◌++◌, ℕ, List, ap, inl, inr, refl}
use Rattle.refusal.specs.declared.refusal.Refusal.TheVariants.{NoMemory}
use Rattle.script_text.specs.PrintedTexts.{refusal_line}
use Rattle.scripts.proofs.script.Script.try_out.Goals as goal

pub returns-in-Ok-clause-told : goal.returns-in-Ok-clause-told
returns-in-Ok-clause-told g c = let told = c.in-Ok.ensures.ok in (told.0, inl told.1, told.2)

pub returns-in-Err-clause-told : goal.returns-in-Err-clause-told
returns-in-Err-clause-told g c = (refusal_line NoMemory, inr (refl, c.in-Err.ensures.refused), c.refuse.ensures ∙ ap (λ (b : List ℕ). b ++ refusal_line NoMemory) c.in-Err.ensures.err)
