use Rattle.std.proofs.Common.{sym, ◌∙◌, inl, inr}
use Rattle.json_lines.proofs.Once.{form_once}
use Rattle.json_lines.proofs.Sound.{caused, one_form}
use Rattle.json_lines.proofs.laws.a_line_has_one_cause.Goals as goal

pub returns : goal.returns
returns c store line e other fits a b = elim (caused store line e a) [
  | inl bare ↦ elim (caused store line other b) [
    | inl none ↦ inl (bare.0 ∙ sym none.0)
    | inr (inl memory) ↦ inr (inr memory)
    | inr (inr h) ↦ absurd (bare.1 h.0 h.1 h.2 h.3)
  ]
  | inr (inl memory) ↦ inr (inl memory)
  | inr (inr h) ↦ elim (caused store line other b) [
    | inl none ↦ absurd (none.1 h.0 h.1 h.2 h.3)
    | inr (inl memory) ↦ inr (inr memory)
    | inr (inr k) ↦ form_once store fits h.1 e other h.4 (one_form store line h.0 h.1 h.2 h.3 other k)
  ]
]
