use Rattle.std.proofs.Common.{inl, inr}
use Rattle.json_lines.proofs.Formed.{formed}
use Rattle.json_lines.proofs.Sound.{caused, form_is_sound, one_form}
use Rattle.json_lines.proofs.laws.no_line_is_spelled_and_refused.Goals as goal

pub returns : goal.returns
returns c store line r e fits spelled cause =
    let sound = formed store spelled.0 r spelled.2 spelled.3 in
    elim (caused store line e cause) [
      | inl bare ↦ absurd (bare.1 spelled.0 sound.0 spelled.1 sound.1)
      | inr (inl memory) ↦ memory
      | inr (inr h) ↦ form_is_sound store fits sound.0 sound.2 e (one_form store line spelled.0 sound.0 spelled.1 sound.1 e h)
    ]
