-- The text of a refusal, in its parts.
use Rattle.std.proofs.Common.{◌≡◌, [], ◌∷◌, ◌++◌, codes, refl}
use Rattle.std.specs.Fmt.{decimal}
use Rattle.json.specs.Print.{escape_byte, quoted}
use Rattle.refusal.specs.declared.refusal.Refusal.{Refusal}
use Rattle.refusal.specs.Refusals.{name_of, number_of}
use Rattle.json_lines.specs.Texts.{refusal_line}

pub refusal_parts : (r : Refusal) → codes "{\"error\":" ++ (decimal (number_of r) ++ (codes ",\"name\":" ++ (quoted (name_of r) ++ (125 ∷ [])))) ≡ refusal_line r
unfolding escape_byte
refusal_parts r = refl
