use Rattle.std.proofs.Common.{rules, ◌≡◌, ◌<◌, ◌≤◌, Some, None, ap, refl, length, string_bytes}
use Rattle.std.specs.Prelude.{option_map, slice_get}
use Rattle.std.proofs.lemmas.Option.{slice_get_past, slice_get_read}
use Rattle.settings.proofs.reading.is_word.Goals as goal

pub returns-in-Some : goal.returns-in-Some
returns-in-Some c =
    let within : c.args.at < length c.args.words.now = search rules in
    let at : slice_get c.args.words.now c.args.at ≡ Some c.in-Some.word.now = slice_get_read _ _ c.args.at _ refl within (search rules) in
    let second : option_map string_bytes (slice_get c.args.words.now c.args.at) ≡ Some (string_bytes c.in-Some.word.now) = ap (option_map string_bytes) at in
    search rules

pub returns-in-None : goal.returns-in-None
returns-in-None c =
    let past : length c.args.words.now ≤ c.args.at = search rules in
    let none : slice_get c.args.words.now c.args.at ≡ None = slice_get_past _ c.args.at past in
    search rules
