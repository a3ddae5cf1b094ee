use Rattle.std.proofs.Common.{◌≡◌, ◌<◌, ◌+◌, List, ℕ, Some, ap, arith, codes, length, refl, slice_get, subst, vec_capacity, vec_len}
use Rattle.std.proofs.lemmas.Option.{slice_get_read}
use Rattle.std.proofs.lemmas.Result.{on_err_weaker}
use Rattle.script_text.specs.PrintedTexts.{named_line}
use Rattle.scripts.specs.Scripts.{RunningView, TellsCancel}
use Rattle.scripts.proofs.running.Running.tell_cancelled.Goals as goal

pub returns-clause-refused : goal.returns-clause-refused
returns-clause-refused g c =
    let text = named_line (codes "cancelled ") c.as_bytes.result.now in
    let named : length c.self.inside.names.items ≡ length c.args.self.now.names = ap (λ (v : RunningView g.row.S.Denot). length v.names) c.self.view_is in
    let within : c.args.flow < length c.self.inside.names.items = omega (arith, c.requires.flow, named) in
    let at = slice_get_read c.self.inside.names.items (length c.self.inside.names.items) c.args.flow c.index.result.now refl within c.index.ensures in
    let IsAt : RunningView g.row.S.Denot → Type 0 = λ old. slice_get old.names c.args.flow ≡ Some c.index.result.now in
    let Full : Type 0 = vec_capacity c.args.out.now < vec_len c.args.out.now + length text in
    let tells : TellsCancel c.args.flow c.args.self.now text c.forget.new.self = (
      c.index.result.now,
      subst IsAt c.self.view_is at,
      ap (λ (name : List ℕ). named_line (codes "cancelled ") name) c.as_bytes.ensures,
      ap (λ (r : RunningView g.row.S.Denot). r.names) c.forget.ensures,
      ap (λ (r : RunningView g.row.S.Denot). r.slots) c.forget.ensures,
    ) in
    on_err_weaker {P = Full} c.write_to-printed.result (λ full. (text, tells, omega (arith, full, c.requires.room))) c.write_to-printed.ensures.memory
