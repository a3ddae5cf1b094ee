use Rattle.std.proofs.Math.Seq.{paste}
use Rattle.std.proofs.Common.{◌≡◌, ◌+◌, ◌-◌, ◌++◌, ◌≤◌, ℕ, List, length, take, drop, ◌∙◌, ap, arith}
use Rattle.records.specs.declared.record.Record.{Record}
use Rattle.journal.specs.Records.{batch_size}
use Rattle.journal.proofs.Staged.{first_fits, forgotten, forgotten_view, moved_down, staged_is}
use Rattle.journal.proofs.batch.Batch.forget_first.Goals as goal

pub overflow_add-sent : goal.overflow_add-sent
overflow_add-sent c =
    let fits = first_fits _ _ _ c.self.invariant c.args.sent.count c.args.sent.len (omega (arith, c.requires.count, c.self.invariant.number, ap length (staged_is _ _ _ c.self.invariant), ap length c.self.view_is))
    (ap (λ (rs : List Record). batch_size (take c.args.sent.count rs)) c.self.view_is ∙ c.requires.len) in
    let all = c.self.invariant.fits in
    omega (arith, fits, all)

pub copy_within-requires-clause-start_le_end : goal.copy_within-requires-clause-start_le_end
copy_within-requires-clause-start_le_end c =
    let fits = first_fits _ _ _ c.self.invariant c.args.sent.count c.args.sent.len (omega (arith, c.requires.count, c.self.invariant.number, ap length (staged_is _ _ _ c.self.invariant), ap length c.self.view_is))
    (ap (λ (rs : List Record). batch_size (take c.args.sent.count rs)) c.self.view_is ∙ c.requires.len) in
    omega (arith, fits, c.len-end.ensures)

pub overflow_sub-end : goal.overflow_sub-end
overflow_sub-end c =
    let fits = first_fits _ _ _ c.self.invariant c.args.sent.count c.args.sent.len (omega (arith, c.requires.count, c.self.invariant.number, ap length (staged_is _ _ _ c.self.invariant), ap length c.self.view_is))
    (ap (λ (rs : List Record). batch_size (take c.args.sent.count rs)) c.self.view_is ∙ c.requires.len) in
    omega (arith, fits, c.len-end.ensures)

pub overflow_sub-self : goal.overflow_sub-self
overflow_sub-self c = omega (arith, c.requires.count, c.self.invariant.number, ap length (staged_is _ _ _ c.self.invariant), ap length c.self.view_is)

pub invariant_of-self : goal.invariant_of-self
invariant_of-self c =
    let bytes = c.self.inside.bytes.items in
    let le : c.args.sent.count ≤ c.self.inside.count = omega (arith, c.requires.count, c.self.invariant.number, ap length (staged_is _ _ _ c.self.invariant), ap length c.self.view_is) in
    let size = ap (λ (rs : List Record). batch_size (take c.args.sent.count rs)) c.self.view_is ∙ c.requires.len in
    let fits : 7 + c.args.sent.len ≤ length bytes = first_fits _ _ _ c.self.invariant c.args.sent.count c.args.sent.len le size in
    let end : c.len-end.result ≡ length bytes = omega (arith, c.len-end.ensures) in
    let is : c.truncate.new.self.items ≡ take 7 bytes ++ drop (7 + c.args.sent.len) bytes =
    c.truncate.ensures.items ∙ ap (take (c.len-end.result - c.args.sent.len)) c.copy_within.ensures.items
    ∙ ap (λ (e : ℕ). take (e - c.args.sent.len) (paste bytes 7 (drop (7 + c.args.sent.len) bytes) (e - (7 + c.args.sent.len)))) end
    ∙ moved_down bytes c.args.sent.len (length bytes - c.args.sent.len) fits (omega (arith, fits)) in
    forgotten _ _ _ c.self.invariant c.args.sent.count c.args.sent.len le size _ is _ (omega (arith, c.truncate.ensures.capacity, c.copy_within.ensures.capacity))

pub returns : goal.returns
returns c =
    let bytes = c.self.inside.bytes.items in
    let le : c.args.sent.count ≤ c.self.inside.count = omega (arith, c.requires.count, c.self.invariant.number, ap length (staged_is _ _ _ c.self.invariant), ap length c.self.view_is) in
    let size = ap (λ (rs : List Record). batch_size (take c.args.sent.count rs)) c.self.view_is ∙ c.requires.len in
    let fits : 7 + c.args.sent.len ≤ length bytes = first_fits _ _ _ c.self.invariant c.args.sent.count c.args.sent.len le size in
    let end : c.len-end.result ≡ length bytes = omega (arith, c.len-end.ensures) in
    let is : c.truncate.new.self.items ≡ take 7 bytes ++ drop (7 + c.args.sent.len) bytes =
    c.truncate.ensures.items ∙ ap (take (c.len-end.result - c.args.sent.len)) c.copy_within.ensures.items
    ∙ ap (λ (e : ℕ). take (e - c.args.sent.len) (paste bytes 7 (drop (7 + c.args.sent.len) bytes) (e - (7 + c.args.sent.len)))) end
    ∙ moved_down bytes c.args.sent.len (length bytes - c.args.sent.len) fits (omega (arith, fits)) in
    forgotten_view _ _ _ c.self.invariant c.args.sent.count c.args.sent.len le size _ is ∙ ap (drop c.args.sent.count) c.self.view_is
