use Rattle.std.proofs.Common.{◌≡◌, ℕ, ◌+◌, ◌-◌, List, ◌++◌, length, drop, set, ap, ◌∙◌, refl, sym}
use Rattle.std.specs.Int.{w32, to_be_bytes}
use Rattle.gated.specs.Gated.{body_of, record_head}
use Rattle.gated.proofs.Appends.{framed, length-body}
use Rattle.gated.proofs.append.frame.Goals as goal

pub returns : goal.returns
returns c =
    let buf = c.args.buf.now in
    let size : c.copy_from_slice.new.self ≡ to_be_bytes w32 (length (body_of buf)) = c.copy_from_slice.ensures.after ∙ c.to_be_bytes-size.ensures ∙ ap (to_be_bytes w32) (sym (length-body buf c.requires.some)) in
    ap (λ (s : List ℕ). set (s ++ drop 4 buf) (4 + (length buf - record_head)) c.args.gate) size ∙ framed c.args.gate buf (to_be_bytes w32 (length (body_of buf))) refl c.requires.some
