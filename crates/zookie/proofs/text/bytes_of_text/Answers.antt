use Rattle.std.proofs.Common.{◌≡◌, Ok, take, refl, ap, ◌∙◌, arith}
use Rattle.std.proofs.lemmas.List.{take_all}
use Rattle.base64.specs.Engines.{standard}
use Rattle.base64.specs.GeneralPurpose.{decode_of}
use Rattle.base64.proofs.EngineFacts.{decode_of_strict}
use Rattle.zookie.proofs.Encodings.{none_by_length, none_by_error, none_by_count}
use Rattle.zookie.proofs.text.bytes_of_text.Goals as goal

pub returns-then-text-ne-CHARACTERS : goal.returns-then-text-ne-CHARACTERS
returns-then-text-ne-CHARACTERS c = none_by_length c.args.text.now c.if-text-ne-CHARACTERS.true

pub returns-in-Ok-eq18 : goal.returns-in-Ok-eq18
returns-in-Ok-eq18 c =
    let bytes = c.decode_slice_unchecked.new.output in
    let some : decode_of standard c.args.text.now ≡ Ok (take c.in-Ok-eq18.field-0 bytes) = c.in-Ok-eq18.ensures.ok.0 in
    let all : take c.in-Ok-eq18.field-0 bytes ≡ bytes = take_all c.in-Ok-eq18.field-0 bytes (omega arith) in
    let decoded : decode_of standard c.args.text.now ≡ Ok bytes = some ∙ ap Ok all in
    (decoded, decode_of_strict standard c.args.text.now bytes (refl, refl) (λ i. omega (arith, c.type_inv.text i)) decoded)

pub returns-in-Ok : goal.returns-in-Ok
returns-in-Ok c = none_by_count c.args.text.now c.decode_slice_unchecked.new.output c.in-Ok.field-0 c.in-Ok.ensures.ok.0 (omega (arith, c.in-Ok.ensures.ok.2, c.decode_slice_unchecked.auto.output)) c.in-Ok.field-0-test.1

pub returns-in-Err : goal.returns-in-Err
returns-in-Err c = none_by_error c.args.text.now c.in-Err.field-0 c.in-Err.ensures.err
