use Rattle.std.proofs.Common.{◌≡◌, ℕ, List, [], ◌++◌, length, drop, replicate, ◌∙◌, ap}
use Rattle.std.proofs.lemmas.List.{append-nil}
use Rattle.base64.specs.Engines.{standard}
use Rattle.base64.specs.GeneralPurpose.{encode_of, encoded_size_of}
use Rattle.zookie.proofs.text.text_of_bytes.Goals as goal

-- all 24 places of the buffer are written
pub returns : goal.returns
returns c =
    let bytes = c.args.bytes.now in
    let len : length bytes ≡ 18 = c.told-bytes in
    let zeros : List ℕ = replicate 24 0 in
    let text : c.encode_slice.new.output ≡ encode_of standard bytes ++ drop (encoded_size_of standard (length bytes)) zeros = c.in-Ok.ensures.written in
    let none : drop (encoded_size_of standard (length bytes)) zeros ≡ [] = ap (λ n. drop (encoded_size_of standard n) zeros) len in
    text ∙ ap (λ (l : List ℕ). encode_of standard bytes ++ l) none ∙ append-nil (encode_of standard bytes)
