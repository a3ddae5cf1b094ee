-- Bytes and their texts in the standard alphabet.
use Rattle.std.proofs.Common.{◌≡◌, ℕ, ◌≤◌, Result, List, length, take, replicate, Ok, Err, refl, sym, ap, ◌∙◌, arith}
use Rattle.std.proofs.lemmas.List.{length-append, length-replicate, length-take-le}
use Rattle.base64.specs.Engines.{standard}
use Rattle.base64.specs.GeneralPurpose.{IsBytes, decode_of, encode_of, engine_symbols}
use Rattle.base64.specs.Rfc4648.{encode_symbols, padding_len, unpadded_len}
use Rattle.base64.specs.declared.decode.DecodeError.{DecodeError}
use Rattle.base64.proofs.EngineFacts.{decode_of-encode_of}
use Rattle.base64.proofs.RoundTrip.{length-encode_symbols}
use Rattle.zookie.specs.Bytes.{IsTextOfNone}

abbrev result : Result (List ℕ) DecodeError → Result (List ℕ) DecodeError
result r = r

ok_once : (x y : List ℕ) → result (Ok x) ≡ result (Ok y) → x ≡ y
ok_once x y h = cc

-- a text is that of one list of bytes
pub encoded_once : (a b : List ℕ) → IsBytes a → IsBytes b → encode_of standard a ≡ encode_of standard b → a ≡ b
encoded_once a b ba bb e =
    let da : decode_of standard (encode_of standard a) ≡ Ok a = decode_of-encode_of standard a refl ba in
    let db : decode_of standard (encode_of standard b) ≡ Ok b = decode_of-encode_of standard b refl bb in
    ok_once a b (sym da ∙ ap (decode_of standard) e ∙ db)

abbrev equals_sign : ℕ
equals_sign = 61

abbrev equals_signs : ℕ → List ℕ
equals_signs n = replicate n equals_sign

-- 18 bytes have 24 characters
pub length_text : (b : List ℕ) → length b ≡ 18 → length (encode_of standard b) ≡ 24
length_text b len =
    let symbols : length (encode_symbols (engine_symbols standard) b) ≡ unpadded_len (length b) = length-encode_symbols (engine_symbols standard) b in
    let padding : length (equals_signs (padding_len (length b))) ≡ padding_len (length b) = length-replicate (padding_len (length b)) equals_sign in
    length-append (encode_symbols (engine_symbols standard) b) (equals_signs (padding_len (length b))) ∙ omega (arith, symbols, padding, len)

-- what a text of 18 bytes decodes to
decoded : (text b : List ℕ) → IsBytes b → text ≡ encode_of standard b → decode_of standard text ≡ Ok b
decoded text b bytes e = ap (decode_of standard) e ∙ decode_of-encode_of standard b refl bytes

-- a text decodes to the one list of bytes that it is that of
pub decoded_once : (text a b : List ℕ) → decode_of standard text ≡ Ok a → IsBytes b → text ≡ encode_of standard b → a ≡ b
decoded_once text a b h bytes e = ok_once a b (sym h ∙ decoded text b bytes e)

pub none_by_length : (text : List ℕ) → (length text ≡ 24 → ⊥) → IsTextOfNone text
none_by_length text other b bytes len e = other (ap length e ∙ length_text b len)

pub none_by_error : (text : List ℕ) (error : DecodeError) → decode_of standard text ≡ Err error → IsTextOfNone text
none_by_error text error h b bytes len e = err_not_ok (sym h ∙ decoded text b bytes e)
  where
    err_not_ok : {x : List ℕ} → Err error ≡ Ok x → ⊥
    err_not_ok h = cc

pub none_by_count : (text output : List ℕ) (n : ℕ) → decode_of standard text ≡ Ok (take n output) → n ≤ length output → (n ≡ 18 → ⊥) → IsTextOfNone text
none_by_count text output n h fits other b bytes len e =
    let same : take n output ≡ b = ok_once (take n output) b (sym h ∙ decoded text b bytes e) in
    other (sym (length-take-le n output fits) ∙ ap length same ∙ len)
