-- What a word is, by what a parse makes of it.
use Rattle.std.proofs.Common.{append_assoc, ◌≡◌, ◌∙◌, ◌+◌, ◌++◌, ◌||◌, ◌∷◌, [], ℕ, Bool, Option, Some, None, not, true, false, cond, refl, sym, ap, ap₂, arith, suc, drop, take, unwrap_or}
use Rattle.std.specs.Prelude.{◌==◌}
use Rattle.std.specs.List.{after_first, before_first, position_or_len}
use Rattle.std.specs.Option.{option_and_then}
use Rattle.std.proofs.lemmas.Bool.{eqb-true}
use Rattle.clap.specs.Lexer.{has_byte, long_of, long_of_rest, name_and_value, strip_byte}
use Rattle.clap.specs.Walk.{Text}
use Rattle.settings.specs.CommandLine.{joined_word, long_word}

-- `--NAME`, or `--NAME=VALUE` with its value
abbrev pub option_text : Text → Option Text → Text
option_text name None = long_word name
option_text name (Some value) = joined_word name value

abbrev is_equals : ℕ → Bool
is_equals x = x == 61

-- the text up to `=`, `=` and the rest, or all of it if it has none
abbrev mended : Text → Text
mended t = cond (has_byte 61 t) (before_first is_equals t ++ 61 ∷ after_first is_equals t) (before_first is_equals t)

mended_is : (t : Text) → mended t ≡ t
mended_is [] = refl
mended_is (x ∷ xs) = go (x == 61) refl (mended_is xs)
  where
    go : (b : Bool) → (x == 61) ≡ b → mended xs ≡ xs
        → (let n = cond (not b) (1 + position_or_len is_equals xs) 0 in cond (b || has_byte 61 xs) (take n (x ∷ xs) ++ 61 ∷ drop (n + 1) (x ∷ xs)) (take n (x ∷ xs))) ≡ x ∷ xs
    go true e same = ap (λ (y : ℕ). y ∷ xs) (sym (eqb-true x 61 e))
    go false e same =
        let n = position_or_len is_equals xs in
        let up : 1 + n ≡ suc n = omega arith in
        let past : 1 + n + 1 ≡ suc (n + 1) = omega arith in
        ap₂ (λ k l. cond (has_byte 61 xs) (take k (x ∷ xs) ++ 61 ∷ drop l (x ∷ xs)) (take k (x ∷ xs))) up past ∙ rest (has_byte 61 xs) ∙ ap (λ (t : Text). x ∷ t) same
      where
        rest : (c : Bool) → cond c (x ∷ take (position_or_len is_equals xs) xs ++ 61 ∷ drop (position_or_len is_equals xs + 1) xs) (x ∷ take (position_or_len is_equals xs) xs)
            ≡ x ∷ cond c (take (position_or_len is_equals xs) xs ++ 61 ∷ drop (position_or_len is_equals xs + 1) xs) (take (position_or_len is_equals xs) xs)
        rest true = refl
        rest false = refl

-- the word is what its name and its value spell
named_is : (t : Text) (q : Text × Option Text) → Some (name_and_value t) ≡ Some q → 45 ∷ 45 ∷ t ≡ option_text q.0 q.1
named_is t q e =
    let is : name_and_value t ≡ q = ap (λ (o : Option (Text × Option Text)). unwrap_or o q) e in
    ap (λ (u : Text). 45 ∷ 45 ∷ u) (sym (mended_is t)) ∙ go (has_byte 61 t) ∙ ap (λ (p : Text × Option Text). option_text p.0 p.1) is
  where
    go : (c : Bool) → 45 ∷ 45 ∷ cond c (before_first is_equals t ++ 61 ∷ after_first is_equals t) (before_first is_equals t)
        ≡ option_text (before_first is_equals t) (cond c (Some (after_first is_equals t)) None)
    go true = ap (λ (u : Text). 45 ∷ 45 ∷ u) (sym (append_assoc (before_first is_equals t) (61 ∷ []) (after_first is_equals t)))
    go false = refl

no_word : {P : Type 0} (q : Text × Option Text) → None ≡ Some q → P
no_word q e = cc

pub long_is : (word : Text) (q : Text × Option Text) → long_of word ≡ Some q → word ≡ option_text q.0 q.1
long_is [] q e = no_word q e
long_is (x ∷ xs) q e = first (x == 45) refl e
  where
    second : (ys : Text) → x ≡ 45 → option_and_then long_of_rest (strip_byte 45 ys) ≡ Some q → x ∷ ys ≡ option_text q.0 q.1
    second [] is e = no_word q e
    second (y ∷ ys) is e = go (y == 45) refl e
      where
        third : (zs : Text) → y ≡ 45 → long_of_rest zs ≡ Some q → x ∷ y ∷ zs ≡ option_text q.0 q.1
        third [] also e = no_word q e
        third (z ∷ zs) also e = ap₂ (λ (a b : ℕ). a ∷ b ∷ z ∷ zs) is also ∙ named_is (z ∷ zs) q e

        go : (b : Bool) → (y == 45) ≡ b → option_and_then long_of_rest (cond b (Some ys) None) ≡ Some q → x ∷ y ∷ ys ≡ option_text q.0 q.1
        go true is_hyphen e = third ys (eqb-true y 45 is_hyphen) e
        go false is_hyphen e = no_word q e

    first : (b : Bool) → (x == 45) ≡ b → option_and_then long_of_rest (option_and_then (strip_byte 45) (cond b (Some xs) None)) ≡ Some q → x ∷ xs ≡ option_text q.0 q.1
    first true is_hyphen e = second xs (eqb-true x 45 is_hyphen) e
    first false is_hyphen e = no_word q e
