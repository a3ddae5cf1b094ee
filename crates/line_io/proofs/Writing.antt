-- How far a write has come.
use Rattle.std.proofs.Common.{◌≡◌, ℕ, ◌+◌, ◌-◌, ◌≤◌, length, ap, ◌∙◌, arith, List, ◌++◌, take, drop, sym, subst, append-nil, take-append-drop, Option, [], refl}
use Rattle.std.proofs.KnownBytes.{Appends-kept, Appends-trans, Appends-nil}
use Rattle.std.proofs.Math.Seq.{take-add}
use Rattle.std.proofs.lemmas.List.{length-drop, take_all}
use Rattle.std.specs.Io.KnownBytes.{Appends, Keeps}
use Rattle.line_io.specs.Outputs.{HasBegun}

-- the rest as a range
pub rest_of : (xs : List ℕ) (n : ℕ) → take (length xs - n) (drop n xs) ≡ drop n xs
rest_of xs n = take_all (length xs - n) (drop n xs) (omega (arith, length-drop n xs))

pub fits : (xs : List ℕ) (n k : ℕ) → n ≤ length xs → k ≤ length (take (length xs - n) (drop n xs)) → n + k ≤ length xs
fits xs n k within h = omega (arith, within, h, ap length (rest_of xs n), length-drop n xs)

module _ (before mid after : Option (List ℕ)) (bytes : List ℕ) (n : ℕ) where
  pub wrote_more : (k : ℕ) → Appends before mid (take n bytes) → Appends mid after (take k (take (length bytes - n) (drop n bytes))) → Appends before after (take (n + k) bytes)
  wrote_more k first more =
      subst (Appends before after) (ap (λ (l : List ℕ). take n bytes ++ take k l) (rest_of bytes n) ∙ sym (take-add n k bytes))
      (Appends-trans before mid after (take n bytes) (take k (take (length bytes - n) (drop n bytes))) first more)

  -- the next write failed
  pub broke_off : Appends before mid (take n bytes) → Keeps mid after → HasBegun before after bytes
  broke_off first kept = record { sent = take n bytes; unsent = drop n bytes; whole = sym (take-append-drop n bytes); written = Appends-kept before mid after (take n bytes) first kept }

  -- the next write took nothing
  pub stood_still : (k : ℕ) (rest : List ℕ) → k ≡ 0 → Appends before mid (take n bytes) → Appends mid after (take k rest) → HasBegun before after bytes
  stood_still k rest zero first none = record {
    sent = take n bytes;
    unsent = drop n bytes;
    whole = sym (take-append-drop n bytes);
    written = subst (Appends before after) (ap (λ (j : ℕ). take n bytes ++ take j rest) zero ∙ append-nil (take n bytes)) (Appends-trans before mid after (take n bytes) (take k rest) first none);
  }

-- nothing is a beginning, and so is all
pub begun_none : (o : Option (List ℕ)) (bytes : List ℕ) → HasBegun o o bytes
begun_none o bytes = record { sent = []; unsent = bytes; whole = refl; written = Appends-nil o }

pub begun_all : (o p : Option (List ℕ)) (bytes : List ℕ) → Appends o p bytes → HasBegun o p bytes
begun_all o p bytes all = record { sent = bytes; unsent = []; whole = sym (append-nil bytes); written = all }
