-- A request that is sent again and again, and a line that is read up to its line feed.
use Rattle.std.proofs.Common.{◌≡◌, ◌≢◌, ◌+◌, ◌-◌, ℕ, suc, true, false, cond, eqb, List, [], ◌∷◌, ◌++◌, length, take, drop, All, Option, None, Some, IfSome, refl, sym, ap, subst, ◌∙◌, length-append, encode_utf8, eqb-true, arith}
use Rattle.std.proofs.KnownBytes.{Appends-trans, Consumes-trans}
use Rattle.std.proofs.Math.Seq.{take-append_seam}
use Rattle.std.proofs.lemmas.List.{flat_map_more}
use Rattle.std.proofs.lemmas.List.Elements.{All-append, All-cons, All-nil}
use Rattle.std.proofs.lemmas.Str.{encode_ascii}
use Rattle.std.specs.Io.{StopsAt, appended_bytes}
use Rattle.std.specs.Io.BufRead.{DropsThrough, drop_through, take_through}
use Rattle.std.specs.Io.KnownBytes.{Appends, Consumes}
use Rattle.std.specs.Option.{option_eq}
use Rattle.line_io.specs.Lines.{HasNoFeed}
use Rattle.client.specs.Answers.{IsAnswer}
use Rattle.client.specs.Sent.{IsAskedAgain, IsPassing, answer_bytes, answers_bytes, times}
use Rattle.client.specs.declared.answer.Answered.{Answered}
use Rattle.client.specs.declared.kind.Kind.{Kind}

-- The line was sent so many times, and each answer to it was read and was one after which it may be sent again.
pub record HasAsked (count : ℕ) (kind : Kind) (line : List ℕ) (in_before in_now out_before out_now : Option (List ℕ)) : Type 0 where
  pub earlier : List Answered
  pub counted : length earlier ≡ count
  pub each : All (IsPassing kind) earlier
  pub read : Consumes in_before in_now (answers_bytes earlier)
  pub sent : Appends out_before out_now (times (length earlier) line)

length_more : (xs : List Answered) (a : Answered) → length (xs ++ a ∷ []) ≡ suc (length xs)
length_more xs a = omega (arith, length-append xs (a ∷ []))

pub asked_more : (count : ℕ) (kind : Kind) (line : List ℕ) (i j k o p q : Option (List ℕ)) (a : Answered) → HasAsked count kind line i j o p → IsAnswer kind a → IsAskedAgain kind a.refusal
    → Consumes j k (answer_bytes a) → Appends p q (line ++ 10 ∷ []) → HasAsked (count + 1) kind line i k o q
asked_more count kind line i j k o p q a h answer again read sent =
    let xs = h.earlier in
    let more = length_more xs a in
    let counted = h.counted in record {
      earlier = xs ++ a ∷ [];
      counted = omega arith;
      each = All-append (IsPassing kind) xs (a ∷ []) h.each (All-cons (IsPassing kind) a [] (record { answer = answer; again = again }) (All-nil (IsPassing kind)));
      read = subst (Consumes i k) (flat_map_more answer_bytes [] xs a) (Consumes-trans i j k (answers_bytes xs) (answer_bytes a) h.read read);
      sent = subst (λ (n : ℕ). Appends o q (times n line)) (sym more) (Appends-trans o p q (times (length xs) line) (line ++ 10 ∷ []) h.sent sent);
    }

through_whole : (xs : List ℕ) → take_through 10 xs ++ drop_through 10 xs ≡ xs
through_whole [] = refl
through_whole (x ∷ xs) =
    elim (eqb x 10) as (λ b. cond b (x ∷ []) (x ∷ take_through 10 xs) ++ cond b xs (drop_through 10 xs) ≡ x ∷ xs) [ true ↦ refl | false ↦ ap (λ (l : List ℕ). x ∷ l) (through_whole xs) ]

-- what had a line feed at its end
pub feed_popped : (last : Option ℕ) (old new : List ℕ) → option_eq eqb last (Some 10) ≡ true → IfSome last (λ c. old ≡ new ++ encode_utf8 c) → old ≡ new ++ 10 ∷ []
feed_popped None old new same is = cc
feed_popped (Some c) old new same is = is ∙ ap (λ (d : ℕ). new ++ encode_utf8 d) (eqb-true c 10 same) ∙ ap (λ (l : List ℕ). new ++ l) (encode_ascii 10 (omega arith))

-- a line that was read up to its line feed was consumed with it
pub line_taken : (i j : Option (List ℕ)) (before read line : List ℕ) → before ≡ [] → read ≡ line ++ 10 ∷ [] → IfSome i (λ xs. read ≡ before ++ take_through 10 xs) → DropsThrough i j 10
    → Consumes i j (line ++ 10 ∷ [])
line_taken None j before read line none is taken dropped = tt
line_taken (Some xs) j before read line none is taken dropped =
    let all : line ++ 10 ∷ [] ≡ take_through 10 xs = sym is ∙ taken ∙ ap (λ (b : List ℕ). b ++ take_through 10 xs) none in
    subst (λ (k : Option (List ℕ)). Consumes (Some xs) k (line ++ 10 ∷ [])) (sym dropped) (sym (ap (λ (l : List ℕ). l ++ drop_through 10 xs) all ∙ through_whole xs))

front_taken : (line : List ℕ) → take (length (line ++ 10 ∷ []) - 1) (line ++ 10 ∷ []) ≡ line
front_taken line =
    let same : length (line ++ 10 ∷ []) - 1 ≡ length line = omega (arith, length-append line (10 ∷ [])) in
    ap (λ (n : ℕ). take n (line ++ 10 ∷ [])) same ∙ take-append_seam line (10 ∷ [])

-- and has no other one
pub line_has_one : (before read line : List ℕ) → before ≡ [] → read ≡ line ++ 10 ∷ [] → StopsAt (appended_bytes before read) 10 → HasNoFeed line
line_has_one before read line none is stops =
    let all : appended_bytes before read ≡ line ++ 10 ∷ [] = ap (λ (b : List ℕ). drop (length b) read) none ∙ is in
    subst (All (λ x. x ≢ 10)) (front_taken line) (subst (λ (l : List ℕ). StopsAt l 10) all stops)
