-- Where the first line feed is.
use Rattle.std.proofs.Common.{◌≡◌, ℕ, ◌+◌, ◌<◌, ◌≤◌, List, [], ◌∷◌, ◌++◌, ◌-◌, true, false, length, take, drop, get_or, subst, refl, sym, ap, ◌∙◌, arith, eq-eqb, take-append-drop}
use Rattle.std.proofs.lemmas.List.{drop-drop, drop-take, drop_more, get_or-take, length-drop, length-take-le}
use Rattle.std.proofs.lemmas.List.Elements.{All-append, All-from_get_or, All-get_or}
use Rattle.std.proofs.lemmas.Bool.{eqb-true}
use Rattle.std.specs.Prelude.{◌≢◌}
use Rattle.memchr.specs.Find.{NoneBefore, Nowhere, Passes, is_byte}
use Rattle.line_io.specs.Blocks.{TakesPart}
use Rattle.line_io.specs.declared.line.Line.{Line}
use Rattle.line_io.specs.Lines.{HasNoFeed, Holds}

abbrev IsFeed : List ℕ → ℕ → Type 0
IsFeed hay = Passes (is_byte 10) hay

pub none_before : (hay : List ℕ) (k : ℕ) → NoneBefore (IsFeed hay) 0 (length hay) k → HasNoFeed (take k hay)
none_before hay k none =
    All-from_get_or (λ b. b ≢ 10) (take k hay) 0 (λ i within is.
    let short : length (take k hay) ≡ k = length-take-le k hay (omega (arith, none.high)) in
    let below : i < k = omega (arith, within, short) in
    none.before i (omega arith) below (eq-eqb (get_or hay i 0) 10 (sym (get_or-take k hay i 0 below) ∙ is)))

pub none_at_all : (hay : List ℕ) → Nowhere (IsFeed hay) 0 (length hay) → HasNoFeed hay
none_at_all hay none = All-from_get_or (λ b. b ≢ 10) hay 0 (λ i within is. none i (omega arith) within (eq-eqb (get_or hay i 0) 10 is))

pub at_feed : (hay : List ℕ) (k : ℕ) → k < length hay → IsFeed hay k → hay ≡ take k hay ++ 10 ∷ drop (k + 1) hay
at_feed hay k within is =
    sym (take-append-drop k hay) ∙ ap (λ (l : List ℕ). take k hay ++ l) (drop_more hay k 0 within ∙ ap (λ (b : ℕ). b ∷ drop (k + 1) hay) (eqb-true (get_or hay k 0) 10 is))

pub feed_is_there : (hay old : List ℕ) (k : ℕ) → hay ≡ old → NoneBefore (IsFeed hay) 0 (length hay) k → IsFeed hay k → HasNoFeed old → ⊥
feed_is_there hay old k same first is none = All-get_or (λ b. b ≢ 10) hay k 0 (omega (arith, first.high)) (subst HasNoFeed (sym same) none) (eqb-true (get_or hay k 0) 10 is)

pub no_feed_in : (a b : List ℕ) → HasNoFeed a → HasNoFeed b → HasNoFeed (a ++ b)
no_feed_in a b p q = All-append (λ x. x ≢ 10) a b p q

-- what is left if so many more are taken
left_behind : (items : List ℕ) (taken filled n : ℕ) → taken + n ≤ filled → take (filled - (taken + n)) (drop (taken + n) items) ≡ drop n (take (filled - taken) (drop taken items))
left_behind items taken filled n within =
    ap (λ (l : List ℕ). take (filled - (taken + n)) l) (sym (drop-drop n taken items))
    ∙ sym (drop-take n (filled - (taken + n)) (drop taken items))
    ∙ ap (λ (m : ℕ). drop n (take m (drop taken items))) (omega (arith, within))

module _ (items : List ℕ) (taken filled : ℕ) where
  abbrev left : List ℕ
  left = take (filled - taken) (drop taken items)

  -- the bytes up to a line feed were taken, and it
  pub part_at_feed : (hay seen : List ℕ) (count : ℕ) (front : List ℕ) (line : Line) → hay ≡ left → seen ≡ left → taken ≤ filled → filled ≤ length items
      → NoneBefore (IsFeed hay) 0 (length hay) count → IsFeed hay count → Holds line (front ++ take count seen)
      → TakesPart true left (take (filled - (taken + (count + 1))) (drop (taken + (count + 1)) items)) front line
  part_at_feed hay seen count front line is_hay is_seen inside within none is held =
      let none' : NoneBefore (IsFeed left) 0 (length left) count = subst (λ (h : List ℕ). NoneBefore (IsFeed h) 0 (length h) count) is_hay none in
      let is' : IsFeed left count = subst (λ (h : List ℕ). IsFeed h count) is_hay is in
      let rest : length (drop taken items) ≡ length items - taken = length-drop taken items in
      let len : length left ≡ filled - taken = length-take-le (filled - taken) (drop taken items) (omega (arith, rest, inside, within)) in
      let room : taken + (count + 1) ≤ filled = omega (arith, none'.high, len, inside) in
      record {
        part = take count left;
        no_feed = none_before left count none';
        held = subst (λ (l : List ℕ). Holds line (front ++ take count l)) is_seen held;
        feed = λ yes. at_feed left count none'.high is' ∙ ap (λ (l : List ℕ). take count left ++ 10 ∷ l) (sym (left_behind items taken filled (count + 1) room));
        all = λ no. absurd (cc no);
      }

  none_left : take (filled - filled) (drop filled items) ≡ []
  none_left = let none : filled - filled ≡ 0 = omega arith in ap (λ (n : ℕ). take n (drop filled items)) none

  -- all bytes were taken, and there is no line feed
  pub part_of_all : (hay seen front : List ℕ) (line : Line) → hay ≡ left → seen ≡ left → Nowhere (IsFeed hay) 0 (length hay) → Holds line (front ++ seen)
      → TakesPart false left (take (filled - filled) (drop filled items)) front line
  part_of_all hay seen front line is_hay is_seen none held = record {
    part = left;
    no_feed = none_at_all left (subst (λ (h : List ℕ). Nowhere (IsFeed h) 0 (length h)) is_hay none);
    held = subst (λ (l : List ℕ). Holds line (front ++ l)) is_seen held;
    feed = λ yes. absurd (cc yes);
    all = λ no. (refl, none_left);
  }
