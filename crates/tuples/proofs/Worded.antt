-- Texts of bytes are compared a word at a time, a word as a number, and short ones with the zeros after them.
use Rattle.std.proofs.Common.{◌≡◌, ℕ, zero, suc, ◌+◌, ◌*◌, ◌<◌, ◌≤◌, true, false, List, [], ◌∷◌, ◌++◌, length, get_or, take, drop, replicate, refl, sym, ap, ap₂, ◌∙◌, arith, length-take-le, get_or-drop, take_all, length-drop, w64, zero-le, suc-le-suc}
use Rattle.std.specs.Cmp.{ranks}
use Rattle.std.specs.Cmp.Lexicographic.{slice_cmp}
use Rattle.std.specs.Int.{from_be_bytes}
use Rattle.std.specs.Ordering.{nat_cmp, ordering_then, is_ne, MatchOrdering}
use Rattle.std.specs.declared.cmp.Ordering.{Ordering}
use Rattle.std.specs.declared.cmp.Ordering.TheVariants.{Less, Equal, Greater}
use Rattle.tuples.specs.Short.{IsPadded}

-- two numbers

is_less : (x y : ℕ) (o : Ordering) → MatchOrdering o (x < y) (x ≡ y) (y < x) → x < y → o ≡ Less
is_less x y Less h l = refl
is_less x y Equal h l = let e : x ≡ y = h in absurd (omega arith)
is_less x y Greater h l = let e : y < x = h in absurd (omega arith)

is_equal : (x y : ℕ) (o : Ordering) → MatchOrdering o (x < y) (x ≡ y) (y < x) → x ≡ y → o ≡ Equal
is_equal x y Less h l = let e : x < y = h in absurd (omega arith)
is_equal x y Equal h l = refl
is_equal x y Greater h l = let e : y < x = h in absurd (omega arith)

is_greater : (x y : ℕ) (o : Ordering) → MatchOrdering o (x < y) (x ≡ y) (y < x) → y < x → o ≡ Greater
is_greater x y Less h l = let e : x < y = h in absurd (omega arith)
is_greater x y Equal h l = let e : x ≡ y = h in absurd (omega arith)
is_greater x y Greater h l = refl

below : (x y : ℕ) → x < y → nat_cmp x y ≡ Less
below x y = is_less x y (nat_cmp x y) (ranks x y)

level : (x y : ℕ) → x ≡ y → nat_cmp x y ≡ Equal
level x y = is_equal x y (nat_cmp x y) (ranks x y)

above : (x y : ℕ) → y < x → nat_cmp x y ≡ Greater
above x y = is_greater x y (nat_cmp x y) (ranks x y)

by_rank : (x y z w : ℕ) (o : Ordering) → MatchOrdering o (x < y) (x ≡ y) (y < x) → (x < y → z < w) → (x ≡ y → z ≡ w) → (y < x → w < z) → nat_cmp z w ≡ o
by_rank x y z w Less h f e g = below z w (f h)
by_rank x y z w Equal h f e g = level z w (e h)
by_rank x y z w Greater h f e g = above z w (g h)

next_rank : (l m : ℕ) → nat_cmp (suc l) (suc m) ≡ nat_cmp l m
next_rank l m = by_rank l m (suc l) (suc m) (nat_cmp l m) (ranks l m) (λ h. omega arith) (λ h. omega arith) (λ h. omega arith)

-- what decides first

then_then : (o p q : Ordering) → ordering_then (ordering_then o p) q ≡ ordering_then o (ordering_then p q)
then_then Less p q = refl
then_then Equal p q = refl
then_then Greater p q = refl

-- the first n bytes decide, or else the rest
pub cut_cmp : (n : ℕ) (a b : List ℕ) → slice_cmp nat_cmp a b ≡ ordering_then (slice_cmp nat_cmp (take n a) (take n b)) (slice_cmp nat_cmp (drop n a) (drop n b))
cut_cmp zero a b = refl
cut_cmp (suc n) [] [] = refl
cut_cmp (suc n) [] (y ∷ b) = refl
cut_cmp (suc n) (x ∷ a) [] = refl
cut_cmp (suc n) (x ∷ a) (y ∷ b) = ap (ordering_then (nat_cmp x y)) (cut_cmp n a b) ∙ sym (then_then (nat_cmp x y) (slice_cmp nat_cmp (take n a) (take n b)) (slice_cmp nat_cmp (drop n a) (drop n b)))

-- zeros

zeros_first : (a b : List ℕ) → length a ≡ length b → IsPadded a 0 → ordering_then (slice_cmp nat_cmp a b) Less ≡ Less
zeros_first [] [] e h = refl
zeros_first [] (y ∷ b) e h = absurd (omega arith)
zeros_first (x ∷ a) [] e h = absurd (omega arith)
zeros_first (x ∷ a) (zero ∷ b) e h = ap (λ z. ordering_then (ordering_then (nat_cmp z 0) (slice_cmp nat_cmp a b)) Less) (h 0 zero-le) ∙ zeros_first a b (omega arith) (λ i l. h (suc i) zero-le)
zeros_first (x ∷ a) (suc y ∷ b) e h = ap (λ o. ordering_then (ordering_then o (slice_cmp nat_cmp a b)) Less) (below x (suc y) (omega (arith, h 0 zero-le)))

zeros_last : (a b : List ℕ) → length a ≡ length b → IsPadded b 0 → ordering_then (slice_cmp nat_cmp a b) Greater ≡ Greater
zeros_last [] [] e h = refl
zeros_last [] (y ∷ b) e h = absurd (omega arith)
zeros_last (x ∷ a) [] e h = absurd (omega arith)
zeros_last (zero ∷ a) (y ∷ b) e h = ap (λ z. ordering_then (ordering_then (nat_cmp 0 z) (slice_cmp nat_cmp a b)) Greater) (h 0 zero-le) ∙ zeros_last a b (omega arith) (λ i l. h (suc i) zero-le)
zeros_last (suc x ∷ a) (y ∷ b) e h = ap (λ o. ordering_then (ordering_then o (slice_cmp nat_cmp a b)) Greater) (above (suc x) y (omega (arith, h 0 zero-le)))

zeros_level : (a b : List ℕ) → length a ≡ length b → IsPadded a 0 → IsPadded b 0 → Equal ≡ slice_cmp nat_cmp a b
zeros_level [] [] e g h = refl
zeros_level [] (y ∷ b) e g h = absurd (omega arith)
zeros_level (x ∷ a) [] e g h = absurd (omega arith)
zeros_level (x ∷ a) (y ∷ b) e g h =
    zeros_level a b (omega arith) (λ i l. g (suc i) zero-le) (λ i l. h (suc i) zero-le)
    ∙ sym (ap (λ o. ordering_then o (slice_cmp nat_cmp a b)) (level x y (g 0 zero-le ∙ sym (h 0 zero-le))))

then_equal : (o : Ordering) → ordering_then o Equal ≡ o
then_equal Less = refl
then_equal Equal = refl
then_equal Greater = refl

-- with zeros after them two texts are compared whole, and by their lengths if that finds nothing
pub padded_cmp : (a b : List ℕ) (l m : ℕ) → length a ≡ length b → l ≤ length a → m ≤ length b → IsPadded a l → IsPadded b m → slice_cmp nat_cmp (take l a) (take m b) ≡ ordering_then (slice_cmp nat_cmp a b) (nat_cmp l m)
padded_cmp [] [] zero zero e p q g h = refl
padded_cmp [] [] (suc l) m e p q g h = absurd (omega arith)
padded_cmp [] [] zero (suc m) e p q g h = absurd (omega arith)
padded_cmp [] (y ∷ b) l m e p q g h = absurd (omega arith)
padded_cmp (x ∷ a) [] l m e p q g h = absurd (omega arith)
padded_cmp (x ∷ a) (y ∷ b) zero zero e p q g h = zeros_level (x ∷ a) (y ∷ b) e g h ∙ sym (then_equal (slice_cmp nat_cmp (x ∷ a) (y ∷ b)))
padded_cmp (x ∷ a) (y ∷ b) zero (suc m) e p q g h =
    sym (ap (ordering_then (slice_cmp nat_cmp (x ∷ a) (y ∷ b))) (below 0 (suc m) (omega arith)) ∙ zeros_first (x ∷ a) (y ∷ b) e g)
padded_cmp (x ∷ a) (y ∷ b) (suc l) zero e p q g h =
    sym (ap (ordering_then (slice_cmp nat_cmp (x ∷ a) (y ∷ b))) (above (suc l) 0 (omega arith)) ∙ zeros_last (x ∷ a) (y ∷ b) e h)
padded_cmp (x ∷ a) (y ∷ b) (suc l) (suc m) e p q g h =
    let rest = padded_cmp a b l m (omega arith) (omega arith) (omega arith) (λ i le. g (suc i) (suc-le-suc le)) (λ i le. h (suc i) (suc-le-suc le)) in
    ap (ordering_then (nat_cmp x y)) (rest ∙ ap (ordering_then (slice_cmp nat_cmp a b)) (sym (next_rank l m)))
    ∙ sym (then_then (nat_cmp x y) (slice_cmp nat_cmp a b) (nat_cmp (suc l) (suc m)))

-- words

-- the number that the bytes spell after n, the greatest first
abbrev spells : ℕ → List ℕ → ℕ
spells n [] = n
spells n (x ∷ a) = spells (n * 256 + x) a

abbrev AreBytes : List ℕ → Type 0
AreBytes a = (i : ℕ) → get_or a i 0 < 256

rises : (n m : ℕ) (a b : List ℕ) → length a ≡ length b → AreBytes a → n < m → spells n a < spells m b
rises n m [] [] e h l = l
rises n m [] (y ∷ b) e h l = absurd (omega arith)
rises n m (x ∷ a) [] e h l = absurd (omega arith)
rises n m (x ∷ a) (y ∷ b) e h l = rises (n * 256 + x) (m * 256 + y) a b (omega arith) (λ i. h (suc i)) (omega (arith, h 0))

spells_cmp : (n : ℕ) (a b : List ℕ) → length a ≡ length b → AreBytes a → AreBytes b → nat_cmp (spells n a) (spells n b) ≡ slice_cmp nat_cmp a b
spells_cmp n [] [] e g h = level n n refl
spells_cmp n [] (y ∷ b) e g h = absurd (omega arith)
spells_cmp n (x ∷ a) [] e g h = absurd (omega arith)
spells_cmp n (x ∷ a) (y ∷ b) e g h = by (nat_cmp x y) (ranks x y) (spells_cmp (n * 256 + x) a b (omega arith) (λ i. g (suc i)) (λ i. h (suc i)))
  where
    by : (o : Ordering) → MatchOrdering o (x < y) (x ≡ y) (y < x) → nat_cmp (spells (n * 256 + x) a) (spells (n * 256 + x) b) ≡ slice_cmp nat_cmp a b
        → nat_cmp (spells (n * 256 + x) a) (spells (n * 256 + y) b) ≡ ordering_then o (slice_cmp nat_cmp a b)
    by Less l rest =
        let under : x < y = l in
        below (spells (n * 256 + x) a) (spells (n * 256 + y) b) (rises (n * 256 + x) (n * 256 + y) a b (omega arith) (λ i. g (suc i)) (omega arith))
    by Equal l rest = ap (λ z. nat_cmp (spells (n * 256 + x) a) (spells (n * 256 + z) b)) (sym l) ∙ rest
    by Greater l rest =
        let over : y < x = l in
        above (spells (n * 256 + x) a) (spells (n * 256 + y) b) (rises (n * 256 + y) (n * 256 + x) b a (omega arith) (λ i. h (suc i)) (omega arith))

word_spells : (a : List ℕ) → 8 ≤ length a → from_be_bytes w64 a ≡ spells 0 (take 8 a)
word_spells [] l = absurd (omega arith)
word_spells (x ∷ []) l = absurd (omega arith)
word_spells (x ∷ y ∷ []) l = absurd (omega arith)
word_spells (x ∷ y ∷ z ∷ []) l = absurd (omega arith)
word_spells (x ∷ y ∷ z ∷ w ∷ []) l = absurd (omega arith)
word_spells (x ∷ y ∷ z ∷ w ∷ p ∷ []) l = absurd (omega arith)
word_spells (x ∷ y ∷ z ∷ w ∷ p ∷ q ∷ []) l = absurd (omega arith)
word_spells (x ∷ y ∷ z ∷ w ∷ p ∷ q ∷ r ∷ []) l = absurd (omega arith)
word_spells (x ∷ y ∷ z ∷ w ∷ p ∷ q ∷ r ∷ s ∷ a) l = omega arith

first_bytes : (n : ℕ) (a : List ℕ) → AreBytes a → AreBytes (take n a)
first_bytes zero a h i = omega arith
first_bytes (suc n) [] h i = omega arith
first_bytes (suc n) (x ∷ a) h zero = h 0
first_bytes (suc n) (x ∷ a) h (suc i) = first_bytes n a (λ j. h (suc j)) i

-- as numbers two words lie as their bytes do
pub word_cmp : (a b : List ℕ) → 8 ≤ length a → 8 ≤ length b → AreBytes a → AreBytes b → nat_cmp (from_be_bytes w64 a) (from_be_bytes w64 b) ≡ slice_cmp nat_cmp (take 8 a) (take 8 b)
word_cmp a b p q g h =
    ap₂ nat_cmp (word_spells a p) (word_spells b q)
    ∙ spells_cmp 0 (take 8 a) (take 8 b) (length-take-le 8 a p ∙ sym (length-take-le 8 b q)) (first_bytes 8 a g) (first_bytes 8 b h)

-- if the first n bytes are alike, those after the first m of them decide
pub same_start : (m n : ℕ) (a b : List ℕ) → m ≤ n → slice_cmp nat_cmp (take n a) (take n b) ≡ Equal → slice_cmp nat_cmp a b ≡ slice_cmp nat_cmp (drop m a) (drop m b)
same_start zero n a b l h = refl
same_start (suc m) zero a b l h = absurd (omega arith)
same_start (suc m) (suc n) [] [] l h = refl
same_start (suc m) (suc n) [] (y ∷ b) l h = absurd cc
same_start (suc m) (suc n) (x ∷ a) [] l h = absurd cc
same_start (suc m) (suc n) (x ∷ a) (y ∷ b) l h = by (nat_cmp x y) h (same_start m n a b (omega arith))
  where
    by : (o : Ordering) → ordering_then o (slice_cmp nat_cmp (take n a) (take n b)) ≡ Equal
        → (slice_cmp nat_cmp (take n a) (take n b) ≡ Equal → slice_cmp nat_cmp a b ≡ slice_cmp nat_cmp (drop m a) (drop m b)) → ordering_then o (slice_cmp nat_cmp a b) ≡ slice_cmp nat_cmp (drop m a) (drop m b)
    by Less e rest = absurd cc
    by Equal e rest = rest e
    by Greater e rest = absurd cc

not_ne : (o : Ordering) → is_ne o ≡ false → o ≡ Equal
not_ne Less h = absurd cc
not_ne Equal h = refl
not_ne Greater h = absurd cc

-- if words differ they decide
pub told : (n : ℕ) (a b : List ℕ) (o : Ordering) → o ≡ slice_cmp nat_cmp (take n a) (take n b) → is_ne o ≡ true → o ≡ slice_cmp nat_cmp a b
told n a b o e h = by o e h ∙ sym (cut_cmp n a b)
  where
    by : (p : Ordering) → p ≡ slice_cmp nat_cmp (take n a) (take n b) → is_ne p ≡ true → p ≡ ordering_then (slice_cmp nat_cmp (take n a) (take n b)) (slice_cmp nat_cmp (drop n a) (drop n b))
    by Less e h = ap (λ p. ordering_then p (slice_cmp nat_cmp (drop n a) (drop n b))) e
    by Equal e h = absurd cc
    by Greater e h = ap (λ p. ordering_then p (slice_cmp nat_cmp (drop n a) (drop n b))) e

-- if they are alike, what is after them decides, or after a part of them
pub untold : (m n : ℕ) (a b : List ℕ) (o : Ordering) → m ≤ n → o ≡ slice_cmp nat_cmp (take n a) (take n b) → is_ne o ≡ false → slice_cmp nat_cmp (drop m a) (drop m b) ≡ slice_cmp nat_cmp a b
untold m n a b o l e h = sym (same_start m n a b l (sym e ∙ not_ne o h))

-- zeros after a text

pub zeros : (n : ℕ) → IsPadded (replicate n 0) 0
zeros zero i l = refl
zeros (suc n) zero l = refl
zeros (suc n) (suc i) l = zeros n i zero-le

pub zeros_behind : (a d : List ℕ) (n : ℕ) → IsPadded d 0 → IsPadded (a ++ drop n d) (length a)
zeros_behind [] d n h i l = get_or-drop n d i 0 ∙ h (n + i) zero-le
zeros_behind (x ∷ a) d n h zero l = absurd (omega arith)
zeros_behind (x ∷ a) d n h (suc i) l = zeros_behind a d n h i (omega arith)

-- all bytes from a place on
pub from_place : (m n : ℕ) (a b : List ℕ) (o : Ordering) → length a ≡ m + n → length b ≡ m + n → o ≡ slice_cmp nat_cmp (take 8 (take n (drop m a))) (take 8 (take n (drop m b))) → o ≡ slice_cmp nat_cmp (take 8 (drop m a)) (take 8 (drop m b))
from_place m n a b o p q e =
    e ∙ ap₂ (λ u v. slice_cmp nat_cmp (take 8 u) (take 8 v)) (take_all n (drop m a) (omega (arith, length-drop m a))) (take_all n (drop m b) (omega (arith, length-drop m b)))
