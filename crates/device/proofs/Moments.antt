-- How a run of calls goes on.
use Rattle.std.proofs.Common.{◌≡◌, inl, inr, ⊎_elim, ℕ, List, [], arith, refl}
use Rattle.std.proofs.lemmas.List.{ext_get_or}
use Rattle.device.specs.Device.{Leaves, LeavesOnly}

module _ {D : Type 0} (moment : D → ℕ) (left_since : D → ℕ → List ℕ → Type 0) where
  pub leaves_map : (old new : D) (P Q : List ℕ → Type 0) → ((c : List ℕ) → P c → Q c) → LeavesOnly moment left_since old new P → LeavesOnly moment left_since old new Q
  leaves_map old new P Q f l = record {
    later = l.later;
    each = λ c left. f c (l.each c left);
    before = λ t c le left. ⊎_elim (λ was. inl was) (λ p. inr (f c p)) (l.before t c le left);
  }

  pub leaves_then : (old mid new : D) (P : List ℕ → Type 0) → LeavesOnly moment left_since old mid P → LeavesOnly moment left_since mid new P → LeavesOnly moment left_since old new P
  leaves_then old mid new P first second = record {
    later = omega (arith, first.later, second.later);
    each = λ c left. ⊎_elim (first.each c) (λ p. p) (second.before (moment old) c first.later left);
    before = λ t c le left. ⊎_elim (first.before t c le) (λ p. inr p) (second.before t c (omega (arith, le, first.later)) left);
  }

pub leaves_itself : (d : List ℕ) → Leaves d [] d
leaves_itself d = record { no_shorter = omega arith; no_longer = omega arith; same = λ i lt un. refl }

pub leaves_nothing_else : (d c : List ℕ) → Leaves d [] c → c ≡ d
leaves_nothing_else d c leaves = ext_get_or 0 c d (omega (arith, leaves.no_shorter, leaves.no_longer)) (λ i lt. leaves.same i (omega (arith, lt, leaves.no_longer)) tt)
