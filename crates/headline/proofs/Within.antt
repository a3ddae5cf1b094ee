-- What a stop may leave of two devices at any moment since a node over them was opened again.
use Rattle.std.proofs.Common.{◌≡◌, ◌⊎◌, inl, inr, ⊎_elim, ◌≤◌, ◌++◌, ℕ, List, [], ◌∷◌, Some, refl, sym, ◌∙◌, subst, arith}
use Rattle.headline.proofs.Words.{Finds, IsRevived, LeavesBoth, Record, Revived, State, found, left}
use Rattle.device.specs.Device.{Leaves}
use Rattle.device.proofs.Moments.{leaves_itself}
use Rattle.device.proofs.States.{kept_left, revived_left}
use Rattle.journal.specs.Records.{WasLeftOrFound}

-- a device that was revived is found as it is, were it revived again
pub found_again : (old new : State) → Revived old new → Revived new new
found_again old new r = record {
  found = subst (λ (w : List (ℕ × ℕ)). Leaves new.durable w new.seen) (sym r.written) (subst (λ (d : List ℕ). Leaves d [] new.seen) (sym r.durable) (leaves_itself new.seen));
  durable = r.durable;
  written = r.written;
  stopped = r.stopped;
}

-- at a moment of an opening the contents have the records of some that could be left before it, or those that were found with the record of the opening
abbrev pub WasLeftOrLonger : (List Record → Type 0) → (List Record → Record) → State → State → List ℕ → List ℕ → Type 0
WasLeftOrLonger image opening sa sb c d = WasLeftOrFound sa sb c d ⊎ ((rs : List Record) × (found sa.seen sb.seen ≡ Some rs) × image (rs ++ opening rs ∷ []) × (found c d ≡ Some (rs ++ opening rs ∷ [])))

module _ {D : Type 0} (state : D → State) (honest : D → Type 0) (moment : D → ℕ) (left_since : D → ℕ → List ℕ → Type 0)
    (counts_now : (d : D) (t : ℕ) (c : List ℕ) → honest d → t ≤ moment d → left (state d) c → left_since d t c) (only_now : (d : D) (c : List ℕ) → honest d → left_since d (moment d) c → left (state d) c) where
  -- so it is in the words of an opening
  pub less_left : (old new : D) → honest old → IsRevived state honest moment left_since old new → (c : List ℕ) → left (state new) c → left (state old) c
  less_left old new hon revived c is = ⊎_elim
      (λ was. revived_left (state old) (state new) (was.0 hon) c is)
      (λ failed. kept_left (state old) (state new) (failed.0 hon) c is)
      revived.found

  -- and at every moment since before the device was revived
  less_since : (old new : D) → honest old → IsRevived state honest moment left_since old new → (c : List ℕ) → left_since new (moment old) c → left (state old) c
  less_since old new hon revived c is = ⊎_elim
      (λ was. only_now old c hon was)
      (λ now. less_left old new hon revived c now)
      ((revived.time hon).nothing_else (moment old) c (omega arith) is)

  -- The devices of a node, and those that an opening of it left: both were revived, and the opening was over these; or one failed as it was revived. With
  -- what the records of an opening are.
  pub record AreOpenedOver (image : List Record → Type 0) (opening : List Record → Record) (old_a old_b new_a new_b : D) : Type 0 where
    pub a : D
    pub b : D
    pub revived_a : IsRevived state honest moment left_since old_a a
    pub revived_b : IsRevived state honest moment left_since old_b b
    pub honest_a : honest new_a
    pub honest_b : honest new_b
    pub left_by : (Revived (state old_a) (state a) × Revived (state old_b) (state b) × LeavesBoth moment left_since a b new_a new_b (WasLeftOrLonger image opening (state a) (state b)))
        ⊎ ((new_a ≡ a) × (new_b ≡ b))

  -- records that two devices could be left with, and after them the record of an opening
  abbrev pub IsLonger : (List Record → Type 0) → (List Record → Record) → D → D → List Record → Type 0
  IsLonger image opening old_a old_b rs = (was : List Record) × Finds (left (state old_a)) (left (state old_b)) was × image (was ++ opening was ∷ []) × (rs ≡ was ++ opening was ∷ [])

  abbrev pub WasOrIsLonger : (List Record → Type 0) → (List Record → Record) → D → D → List ℕ → List ℕ → Type 0
  WasOrIsLonger image opening old_a old_b c d = (rs : List Record) × (found c d ≡ Some rs) × (Finds (left (state old_a)) (left (state old_b)) rs ⊎ IsLonger image opening old_a old_b rs)

  -- whatever these contents are, they hold records
  abbrev pub AreReadable : D → D → Type 0
  AreReadable a b = (c d : List ℕ) → left (state a) c → left (state b) d → (rs : List Record) × (found c d ≡ Some rs)

  module _ (image : List Record → Type 0) (opening : List Record → Record) (old_a old_b new_a new_b : D) (hon_a : honest old_a) (hon_b : honest old_b)
      (readable : AreReadable old_a old_b) (over : AreOpenedOver image opening old_a old_b new_a new_b) where
    -- contents with the records of some that could be left before
    read_as : (c d v w : List ℕ) → found c d ≡ found v w → left (state old_a) v → left (state old_b) w → WasOrIsLonger image opening old_a old_b c d
    read_as c d v w same in_v in_w = let rs = readable v w in_v in_w in (rs.0, same ∙ rs.1, inl (v, w, in_v, in_w, rs.1))

    could_be : (c d : List ℕ) → left (state old_a) c → left (state old_b) d → WasOrIsLonger image opening old_a old_b c d
    could_be c d in_c in_d = read_as c d c d refl in_c in_d

    of_a : (c : List ℕ) → left (state over.a) c → left (state old_a) c
    of_a = less_left old_a over.a hon_a over.revived_a

    of_b : (d : List ℕ) → left (state over.b) d → left (state old_b) d
    of_b = less_left old_b over.b hon_b over.revived_b

    -- what an opening leaves, if both devices read as they could be left
    by_opening : left (state old_a) (state over.a).seen → left (state old_b) (state over.b).seen → (c d : List ℕ) → WasLeftOrLonger image opening (state over.a) (state over.b) c d
        → WasOrIsLonger image opening old_a old_b c d
    by_opening in_a in_b c d (inl was) = read_as c d was.0 was.1 was.4 (of_a was.0 was.2) (of_b was.1 was.3)
    by_opening in_a in_b c d (inr more) = (more.0 ++ opening more.0 ∷ [], more.3, inr (more.0, ((state over.a).seen, (state over.b).seen, in_a, in_b, more.1), more.2, refl))

    pub opened_since : (c d : List ℕ) → left_since new_a (moment old_a) c → left_since new_b (moment old_b) d → WasOrIsLonger image opening old_a old_b c d
    opened_since c d in_c in_d = ⊎_elim
        (λ opens. ⊎_elim
        (λ was. read_as c d was.0 was.1 was.4 (less_since old_a over.a hon_a over.revived_a was.0 was.2) (less_since old_b over.b hon_b over.revived_b was.1 was.3))
        (λ by. by_opening opens.0.found opens.1.found c d by)
        (opens.2.before (moment old_a) (moment old_b) c d (over.revived_a.time hon_a).later (over.revived_b.time hon_b).later in_c in_d))
        (λ same. could_be c d
        (less_since old_a over.a hon_a over.revived_a c (subst (λ (x : D). left_since x (moment old_a) c) same.0 in_c))
        (less_since old_b over.b hon_b over.revived_b d (subst (λ (x : D). left_since x (moment old_b) d) same.1 in_d)))
        over.left_by

    -- and what it leaves in the end
    pub opened_now : (c d : List ℕ) → left (state new_a) c → left (state new_b) d → WasOrIsLonger image opening old_a old_b c d
    opened_now c d in_c in_d = opened_since c d (counts_now new_a (moment old_a) c over.honest_a later.0 in_c) (counts_now new_b (moment old_b) d over.honest_b later.1 in_d)
      where
        later : (moment old_a ≤ moment new_a) × (moment old_b ≤ moment new_b)
        later = ⊎_elim
            (λ opens.
            let first = (over.revived_a.time hon_a).later in
            let other = (over.revived_b.time hon_b).later in
            (omega (arith, first, opens.2.later_a), omega (arith, other, opens.2.later_b)))
            (λ same. (
              subst (λ (x : D). moment old_a ≤ moment x) (sym same.0) (over.revived_a.time hon_a).later,
              subst (λ (x : D). moment old_b ≤ moment x) (sym same.1) (over.revived_b.time hon_b).later,
            ))
            over.left_by
