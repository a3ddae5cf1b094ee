-- Votes counted one after another: the bits of the shards whose votes are missing.
use Rattle.std.proofs.Common.{◌≡◌, ◌≢◌, ◌⊎◌, inl, inr, ⊎_elim, ◌↔◌, ◌<◌, ◌≤◌, ◌*◌, ◌^◌, ◌++◌, ℕ, true, List, [], ◌∷◌, length, take, get_or, All, Contains, refl, sym, ap, ◌∙◌, subst, arith, bit_and}
use Rattle.std.specs.List.{AllPairs}
use Rattle.std.specs.Int.{IsBitSet, bit_at}
use Rattle.std.proofs.lemmas.Bool.{cases_eq}
use Rattle.std.proofs.lemmas.List.{get_or-take, length-take-le}
use Rattle.std.proofs.lemmas.List.Elements.{All-get_or, All-push, Contains-append_left, Contains-get_or, Contains-push, Contains-push_cases, at_read}
use Rattle.std.proofs.lemmas.List.Quantifiers.{all_pairs_push}
use Rattle.std.proofs.lemmas.Nat.{and_le_l}
use Rattle.std.proofs.lemmas.Nat.Bits.{and_pow, bit_at-lt, bit_at-zero, same_from_bits_below}
use Rattle.std.proofs.Math.Nat.{one-le-pow}
use Rattle.tuples.specs.declared.entry.Entry.{Entry}
use Rattle.tuples.specs.Parts.{takes_part}
use Rattle.decisions.specs.Values.{VoteValue}
use Rattle.decisions.specs.Coordinators.{HaveVoted, IsVoteFor}

abbrev pub AreApart : List VoteValue → Type 0
AreApart votes = AllPairs (λ (v u : VoteValue). v.shard ≢ u.shard) votes

-- these votes are of shards that take part, no two of one shard, and the bits are those of the shards that take part and have not voted
pub record AreCounted (shards : ℕ) (w : Entry) (votes : List VoteValue) (missing : ℕ) : Type 0 where
  pub own : All (IsVoteFor shards w) votes
  pub once : AreApart votes
  pub small : missing < 2 ^ shards
  pub left : (s : ℕ) → s < shards → IsBitSet missing s → (takes_part shards s w ≡ true) × ((v : VoteValue) → Contains votes v → v.shard ≢ s)
  pub counted : (s : ℕ) → s < shards → takes_part shards s w ≡ true → IsBitSet missing s ⊎ ((v : VoteValue) × Contains votes v × (v.shard ≡ s))

module _ (shards missing later few : ℕ) (w : Entry) (votes : List VoteValue) (v : VoteValue) (fits : shards ≤ few) (counts : AreCounted shards w votes missing) (own : IsVoteFor shards w v)
    (was_missing : IsBitSet missing v.shard) (fewer : later ≤ missing) (without : (s : ℕ) → s < few → IsBitSet later s ↔ (IsBitSet missing s × (s ≢ v.shard))) where
  below : (s : ℕ) → s < shards → s < few
  below s lt = omega (arith, lt, fits)

  other_shards : (k : ℕ) (d : VoteValue) → k < length votes → (get_or votes k d).shard ≢ v.shard
  other_shards k d lt = (counts.left v.shard own.shard was_missing).1 (get_or votes k d) (Contains-get_or votes k d lt)

  still_left : (s : ℕ) → s < shards → IsBitSet later s → (takes_part shards s w ≡ true) × ((u : VoteValue) → Contains (votes ++ v ∷ []) u → u.shard ≢ s)
  still_left s lt set =
      let was = (without s (below s lt)).0 set in
      let before = counts.left s lt was.0 in (
        before.0,
        λ u there. ⊎_elim
            (λ early. before.1 u early)
            (λ is same. was.1 (sym same ∙ ap (λ (x : VoteValue). x.shard) (sym is)))
            (Contains-push_cases votes v u there),
      )

  now_counted : (s : ℕ) → s < shards → takes_part shards s w ≡ true → IsBitSet later s ⊎ ((u : VoteValue) × Contains (votes ++ v ∷ []) u × (u.shard ≡ s))
  now_counted s lt takes = ⊎_elim
      (λ here. inr (v, Contains-push votes v, sym here))
      (λ other. ⊎_elim
      (λ set. inl ((without s (below s lt)).1 (set, other)))
      (λ before. inr (before.0, Contains-append_left votes (v ∷ []) before.0 before.1, before.2))
      (counts.counted s lt takes))
      (cases_eq s v.shard)

  -- one vote more, of a shard that was missing
  pub one_counted : AreCounted shards w (votes ++ v ∷ []) later
  one_counted = record {
    own = All-push (IsVoteFor shards w) votes v counts.own own;
    once = all_pairs_push (λ (x u : VoteValue). x.shard ≢ u.shard) votes v counts.once other_shards;
    small = let s = counts.small in omega (arith, s, fewer);
    left = still_left;
    counted = now_counted;
  }

no_bit : (s : ℕ) → IsBitSet 0 s → ⊥
no_bit s set = let le = and_le_l 0 (2 ^ s) in set (omega (arith, le))

-- if no vote is missing, all have voted
pub all_counted : (shards : ℕ) (w : Entry) (votes : List VoteValue) → AreCounted shards w votes 0 → HaveVoted shards w votes
all_counted shards w votes counts = record {
  each = λ s lt takes. ⊎_elim (λ set. absurd (no_bit s set)) (λ voted. voted) (counts.counted s lt takes);
  own = counts.own;
  once = counts.once;
}

-- of the votes that have to be there, the next one is of a shard that was missing
module _ (shards : ℕ) (w : Entry) (votes : List VoteValue) (i : ℕ) (v : VoteValue) (lt : i < length votes) (at : v ≡ get_or votes i v) (have : HaveVoted shards w votes) where
  pub next_is_own : IsVoteFor shards w v
  next_is_own = subst (IsVoteFor shards w) (sym at) (All-get_or (IsVoteFor shards w) votes i v lt have.own)

  not_before : (u : VoteValue) → Contains (take i votes) u → u.shard ≢ v.shard
  not_before u there same =
      let within : there.0 < length (take i votes) = there.1 in
      let len : length (take i votes) ≡ i = length-take-le i votes (omega (arith, lt)) in
      let early : there.0 < i = omega (arith, within, len) in
      let first : get_or votes there.0 u ≡ u = sym (get_or-take i votes there.0 u early) ∙ there.2 in
      let second : get_or votes i u ≡ v = at_read votes (λ (x : VoteValue). x ≡ v) i v lt at refl u in
      have.once there.0 i u early lt (ap (λ (x : VoteValue). x.shard) first ∙ same ∙ ap (λ (x : VoteValue). x.shard) (sym second))

  pub next_was_missing : (missing : ℕ) → AreCounted shards w (take i votes) missing → IsBitSet missing v.shard
  next_was_missing missing counts = ⊎_elim
      (λ set. set)
      (λ before. absurd (not_before before.0 before.1 before.2))
      (counts.counted v.shard next_is_own.shard next_is_own.participant)

-- a number with no bit set below its size is 0
no_bits : (n size : ℕ) → n < 2 ^ size → ((k : ℕ) → k < size → IsBitSet n k → ⊥) → n ≡ 0
no_bits n size small none = same_from_bits_below size n 0 small (one-le-pow size 2 (omega arith)) (λ k lt. unset k (none k lt) ∙ sym (bit_at-zero k))
  where
    unset : (k : ℕ) → (IsBitSet n k → ⊥) → bit_at n k ≡ 0
    unset k out = ⊎_elim
        (λ one. absurd (out (λ worth.
        let e : bit_and n (2 ^ k) ≡ 1 * 2 ^ k = and_pow n k ∙ ap (λ (b : ℕ). b * 2 ^ k) one in
        let some = one-le-pow k 2 (omega arith) in
        omega (arith, e, some, worth))))
        (λ other. let lt = bit_at-lt n k in omega (arith, lt, other))
        (cases_eq (bit_at n k) 1)

-- if all have voted, no vote is missing
pub none_missing : (shards : ℕ) (w : Entry) (votes : List VoteValue) (missing : ℕ) → AreCounted shards w votes missing → HaveVoted shards w votes → missing ≡ 0
none_missing shards w votes missing counts have = no_bits missing shards counts.small (λ s lt set.
    let was = counts.left s lt set in
    let voted = have.each s lt was.0 in
    was.1 voted.0 voted.1 voted.2)
