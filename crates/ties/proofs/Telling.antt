-- What a coordinator tells is of the list.
use Rattle.std.proofs.Common.{◌≡◌, ℕ, zero, suc, ◌+◌, ◌-◌, List, [], ◌∷◌, length, min, take, drop, Some, slice_get, refl, sym, ◌∙◌, ap, subst, arith, ◌++◌}
use Rattle.std.proofs.lemmas.List.{drop-drop, length-take, take-append-le}
use Rattle.tuples.specs.Limits.{max_batch}
use Rattle.tuples.proofs.Lists.{slice_get_longer, slice_get_drop}
use Rattle.ties.proofs.Words.{AreWhole, Entry, kept_of, slice_get_taken, State}
use Rattle.ties.specs.TellingLaws.{BatchesAreSeen, FoundWritesStand, HeadsAreSeen, IsBatchOf}
use Rattle.laws.specs.ShardLaws.{AreOfLog}
use mathlib.Core.List.{IsPrefix}
use Rattle.decisions.specs.Values.{BatchValue}

pub heads_are_seen : {D : Type 0} (state : D → State) (honest : D → Type 0) → HeadsAreSeen state honest
heads_are_seen state honest v seen low tried tied = (sym tied.whole, sym tied.horizon, let w = tied.kept.within in omega (arith, w, tied.horizon))

-- the first of a list, as many as they are
taken_whole : (n : ℕ) (xs : List Entry) → take n xs ≡ take (length (take n xs)) xs
taken_whole zero xs = refl
taken_whole (suc n) [] = refl
taken_whole (suc n) (x ∷ xs) = ap (λ (l : List Entry). x ∷ l) (taken_whole n xs)

-- whole writes that are taken after a place are whole
whole_part : (seen : List Entry) (from n : ℕ) → AreWhole seen → AreWhole (take n (drop from seen))
whole_part seen from n whole j w is = whole (from + j) w (sym (slice_get_drop from seen j) ∙ slice_get_taken n (drop from seen) j w is)

pub batches_are_seen : {D : Type 0} (state : D → State) (honest : D → Type 0) → BatchesAreSeen state honest
batches_are_seen state honest v from to b seen low tried tied at =
    let count : ℕ = min (to - from) max_batch in
    let base : ℕ = (kept_of v).base in
    let place : base + (from - base) ≡ from = let k = tied.kept.base in let a = at.above in omega (arith, k, a) in
    let writes : b.writes ≡ take count (drop from seen) =
    at.writes ∙ ap (λ (l : List Entry). take count (drop (from - base) l)) tied.kept.decisions ∙ ap (take count) (drop-drop (from - base) base seen ∙ ap (λ n. drop n seen) place) in (
      record {
        of_list = writes ∙ taken_whole count (drop from seen) ∙ ap (λ (l : List Entry). take (length l) (drop from seen)) (sym writes) ∙ ap (λ n. take (length b.writes) (drop n seen)) (sym at.from_is);
        whole = subst AreWhole (sym writes) (whole_part seen from count (λ j w is. tied.listed.whole j w (slice_get_longer seen tied.more j w is)));
      },
      at.from_is,
    )

pub found_writes_stand : {D : Type 0} (state : D → State) (honest : D → Type 0) → FoundWritesStand state honest
found_writes_stand state honest v id place seen low tried tied found =
    let k : ℕ = (kept_of v).base + found.index in
    let there : slice_get seen k ≡ Some found.write = sym (slice_get_drop (kept_of v).base seen found.index) ∙ ap (λ (l : List Entry). slice_get l found.index) (sym tied.kept.decisions) ∙ found.there in (
      found.write,
      found.own,
      record {
        index = k;
        place_is = found.place_is;
        there = there;
        once = λ i u is same. tied.listed.new i k u found.write (slice_get_longer seen tied.more i u is) (slice_get_longer seen tied.more k found.write there) same;
      },
    )

-- a stretch of a list is one of each longer list
pub stretch_longer : (seen more : List Entry) (from : ℕ) (writes : List Entry) → AreOfLog seen from writes → AreOfLog (seen ++ more) from writes
stretch_longer seen more zero writes of_list =
    of_list ∙ sym (take-append-le (length writes) seen more (omega (arith, ap length of_list, length-take (length writes) seen)))
stretch_longer [] more (suc from) [] of_list = refl
stretch_longer [] more (suc from) (w ∷ writes) of_list = absurd (cc of_list)
stretch_longer (x ∷ seen) more (suc from) writes of_list = stretch_longer seen more from writes of_list

-- a batch of a list is one of each longer list
pub batch_longer : (seen longer : List Entry) (b : BatchValue) → IsPrefix seen longer → IsBatchOf seen b → IsBatchOf longer b
batch_longer seen longer b pre is = record { of_list = subst (λ (l : List Entry). AreOfLog l b.from b.writes) pre.1 (stretch_longer seen pre.0 b.from b.writes is.of_list); whole = is.whole }
