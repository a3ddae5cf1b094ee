-- One more write is listed, whose part each content holds.
use Rattle.std.proofs.Common.{◌≡◌, ⊎_elim, ℕ, ◌≤◌, List, [], ◌∷◌, ◌++◌, length, refl, sym, ap, subst, arith}
use Rattle.std.proofs.lemmas.List.{take-append-le, length_push}
use Rattle.laws.proofs.Words.{Entry, ShardMeans, ShardState, alike_same, alike_trans, find_in_doubt, of_shard}
use Rattle.tuples.specs.Parts.{expected}
use Rattle.tuples.specs.Versions.{versions}
use Rattle.tuples.proofs.Lists.{slice_get_push}

-- the versions of the writes before it are the same
versions_push : (log : List Entry) (w : Entry) (p h : ℕ) → p ≤ length log → versions (log ++ w ∷ []) p h ≡ versions log p h
unfolding versions
versions_push log w p h le = rw take-append-le refl

pub listed_means : (shards s : ℕ) (log : List Entry) (w : Entry) (hc h : ℕ) (state : ShardState) → find_in_doubt w.id state.in_doubt ≡ expected shards s w
    → ShardMeans shards s log hc h state → ShardMeans shards s (log ++ w ∷ []) hc h state
listed_means shards s log w hc h state prepared m = record {
  learned = omega (arith, m.learned, length_push log w);
  horizon = m.horizon;
  rows = alike_trans m.rows (alike_same _ _ (ap (of_shard shards s) (sym (versions_push log w state.learned state.horizon m.learned))));
  settled = m.settled;
  in_doubt = record {
    above = λ j v is le. ⊎_elim (λ old. m.in_doubt.above j v old le) (λ new. subst (λ (u : Entry). find_in_doubt u.id state.in_doubt ≡ expected shards s u) new.1 prepared) (slice_get_push log w v j is);
    below = λ j v is lt. ⊎_elim (λ old. m.in_doubt.below j v old lt) (λ new. absurd (omega (arith, new.0, m.learned, lt))) (slice_get_push log w v j is);
  };
}
