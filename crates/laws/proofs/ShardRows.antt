-- What the rows of a shard show, beside a list of whole writes of which nothing else has to be known.
use Rattle.std.proofs.Common.{◌≡◌, ⊎_elim, ◌==◌, ◌&&◌, ℕ, Bool, true, false, ◌≤◌, nat_le, List, [], ◌∷◌, map, filter, take, refl, sym, ◌∙◌, ap}
use Rattle.std.proofs.lemmas.Bool.{both_ways, cases_Bool}
use Rattle.std.proofs.Math.Bool.{and-true, and-false}
use Rattle.tuples.specs.declared.entry.Entry.{Entry}
use Rattle.tuples.specs.declared.tuple.Tuple.{Tuple}
use Rattle.tuples.specs.declared.version.Version.{Version}
use Rattle.tuples.specs.Changes.{tuple_of}
use Rattle.tuples.specs.Log.{is_at, there_after}
use Rattle.tuples.specs.Order.{tuple_eq}
use Rattle.tuples.specs.Parts.{shard_of}
use Rattle.tuples.specs.Versions.{of_shard, there_at, versions}
use Rattle.tuples.proofs.Same.{tuple_same}
use Rattle.versions.specs.Alike.{AreAlike}
use Rattle.versions.proofs.Alike.{there_at_alike}
use Rattle.laws.specs.Shards.{there_of}
use Rattle.laws.specs.Worlds.{AreWhole}
use Rattle.laws.proofs.KeptVersions.{whole_writes_give_snapshots}
use Rattle.laws.proofs.PreparableConditions.{skip, there_own}

-- the rows of a shard tell nothing of a tuple of another
there_other : (shards s place : ℕ) (t : Tuple) → (shard_of shards t.object == s) ≡ false → (rows : List Version) (b : Bool)
    → there_after t b (map (λ (v : Version). v.change) (filter (λ (v : Version). nat_le v.place place) (of_shard shards s rows))) ≡ b
there_other shards s place t other [] b = refl
there_other shards s place t other (v ∷ rows) b = ⊎_elim
    (λ its. rw its (⊎_elim
    (λ counts. rw counts (skip t b v.change _ (not_it its) ∙ there_other shards s place t other rows b))
    (λ later. rw later (there_other shards s place t other rows b))
    (cases_Bool (nat_le v.place place))))
    (λ not_its. rw not_its (there_other shards s place t other rows b))
    (cases_Bool (shard_of shards (tuple_of v.change).object == s))
  where
    not_it : (shard_of shards (tuple_of v.change).object == s) ≡ true → tuple_eq t (tuple_of v.change) ≡ false
    not_it its = ⊎_elim
        (λ is. absurd (both_ways _ other (ap (λ (u : Tuple). shard_of shards u.object == s) (tuple_same t (tuple_of v.change) is) ∙ its)))
        (λ no. no)
        (cases_Bool (tuple_eq t (tuple_of v.change)))

-- the rows of a shard show at each place from the horizon up to what it has learned which of its own tuples were there, and no others
pub rows_show_parts : (shards s : ℕ) (log : List Entry) (rows : List Version) (p h place : ℕ) (t : Tuple) → AreWhole (take p log) → AreAlike rows (of_shard shards s (versions log p h))
    → h ≤ place → place ≤ p → there_at rows place t ≡ there_of shards s log place t
unfolding there_at
rows_show_parts shards s log rows p h place t whole alike above within =
    let same : there_at rows place t ≡ there_at (of_shard shards s (versions log p h)) place t = there_at_alike alike place t in
    ⊎_elim
    (λ its.
    same
    ∙ there_own shards s place t its (versions log p h) false
    ∙ whole_writes_give_snapshots log p h place t whole above within
    ∙ sym (and-true (is_at log place t))
    ∙ ap (λ (b : Bool). is_at log place t && b) (sym its))
    (λ other.
    same
    ∙ there_other shards s place t other (versions log p h) false
    ∙ sym (and-false (is_at log place t))
    ∙ ap (λ (b : Bool). is_at log place t && b) (sym other))
    (cases_Bool (shard_of shards t.object == s))
