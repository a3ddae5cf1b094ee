-- The versions that are a node's, of one memory after another.
use Rattle.std.proofs.Common.{◌≡◌, ◌≤◌, ℕ, List, Bor, map, take, length, ◌∙◌, ap}
use Rattle.std.specs.Global.{Vec}
use Rattle.std.specs.Vec.{vec_capacity, vec_len}
use Rattle.std.proofs.lemmas.List.{take_all}
use Rattle.std.specs.List.{AllByRecursion}
use Rattle.std.specs.List.Sorted.{IsSorted}
use Rattle.records.specs.Identity.{Identity}
use Rattle.records.specs.Replays.{ShardState}
use Rattle.tuples.specs.declared.version.Version.{Version}
use Rattle.tuples.specs.Versions.{of_shard}
use Rattle.versions.specs.Rows.{version_cmp}
use Rattle.reshard.specs.Memories.{lists_of}
use Rattle.reshard.specs.Merging.{merged}
use Rattle.reshard.proofs.Merged.{merged_passed}

-- those that are the node's, of each memory
abbrev pub own_of : Identity → List (Bor ShardState) → List (List Version)
own_of me memories = map (of_shard me.shards me.node) (lists_of memories)

pub record OwnSoFar (me : Identity) (memories : Vec (Bor ShardState)) (count : ℕ) (owns : Vec (List Version)) : Type 0 where
  pub items : owns.items ≡ own_of me (take count memories.items)
  pub len : vec_len owns ≡ count
  pub room : vec_len memories ≤ vec_capacity owns

pub all_own : (me : Identity) (memories : Vec (Bor ShardState)) (count : ℕ) (owns : Vec (List Version)) → OwnSoFar me memories count owns → length memories.items ≤ count → AllByRecursion (IsSorted version_cmp) (lists_of memories.items)
    → merged owns.items ≡ of_shard me.shards me.node (merged (lists_of memories.items))
all_own me memories count owns so_far all each =
    ap merged (so_far.items ∙ ap (own_of me) (take_all count memories.items all)) ∙ merged_passed _ (lists_of memories.items) each
