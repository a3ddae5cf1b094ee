-- What is told of a memory that is alike to the replay of the records.
use Rattle.std.proofs.Common.{◌≡◌, ℕ, Bool, true, false, List, [], ◌∷◌, sym, ap, ◌∙◌, subst, All}
use Rattle.std.proofs.lemmas.List.Elements.{All-nil, All-cons, All-head, All-tail}
use Rattle.tuples.specs.declared.tuple.Tuple.{Tuple}
use Rattle.tuples.specs.declared.change.Condition.{Condition}
use Rattle.tuples.specs.declared.entry.Entry.{Entry}
use Rattle.tuples.specs.Log.{meets_want}
use Rattle.tuples.specs.Versions.{last_version, there_at}
use Rattle.records.specs.Replays.{ShardState, find_in_doubt, is_held, named}
use Rattle.versions.proofs.Alike.{last_alike, there_at_alike}
use Rattle.replay.specs.Alike.{IsAlike}
use Rattle.replay.proofs.Alike.{alike_sym}
use Rattle.shard.specs.Shards.{AreFree, AskBelow, HoldHere, IsBroken, IsPreparable}

pub free_alike : {a b : ShardState} → IsAlike a b → (w : Entry) → AreFree a w → AreFree b w
free_alike h w free = record {
  new = ap (find_in_doubt w.id) (sym h.in_doubt) ∙ free.new;
  tuples = subst (λ (ws : List Entry). All (λ (t : Tuple). is_held t ws ≡ false) (named w)) h.in_doubt free.tuples;
}

-- whether the condition holds there
abbrev holds_there : ShardState → Condition → Bool
holds_there s c = meets_want c.want (last_version s.rows c.tuple) (there_at s.rows s.learned c.tuple)

same_there : {a b : ShardState} → IsAlike a b → (c : Condition) → holds_there a c ≡ holds_there b c
same_there {a} {b} h c =
    ap (λ (n : ℕ). meets_want c.want n (there_at a.rows a.learned c.tuple)) (last_alike h.rows c.tuple)
    ∙ ap (λ (t : Bool). meets_want c.want (last_version b.rows c.tuple) t) (there_at_alike h.rows a.learned c.tuple ∙ ap (λ (n : ℕ). there_at b.rows n c.tuple) h.learned)

pub hold_alike : {a b : ShardState} → IsAlike a b → (cs : List Condition) → HoldHere a cs → HoldHere b cs
hold_alike {a} {b} h [] hold = All-nil _
hold_alike {a} {b} h (c ∷ cs) hold =
    All-cons (λ (c : Condition). holds_there b c ≡ true) c cs
    (sym (same_there h c) ∙ All-head (λ (c : Condition). holds_there a c ≡ true) c cs hold)
    (hold_alike h cs (All-tail (λ (c : Condition). holds_there a c ≡ true) c cs hold))

above_alike : {a b : ShardState} → IsAlike a b → (w : Entry) → (AskBelow a.horizon w.conditions → ⊥) → AskBelow b.horizon w.conditions → ⊥
above_alike h w above below = above (subst (λ (n : ℕ). AskBelow n w.conditions) (sym h.horizon) below)

pub preparable_alike : {a b : ShardState} → IsAlike a b → (w : Entry) → IsPreparable a w → IsPreparable b w
preparable_alike h w able = record {
  above = above_alike h w able.above;
  free = free_alike h w able.free;
  hold = hold_alike h w.conditions able.hold;
}

pub broken_alike : {a b : ShardState} → IsAlike a b → (w : Entry) → IsBroken a w → IsBroken b w
broken_alike h w broken = record {
  above = above_alike h w broken.above;
  free = free_alike h w broken.free;
  broken = λ hold. broken.broken (hold_alike (alike_sym h) w.conditions hold);
}
