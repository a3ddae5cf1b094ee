-- Devices that nobody has written to are tied to the empty list.
use Rattle.std.proofs.Common.{◌≡◌, ℕ, List, [], Some, refl, sym, ◌∙◌, ap, subst, arith}
use Rattle.std.proofs.lemmas.Option.{same_Some}
use Rattle.ties.proofs.Words.{AreAlike, AreRowsOf, IsLonger, of_shard, Record, State}
use Rattle.tuples.specs.Versions.{collected, versions}
use Rattle.device.specs.Device.{left}
use Rattle.device.proofs.States.{unmade_left}
use Rattle.records.specs.Coordinators.{coordinator_state}
use Rattle.records.specs.Replays.{shard_state}
use Rattle.journal.specs.Records.{Finds, found}
use Rattle.journal.proofs.Joined.{found_nothing}
use Rattle.ties.specs.RestingLaws.{IsUnmade, UnmadeNodesAreTied}

finds_nothing : (a b : State) (rs : List Record) → IsUnmade a → IsUnmade b → Finds (left a) (left b) rs → rs ≡ []
finds_nothing a b rs un_a un_b (x, y, in_x, in_y, is) =
    let none : Some [] ≡ Some rs = sym (ap (λ (c : List ℕ). found c y) (unmade_left a x un_a.durable un_a.written in_x) ∙ ap (found []) (unmade_left b y un_b.durable un_b.written in_y) ∙ found_nothing) ∙ is in
    sym (same_Some [] rs none)

empty_longer : IsLonger [] 0 [] (coordinator_state [])
unfolding coordinator_state
empty_longer = record {
  more = [];
  are = record { decisions = refl; base = omega arith; within = omega arith };
  listed = record { whole = λ j w none. absurd cc; new = λ i j v w none. absurd cc; given = λ j w none. absurd cc };
  raised = omega arith;
  within = omega arith;
  past = λ j x none. absurd cc;
}

no_rows : (shards s : ℕ) → of_shard shards s (versions [] 0 0) ≡ []
unfolding versions collected
no_rows shards s = refl

empty_rows : (shards s : ℕ) → AreRowsOf shards s [] 0 (shard_state [])
unfolding shard_state
empty_rows shards s = record {
  learned = omega arith;
  horizon = omega arith;
  within = omega arith;
  whole = λ j w none. absurd cc;
  rows = subst (AreAlike (shard_state []).rows) (sym (no_rows shards s)) (record { each = λ t. refl });
}

pub unmade_nodes_are_tied : {D : Type 0} (state : D → State) (honest : D → Type 0) → UnmadeNodesAreTied state honest
unmade_nodes_are_tied state honest a b honest_a honest_b un_a un_b = (
  record {
    honest_a = honest_a;
    honest_b = honest_b;
    each = λ rs finds. subst (λ (l : List Record). IsLonger [] 0 [] (coordinator_state l)) (sym (finds_nothing (state a) (state b) rs un_a un_b finds)) empty_longer;
  },
  λ shards s. record {
    honest_a = honest_a;
    honest_b = honest_b;
    each = λ rs finds. subst (λ (l : List Record). AreRowsOf shards s [] 0 (shard_state l)) (sym (finds_nothing (state a) (state b) rs un_a un_b finds)) (empty_rows shards s);
  },
)
