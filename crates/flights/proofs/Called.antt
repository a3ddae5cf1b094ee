-- A call of a shard whose devices are out.
use Rattle.std.proofs.Common.{◌≡◌, ℕ, List, Option, Some, sym, ◌∙◌, subst}
use Rattle.flights.proofs.Words.{AreRowsAround, Away, IsSoundIn, Launch, lent_honest, lent_state, NodeView, prefix_trans, shard, State, StaysIn}
use Rattle.sides.specs.Lending.{StagesMoreIn}
use Rattle.sides.specs.Sides.{IsLater, Side}
use Rattle.flights.specs.Flights.{IsOutOn}
use Rattle.flights.proofs.Rows.{around_later}

-- what left stays the first of what is staged
stays_behind : {D : Type 0} (x : Launch) (old new : Option (NodeView (Away D))) → StagesMoreIn old new → StaysIn x old → StaysIn x new
stays_behind x (Some (shard old)) (Some (shard new)) more stays = record { of = stays.of; durable = more.0 ∙ stays.durable; staged = prefix_trans x.staged old.staged new.staged stays.staged more.1 }
stays_behind x (Some (shard old)) new more stays = absurd more
stays_behind x old new more stays = absurd stays

-- Given the launches that a place knows
module _ {D : Type 0} (state : D → State) (honest : D → Type 0) (rests : Type 0) (shards : ℕ) (launches : List Launch) where
  -- a shard whose devices are out stays as they left it, and may have staged more
  pub stays_out : (old new : Side (Away D)) (launch : ℕ) → new.number ≡ old.number → IsLater old.pass new.pass → IsSoundIn (lent_state state) (lent_honest honest) new.node → StagesMoreIn old.node new.node
      → IsOutOn state honest rests shards launches old launch → IsOutOn state honest rests shards launches new launch
  stays_out old new launch number later sound more was = (
    was.0,
    was.1,
    record {
      sound = sound;
      stays = stays_behind was.0 old.node new.node more was.2.stays;
      rows = λ at. subst (λ (n : ℕ). AreRowsAround shards n was.0 new.pass) (sym number) (around_later shards old.number was.0 old.pass new.pass later (was.2.rows at));
    },
  )
