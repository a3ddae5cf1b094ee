-- An opening that ends for lack of memory has touched no device: they rest if they rested.
use Rattle.std.proofs.Common.{inl, ℕ, List, [], refl}
use Rattle.std.proofs.lemmas.List.Elements.{All-nil}
use Rattle.headline.proofs.Words.{FoundHorizon, IsOfOpening, IsThere, Machine, NodeName, Record, RestsOver, State, at_shards, coordinator, left, shard, stops, stops_since}
use Rattle.laws.specs.Stops.{RestsBetween}
use Rattle.turns.specs.Reopens.{HandsBack}

module _ {D : Type 0} (state : D → State) (honest : D → Type 0) (moment : D → ℕ) (left_since : D → ℕ → List ℕ → Type 0)
    (only_now : (d : D) (c : List ℕ) → honest d → left_since d (moment d) c → left (state d) c) (store shards : ℕ) (devices : NodeName → D × D) where
  module _ (m : Machine) (rests : RestsOver state honest store shards devices m) where
    -- since this moment a stop leaves what it may leave now
    now_left : (n : NodeName) (rs : List Record) → IsThere shards n → stops_since state honest moment left_since store shards devices devices n rs → stops state honest store shards devices n rs
    now_left n rs there is = (
      is.0,
      is.1,
      only_now (devices n).0 is.0 (rests.sound.honest_a n there) is.2,
      only_now (devices n).1 is.1 (rests.sound.honest_b n there) is.3,
      is.4,
    )

    between : RestsBetween store shards m m (stops_since state honest moment left_since store shards devices devices coordinator) (at_shards (stops_since state honest moment left_since store shards devices devices))
    between found is =
        let one = rests.rests.each found (now_left coordinator found tt is) in
        inl (record {
          n = one.0;
          holds = one.1;
          within = one.2;
          means = record { image = one.3.image; decided = one.3.decided; each_shard = λ s rs lt at_shard. one.3.each_shard s rs lt (now_left (shard s) rs lt at_shard) };
        })

  pub hands_back : HandsBack state honest moment left_since store shards devices devices
  hands_back m told rests told_all = (
    record {
      after = m;
      opened = record { moves = []; machine = refl; allowed = All-nil (IsOfOpening (FoundHorizon state honest moment left_since store shards devices)) };
      rests = rests;
      told_before = told_all;
    },
    record {
      rests = between m rests;
      readable = λ n a b there is_a is_b. rests.sound.readable n a b there (only_now (devices n).0 a (rests.sound.honest_a n there) is_a) (only_now (devices n).1 b (rests.sound.honest_b n there) is_b);
      given = λ id given found is. given found (now_left m rests coordinator found tt is);
    },
  )
