-- What is found of devices rests if these rest: what follows a list that a closed gate ends counts for nothing.
use Rattle.std.proofs.Common.{◌≡◌, ◌+◌, ◌*◌, ⊎_elim, inl, ℕ, List, [], ◌∷◌, ◌++◌, length, Option, refl, sym, ◌∙◌, ap, append_assoc, arith}
use Rattle.device.specs.Device.{State}
use Rattle.gated.specs.Gated.{IsSpelled, gated, spelled}
use Rattle.gated.proofs.Spelled.{spelled-split}
use Rattle.gated.proofs.Splitting.{spelled_list}
use Rattle.journal.specs.Records.{bank_records, found, of_current, then_batches}
use Rattle.laws.specs.Nodes.{IsThere, NodeName, coordinator, shard}
use Rattle.records.specs.declared.record.Record.{Record}
use Rattle.stores.specs.Stores.{AreSound, stops}
use Rattle.headline.specs.Found.{AreFoundOf, CountsForNothing, IsFoundIn, IsFoundOf, WhatIsFoundRests}
use Rattle.headline.specs.Promised.{devices_at}
use Rattle.headline.proofs.Likewise.{rest_likewise}

spelled_longer : (content more : List ℕ) (bodies : List (List ℕ)) (end : ℕ) → IsSpelled content bodies end → IsSpelled (content ++ more) bodies end
spelled_longer content more bodies end is = record {
  gate = is.gate;
  rest = is.rest ++ more;
  fit = is.fit;
  closed = is.closed;
  content_is = ap (λ (c : List ℕ). c ++ more) (is.content_is ∙ spelled-split bodies (is.gate ∷ is.rest)) ∙ append_assoc (spelled bodies []) (is.gate ∷ is.rest) more
      ∙ sym (spelled-split bodies (is.gate ∷ is.rest ++ more));
  end_is = is.end_is;
}

same_list : (content seen : List ℕ) → IsFoundIn content seen → gated seen ≡ gated content
same_list content seen is = ⊎_elim
    (λ same. ap gated same)
    (λ longer. ap gated longer.4 ∙ spelled_list (content ++ longer.2) longer.0 longer.1 (spelled_longer content longer.2 longer.0 longer.1 longer.3)
    ∙ sym (spelled_list content longer.0 longer.1 longer.3))
    is

pub same_records : (a b seen_a seen_b : List ℕ) → IsFoundIn a seen_a → IsFoundIn b seen_b → found seen_a seen_b ≡ found a b
unfolding found
same_records a b seen_a seen_b in_a in_b =
    ap (λ (l : Option (List (List ℕ))). of_current (then_batches l) (bank_records seen_b)) (same_list a seen_a in_a)
    ∙ ap (λ (l : Option (List (List ℕ))). of_current (bank_records a) (then_batches l)) (same_list b seen_b in_b)

pub what_stands_behind_counts_for_nothing : CountsForNothing
what_stands_behind_counts_for_nothing = record { list = same_list; records = same_records }

module _ {D : Type 0} (state : D → State) (honest : D → Type 0) where
  -- an honest device is found of itself
  pub found_itself : (d : D) → honest d → IsFoundOf state honest d d
  found_itself d is_honest = record { is_honest = is_honest; each = λ seen is. (seen, is, inl refl) }

  module _ (store shards : ℕ) (old new : NodeName → D × D)
      (are : (n : NodeName) → IsThere shards n → IsFoundOf state honest (old n).0 (new n).0 × IsFoundOf state honest (old n).1 (new n).1) where
    was_left : (n : NodeName) (rs : List Record) → IsThere shards n → stops state honest store shards new n rs → stops state honest store shards old n rs
    was_left n rs there (seen_a, seen_b, in_a, in_b, is) =
        let a = (are n there).0.each seen_a in_a in
        let b = (are n there).1.each seen_b in_b in
        (a.0, b.0, a.1, b.1, sym (same_records a.0 b.0 seen_a seen_b a.2 b.2) ∙ is)

    are_sound : AreSound state honest store shards old → AreSound state honest store shards new
    are_sound sound = record {
      honest_a = λ n there. (are n there).0.is_honest;
      honest_b = λ n there. (are n there).1.is_honest;
      readable = λ n seen_a seen_b there in_a in_b.
          let a = (are n there).0.each seen_a in_a in
          let b = (are n there).1.each seen_b in_b in
          let read = sound.readable n a.0 b.0 there a.1 b.1 in
          (read.0, same_records a.0 b.0 seen_a seen_b a.2 b.2 ∙ read.1);
    }

  module _ (shards : ℕ) (any : D) (olds news : List D) (count : length olds ≡ 2 * (shards + 1)) (found_of : AreFoundOf state honest olds news) where
    -- the devices of each node that is there are among them
    at_nodes : (n : NodeName) → IsThere shards n
        → IsFoundOf state honest (devices_at any olds n).0 (devices_at any news n).0 × IsFoundOf state honest (devices_at any olds n).1 (devices_at any news n).1
    at_nodes coordinator there = (found_of.each 0 any (omega (arith, count)), found_of.each 1 any (omega (arith, count)))
    at_nodes (shard s) there = (found_of.each (2 * (s + 1)) any (omega (arith, count, there)), found_of.each (2 * (s + 1) + 1) any (omega (arith, count, there)))

  pub what_is_found_rests : (moment : D → ℕ) (left_since : D → ℕ → List ℕ → Type 0) → WhatIsFoundRests state honest moment left_since
  what_is_found_rests moment left_since store shards any olds news m count found_of rests =
      let are = at_nodes shards any olds news count found_of in
      rest_likewise state honest moment left_since store shards (devices_at any olds) (devices_at any news) (are_sound store shards (devices_at any olds) (devices_at any news) are)
      (was_left store shards (devices_at any olds) (devices_at any news) are) m rests
