-- Which shards of a write come next, and which came.
use Rattle.std.specs.Prelude.{◌≡◌, ◌≤◌, ◌<◌, ◌↔◌, ◌++◌, ℕ, zero, suc, true, List, [], ◌∷◌, map, Option, Some, None, IsBitSet, if◌then◌else◌}
use Rattle.tuples.specs.declared.entry.Entry.{Entry}
use Rattle.tuples.specs.declared.entry.WriteId.{WriteId}
use Rattle.tuples.specs.Parts.{takes_part}
use Rattle.decisions.specs.Values.{TicketValue, VoteValue}

-- The first shard from a number on that takes part in the write; none if none does.
abbrev pub IsNextShard : ℕ → Entry → ℕ → Option ℕ → Type 0
IsNextShard shards w from None = (s : ℕ) → from ≤ s → s < shards → takes_part shards s w ≡ true → ⊥
IsNextShard shards w from (Some s) = (from ≤ s) × (s < shards) × (takes_part shards s w ≡ true) × ((t : ℕ) → from ≤ t → t < s → takes_part shards t w ≡ true → ⊥)

-- the shards below a number that take part in the write, rising
unfoldable pub participants_below : ℕ → Entry → ℕ → List ℕ
participants_below shards w zero = []
participants_below shards w (suc n) = participants_below shards w n ++ (if takes_part shards n w then n ∷ [] else [])

-- these bits are those of the participants of the write
abbrev pub ArePartsOf : ℕ → ℕ → Entry → Type 0
ArePartsOf bits shards w = (s : ℕ) → IsBitSet bits s ↔ (takes_part shards s w ≡ true)

-- the shards of tickets and of votes
abbrev pub ticket_shards : List (ℕ × TicketValue) → List ℕ
ticket_shards = map (λ (t : ℕ × TicketValue). t.0)

abbrev pub vote_shards : List VoteValue → List ℕ
vote_shards = map (λ (v : VoteValue). v.shard)

-- the ids of the writes that they are for, and this one as many times
abbrev pub ticket_ids : List (ℕ × TicketValue) → List WriteId
ticket_ids = map (λ (t : ℕ × TicketValue). t.1.id)

abbrev pub vote_ids : List VoteValue → List WriteId
vote_ids = map (λ (v : VoteValue). v.id)

-- all of them are for this write
abbrev pub AreTicketsFor : WriteId → List (ℕ × TicketValue) → Type 0
AreTicketsFor id tickets = ticket_ids tickets ≡ map (λ (t : ℕ × TicketValue). id) tickets

abbrev pub AreVotesFor : WriteId → List VoteValue → Type 0
AreVotesFor id votes = vote_ids votes ≡ map (λ (v : VoteValue). id) votes
