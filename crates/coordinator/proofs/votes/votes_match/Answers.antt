use Rattle.std.proofs.Common.{◌≡◌, ◌≢◌, ◌↔◌, ◌<◌, ◌+◌, ◌++◌, ◌∷◌, [], ℕ, List, length, take, Bool, not, sym, ap, ◌∙◌, subst, arith, true, false, IsTrue, IsBitSet, ⊎_elim}
use Rattle.std.proofs.lemmas.Bool.{cases_Bool, eqb-true, eq-eqb}
use Rattle.std.proofs.lemmas.List.{take_all, take_more}
use Rattle.tuples.specs.Log.{same_id}
use Rattle.tuples.specs.declared.entry.WriteId.{WriteId}
use Rattle.holds.proofs.Doubts.{same_id_refl, same_id_true}
use Rattle.decisions.specs.Values.{VoteValue}
use Rattle.decisions.specs.Coordinators.{IsVoteFor}
use Rattle.coordinator.proofs.CountedVotes.{AreCounted, all_counted, next_is_own, next_was_missing, none_missing, one_counted}
use Rattle.coordinator.proofs.votes.votes_match.Goals.{then-ne-via-then-ne, then-ne-via-else-ne+then-shard-count, then-ne-via-else-ne+else-shard-count+then-not-is_set}
use Rattle.coordinator.proofs.votes.votes_match.Goals as goal

pub returns-then-ne : goal.returns-then-ne
returns-then-ne c = (
  λ is. absurd cc,
  λ have.
      let v = c.vote-item.result in
      let i = c.loop-vote.vote-index in
      let w = c.args.intent.now.write in
      let votes = c.args.votes.now in
      let lt : i < length votes = omega (arith, c.loop-vote-test.true) in
      let own : IsVoteFor c.args.shards w v = next_is_own c.args.shards w votes i v lt c.vote-item.is have in
      let set : IsBitSet c.loop-vote.missing v.shard = next_was_missing c.args.shards w votes i v lt c.vote-item.is have c.loop-vote.missing c.loop-vote.invariant in
      elim c.then-ne.branch [
        | then-ne-via-then-ne u ↦
            let same : c.id.result ≡ c.id-id.result = c.id.ensures ∙ own.id ∙ sym c.id-id.ensures in
            let yes : same_id c.id.result c.id-id.result ≡ true = ap (same_id c.id.result) (sym same) ∙ same_id_refl c.id.result in
            absurd (let e : true ≡ not true = sym u.if-ne.true ∙ c.ne.ensures ∙ ap not yes in cc)
        | then-ne-via-else-ne+then-shard-count u ↦
            let below = own.shard in
            absurd (omega (arith, u.if-shard-count.true, below, c.shard-shard.ensures, c.count-count.ensures.value))
        | then-ne-via-else-ne+else-shard-count+then-not-is_set u ↦
            let here : IsBitSet c.loop-vote.missing c.shard-shard.result = subst (IsBitSet c.loop-vote.missing) (sym c.shard-shard.ensures) set in
            let told : IsTrue u.is_set.result = u.is_set.ensures.1 here in
            absurd (let e : false ≡ true = sym u.if-not-is_set.true ∙ told in cc)
      ],
)

same_ids : (a b : WriteId) (ne : Bool) → ne ≡ false → ne ≡ not (same_id a b) → a ≡ b
same_ids a b ne is tests = ⊎_elim
    (λ yes. same_id_true a b yes)
    (λ no. absurd (let e : false ≡ not false = sym is ∙ tests ∙ ap not no in cc))
    (cases_Bool (same_id a b))

pub loop-vote-preserved : goal.loop-vote-preserved
loop-vote-preserved c =
    let v = c.vote-item.result in
    let i = c.loop-vote.vote-index in
    let w = c.args.intent.now.write in
    let votes = c.args.votes.now in
    let lt : i < length votes = omega (arith, c.loop-vote-test.true) in
    let missing = c.loop-vote.missing in
    let counts : AreCounted c.args.shards w (take i votes) missing = c.loop-vote.invariant in
    let set : IsBitSet missing v.shard = subst (IsBitSet missing) c.shard-shard.ensures (c.is_set.ensures.0 c.if-not-is_set.false) in
    let below : v.shard < c.args.shards = omega (arith, c.if-shard-count.false, c.shard-shard.ensures, c.count-count.ensures.value) in
    let id = sym c.id.ensures ∙ same_ids c.id.result c.id-id.result c.ne.result c.if-ne.false c.ne.ensures ∙ c.id-id.ensures in
    let own : IsVoteFor c.args.shards w v = record { id = id; shard = below; participant = (counts.left v.shard below set).0 } in
    let more : AreCounted c.args.shards w (take i votes ++ v ∷ []) c.without-missing.result = one_counted c.args.shards missing c.without-missing.result 64 w (take i votes) v c.count-count.ensures.whole.few counts own set c.without-missing.ensures.few
    (subst (λ (n : ℕ). (s : ℕ) → s < 64 → IsBitSet c.without-missing.result s ↔ (IsBitSet missing s × (s ≢ n))) c.shard-shard.ensures c.without-missing.ensures.others) in
    let front : take (i + 1) votes ≡ take i votes ++ v ∷ [] = take_more votes i v lt ∙ ap (λ (x : VoteValue). take i votes ++ x ∷ []) (sym c.vote-item.is) in
    subst (λ (l : List VoteValue). AreCounted c.args.shards w l c.without-missing.result) (sym front) more

pub returns : goal.returns
returns c =
    let w = c.args.intent.now.write in
    let votes = c.args.votes.now in
    let whole : take c.loop-vote.vote-index votes ≡ votes = take_all c.loop-vote.vote-index votes (omega (arith, c.loop-vote-test.false)) in
    let counts : AreCounted c.args.shards w votes c.loop-vote.missing = subst (λ (l : List VoteValue). AreCounted c.args.shards w l c.loop-vote.missing) whole c.loop-vote.invariant in (
      λ is. all_counted c.args.shards w votes (subst (AreCounted c.args.shards w votes) (eqb-true c.loop-vote.missing 0 is) counts),
      λ have. eq-eqb c.loop-vote.missing 0 (none_missing c.args.shards w votes c.loop-vote.missing counts have),
    )
