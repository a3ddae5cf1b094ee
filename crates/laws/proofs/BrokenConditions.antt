-- A condition that is met after the whole log is met by the rows of its tuple's shard, if no write in doubt names the tuple.
use Rattle.std.proofs.Common.{◌≡◌, ⊎_elim, ℕ, Bool, true, ◌||◌, ◌==◌, ◌≤◌, List, [], ◌∷◌, take, filter, sym, ◌∙◌, ap, subst, arith, length, nat_lt, ◌&&◌, not}
use Rattle.std.proofs.lemmas.Bool.{cases_Bool, eq-eqb, le-leb, leb-true}
use Rattle.laws.proofs.Words.{Absent, Entry, Exists, NotAfter, ShardMeans, ShardState, Tuple, Version, Want, changes_from, is_at, is_touch, last_alike, meets_want, of_shard, shard_of, superseded, tuple_eq, tuple_of}
use Rattle.tuples.specs.Log.{last_place}
use Rattle.tuples.specs.Versions.{collected, last_version, there_at, versions}
use Rattle.laws.specs.LockLaws.{MetConditionsAreMetHere}
use Rattle.laws.proofs.PreparableConditions.{last_before, there_before, there_by_rows, unheld_unchanged}
use Rattle.versions.proofs.Newest.{last_from_is}

-- the last of some versions is no later than the last of all
last_some : (p : Version → Bool) (rows : List Version) (t : Tuple) → last_version (filter p rows) t ≤ last_version rows t
unfolding last_version
last_some p [] t = omega arith
last_some p (v ∷ rows) t =
    let rest = last_some p rows t in
    ⊎_elim
    (λ yes. ⊎_elim (λ is. rw yes (rw is (omega (arith, rest)))) (λ other. rw yes (rw other rest)) (cases_Bool (tuple_eq t (tuple_of v.change))))
    (λ no. ⊎_elim (λ is. rw no (rw is (omega (arith, rest)))) (λ other. rw no (rw other rest)) (cases_Bool (tuple_eq t (tuple_of v.change))))
    (cases_Bool (p v))

rows_last : (shards s : ℕ) (log : List Entry) (hc h : ℕ) (state : ShardState) → ShardMeans shards s log hc h state → (t : Tuple) → last_version state.rows t ≤ last_place (take state.learned log) t
unfolding versions collected last_place
rows_last shards s log hc h state m t =
    let all = changes_from 1 (take state.learned log) in
    let rows : last_version state.rows t ≡ last_version (of_shard shards s (versions log state.learned state.horizon)) t = last_alike m.rows t in
    let own_rows = last_some (λ (v : Version). shard_of shards (tuple_of v.change).object == s) (collected state.horizon all) t in
    let kept_rows = last_some (λ (v : Version). nat_lt state.horizon v.place || (is_touch v.change && not (superseded state.horizon v all))) all t in
    let is = last_from_is 0 1 t (take state.learned log) (omega arith) in
    omega (arith, rows, own_rows, kept_rows, is)

by_want : (want : Want) (of_rows of_log : ℕ) (there : Bool) → of_rows ≤ of_log → meets_want want of_log there ≡ true → meets_want want of_rows there ≡ true
by_want (NotAfter place) of_rows of_log there low met = let at : of_log ≤ place = leb-true _ _ met in le-leb of_rows place (omega (arith, low, at))
by_want Exists of_rows of_log there low met = met
by_want Absent of_rows of_log there low met = met

pub met_conditions_are_met_here : MetConditionsAreMetHere
met_conditions_are_met_here shards s log hc h state c is_log le m is_own free holds =
    let t = c.tuple in
    let own : (shard_of shards t.object == s) ≡ true = eq-eqb (shard_of shards t.object) s is_own in
    let none = unheld_unchanged shards s log hc h state is_log le m t own free in
    let there : there_at state.rows state.learned t ≡ is_at log (length log) t = there_by_rows shards s log hc h state is_log le m t own ∙ sym (there_before t log state.learned none) in
    let last : last_version state.rows t ≤ last_place log t = subst (λ (n : ℕ). last_version state.rows t ≤ n) (sym (last_before t log state.learned none)) (rows_last shards s log hc h state m t) in
    by_want c.want (last_version state.rows t) (last_place log t) (there_at state.rows state.learned t) last (ap (λ (b : Bool). meets_want c.want (last_place log t) b) there ∙ holds)
