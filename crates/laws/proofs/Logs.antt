-- The log with one more write, and its beginnings.
use Rattle.std.proofs.Common.{⊎_elim, ℕ, ◌<◌, ◌≤◌, List, [], ◌∷◌, ◌++◌, length, take, sym, ◌∙◌, ap, subst, arith}
use Rattle.std.proofs.lemmas.List.{take-append-le, length-take-le, take-take}
use Rattle.std.proofs.lemmas.Option.{slice_get_within}
use Rattle.std.proofs.Math.Seq.{take-append_seam}
use Rattle.laws.proofs.Words.{AreNew, Entry, IsLog, IsUnlisted, IsWrite}
use Rattle.tuples.specs.Log.{HoldAfter, IsLegal}
use Rattle.tuples.proofs.Lists.{slice_get_push}
use Rattle.laws.proofs.Lists.{new_taken, slice_get_taken}

legal_push : (log : List Entry) (w : Entry) → IsLegal log → HoldAfter log w.conditions → IsLegal (log ++ w ∷ [])
unfolding IsLegal HoldAfter
legal_push log w legal hold i v is =
    ⊎_elim
    (λ old. let within : i < length log = slice_get_within log i v old in let le : i ≤ length log = omega arith in rw take-append-le (legal i v old))
    (λ new. subst (λ (u : Entry). HoldAfter (take i (log ++ w ∷ [])) u.conditions) new.1 (rw new.0 (rw take-append_seam hold)))
    (slice_get_push log w v i is)

new_push : (log : List Entry) (w : Entry) → AreNew log → IsUnlisted w.id log → AreNew (log ++ w ∷ [])
new_push log w new unlisted i j u v is_u is_v same = ⊎_elim
    (λ old_u. ⊎_elim
    (λ old_v. new i j u v old_u old_v same)
    (λ new_v. absurd (unlisted i u old_u (ap (λ (x : Entry). x.id) new_v.1 ∙ sym same)))
    (slice_get_push log w v j is_v))
    (λ new_u. ⊎_elim
    (λ old_v. absurd (unlisted j v old_v (ap (λ (x : Entry). x.id) new_u.1 ∙ same)))
    (λ new_v. new_u.0 ∙ sym new_v.0)
    (slice_get_push log w v j is_v))
    (slice_get_push log w u i is_u)

pub log_push : (log : List Entry) (w : Entry) → IsLog log → IsWrite w.changes w.conditions → IsUnlisted w.id log → HoldAfter log w.conditions → IsLog (log ++ w ∷ [])
log_push log w is_log whole unlisted hold = record {
  whole = λ j v is. ⊎_elim (λ old. is_log.whole j v old) (λ new. subst (λ (u : Entry). IsWrite u.changes u.conditions) new.1 whole) (slice_get_push log w v j is);
  new = new_push log w is_log.new unlisted;
  legal = legal_push log w is_log.legal hold;
}

legal_taken : (n : ℕ) (log : List Entry) → IsLegal log → n ≤ length log → IsLegal (take n log)
unfolding IsLegal
legal_taken n log legal le i w is =
    let within : i < length (take n log) = slice_get_within (take n log) i w is in
    let below : i ≤ n = omega (arith, length-take-le n log le) in
    rw take-take (legal i w (slice_get_taken n log i w is))

pub log_taken : (n : ℕ) (log : List Entry) → n ≤ length log → IsLog log → IsLog (take n log)
log_taken n log le is_log = record {
  whole = λ j w is. is_log.whole j w (slice_get_taken n log j w is);
  new = new_taken n log is_log.new;
  legal = legal_taken n log is_log.legal le;
}
