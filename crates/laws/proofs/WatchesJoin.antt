-- Watches from heartbeat to heartbeat.
use Rattle.std.proofs.Common.{◌≡◌, ◌+◌, ◌-◌, ◌++◌, ◌∷◌, [], ℕ, List, length, take, drop, filter, sym, ◌∙◌, ap, arith, append_assoc, add-zero}
use Rattle.std.proofs.lemmas.List.{length-take-le, length-drop, drop-drop}
use Rattle.std.proofs.Math.Seq.{take-add}
use Rattle.laws.proofs.Words.{Entry, events_from, placed}
use Rattle.tuples.specs.Watching.{EventsJoin, Placed, events, is_among}

-- the events of two logs, one after another
events_from-append : (place : ℕ) (names : List (List ℕ)) (xs ys : List Entry) → events_from place names (xs ++ ys) ≡ events_from place names xs ++ events_from (place + length xs) names ys
events_from-append place names [] ys = ap (λ (n : ℕ). events_from n names ys) (sym (add-zero place))
events_from-append place names (w ∷ xs) ys =
    let here : List Placed = placed place (filter (is_among names) w.changes) in
    let shifted : place + 1 + length xs ≡ place + length (w ∷ xs) = omega arith in
    ap (λ (l : List Placed). here ++ l) (events_from-append (place + 1) names xs ys ∙ ap (λ (n : ℕ). events_from (place + 1) names xs ++ events_from n names ys) shifted)
    ∙ sym (append_assoc here (events_from (place + 1) names xs) (events_from (place + length (w ∷ xs)) names ys))

pub join : EventsJoin
unfolding events
join log c e f names ce ef fl =
    let first = take (e - c) (drop c log) in
    let len : length first ≡ e - c = length-take-le (e - c) (drop c log) (omega (arith, length-drop c log)) in
    let next : c + 1 + length first ≡ e + 1 = omega (arith, len) in
    let whole : take (f - c) (drop c log) ≡ first ++ take (f - e) (drop e log) =
    ap (λ (n : ℕ). take n (drop c log)) (let k : f - c ≡ (e - c) + (f - e) = omega arith in k) ∙ take-add (e - c) (f - e) (drop c log)
    ∙ ap (λ (l : List Entry). first ++ take (f - e) l) (drop-drop (e - c) c log ∙ ap (λ (n : ℕ). drop n log) (let k : c + (e - c) ≡ e = omega arith in k)) in
    sym (ap (events_from (c + 1) names) whole ∙ events_from-append (c + 1) names first (take (f - e) (drop e log))
    ∙ ap (λ (n : ℕ). events_from (c + 1) names first ++ events_from n names (take (f - e) (drop e log))) next)
