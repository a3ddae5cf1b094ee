-- The states of bodies that are written ahead.
use Rattle.std.proofs.Common.{◌≡◌, ℕ, ◌+◌, ◌<◌, ◌≤◌, List, [], ◌∷◌, ◌++◌, length, drop, Some, refl, sym, ◌∙◌, ap, subst, arith, append_assoc, length-append}
use Rattle.std.proofs.lemmas.List.{take_at, drop_at, drop-drop}
use Rattle.std.specs.Int.{w32, to_be_bytes}
use Rattle.device.specs.Device.{Leaves, State, Wrote, patched}
use Rattle.gated.specs.Gated.{AreBehind, Fits, HasList, IsAhead, IsOldOrLonger, IsReady, WasPut, gated, open_gate, spelled}
use Rattle.gated.proofs.Spelled.{fit-push, gated_spelled, spelled-push, spelled-split}
use Rattle.gated.proofs.Crash.{ahead_is, at_any_gate, behind_push, fit-more, opened_at, spelled-more}
use Rattle.gated.proofs.Calls.{only_range}
use Rattle.gated.proofs.Appends.{one_behind, same_list}
use Rattle.device.proofs.Moments.{leaves_nothing_else}

-- whatever is ahead, the log is ready for an append, which writes over it
pub ready_of : (s : State) (end at : ℕ) (ahead : List (List ℕ)) → IsAhead s end at ahead → IsReady s end
ready_of s end at ahead is = record {
  bodies = is.bodies;
  gate = is.gate;
  rest = drop 1 (spelled ahead (open_gate ∷ is.rest));
  kept = is.kept;
  fit = is.fit;
  closed = is.closed;
  seen = is.seen;
  durable = is.durable;
  end_is = is.end_is;
  written = is.written;
}

-- and a log that is ready has nothing ahead
pub none_ahead : (s : State) (end : ℕ) → IsReady s end → IsAhead s end end []
none_ahead s end r = record {
  bodies = r.bodies;
  gate = r.gate;
  rest = r.rest;
  kept = r.kept;
  fit = r.fit;
  fit_ahead = tt;
  closed = r.closed;
  seen = r.seen;
  durable = r.durable;
  end_is = r.end_is;
  at_is = omega arith;
  written = r.written;
}

-- a write at the end of a front
patched_behind : (front rest bytes : List ℕ) (at : ℕ) → at ≡ length front → patched (front ++ rest) at bytes ≡ front ++ bytes ++ drop (length bytes) rest
patched_behind front rest bytes at is =
    ap (λ (l : List ℕ). l ++ bytes ++ drop (at + length bytes) (front ++ rest)) (take_at front rest at (sym is))
    ∙ ap (λ (l : List ℕ). front ++ bytes ++ l) (sym (drop-drop (length bytes) at (front ++ rest)) ∙ ap (drop (length bytes)) (drop_at front rest at (sym is)))

-- without the first gate
behind_first : (ahead : List (List ℕ)) (rest : List ℕ) → drop 1 (spelled ahead (open_gate ∷ rest)) ≡ drop 1 (spelled ahead (open_gate ∷ [])) ++ rest
behind_first [] rest = refl
behind_first (b ∷ bs) rest =
    ap (λ (l : List ℕ). to_be_bytes w32 (length b) ++ b ++ l) (spelled-split bs (open_gate ∷ rest))
    ∙ ap (λ (l : List ℕ). to_be_bytes w32 (length b) ++ b ++ l) (sym (append_assoc (spelled bs []) (open_gate ∷ []) rest) ∙ ap (λ (l : List ℕ). l ++ rest) (sym (spelled-split bs (open_gate ∷ []))))
    ∙ ap (λ (l : List ℕ). to_be_bytes w32 (length b) ++ l) (sym (append_assoc b (spelled bs (open_gate ∷ [])) rest))

length_behind_first : (ahead : List (List ℕ)) → length (drop 1 (spelled ahead (open_gate ∷ []))) ≡ length (spelled ahead [])
length_behind_first [] = refl
length_behind_first (b ∷ bs) =
    let all = spelled-split bs (open_gate ∷ []) in
    omega (arith, ap length all, length-append b (spelled bs (open_gate ∷ [])), length-append b (spelled bs []), length-append (spelled bs []) (open_gate ∷ []))

-- what stands there with one more body
spelled_body_more : (bodies : List (List ℕ)) (gate : ℕ) (ahead : List (List ℕ)) (body frame after : List ℕ) → frame ≡ to_be_bytes w32 (length body) ++ body ++ open_gate ∷ []
    → (spelled bodies [] ++ gate ∷ drop 1 (spelled ahead (open_gate ∷ []))) ++ (frame ++ after) ≡ spelled bodies (gate ∷ drop 1 (spelled (ahead ++ body ∷ []) (open_gate ∷ after)))
spelled_body_more bodies gate ahead body frame after frame_is =
    let tail = to_be_bytes w32 (length body) ++ body ++ open_gate ∷ after in
    let framed : frame ++ after ≡ tail = ap (λ (f : List ℕ). f ++ after) frame_is ∙ ap (λ (l : List ℕ). to_be_bytes w32 (length body) ++ l) (append_assoc body (open_gate ∷ []) after) in
    let behind : drop 1 (spelled ahead (open_gate ∷ [])) ++ tail ≡ drop 1 (spelled (ahead ++ body ∷ []) (open_gate ∷ after)) = sym (behind_first ahead tail) ∙ ap (λ (l : List ℕ). drop 1 l) (sym (spelled-push ahead body (open_gate ∷ after))) in
    ap (λ (l : List ℕ). (spelled bodies [] ++ gate ∷ drop 1 (spelled ahead (open_gate ∷ []))) ++ l) framed
    ∙ append_assoc (spelled bodies []) (gate ∷ drop 1 (spelled ahead (open_gate ∷ []))) tail
    ∙ ap (λ (l : List ℕ). spelled bodies [] ++ gate ∷ l) behind
    ∙ sym (spelled-split bodies (gate ∷ drop 1 (spelled (ahead ++ body ∷ []) (open_gate ∷ after))))

module _ (s : State) (end at : ℕ) (ahead : List (List ℕ)) (is : IsAhead s end at ahead) where
  front : List ℕ
  front = spelled is.bodies [] ++ is.gate ∷ drop 1 (spelled ahead (open_gate ∷ []))

  front_len : at + 1 ≡ length front
  unfolding front
  front_len = omega (arith, is.end_is, is.at_is, length_behind_first ahead, length-append (spelled is.bodies []) (is.gate ∷ drop 1 (spelled ahead (open_gate ∷ []))))

  seen_is : s.seen ≡ front ++ is.rest
  unfolding front
  seen_is =
      is.seen ∙ spelled-split is.bodies (is.gate ∷ drop 1 (spelled ahead (open_gate ∷ is.rest)))
      ∙ ap (λ (l : List ℕ). spelled is.bodies [] ++ is.gate ∷ l) (behind_first ahead is.rest)
      ∙ sym (append_assoc (spelled is.bodies []) (is.gate ∷ drop 1 (spelled ahead (open_gate ∷ []))) is.rest)

  pub at_within : at < length s.seen
  at_within = omega (arith, ap length seen_is, front_len, length-append front is.rest)

  -- a write behind the list's gate leaves the list
  pub list_stays : (bodies : List (List ℕ)) → HasList s bodies → (from n : ℕ) → end < from → (c : List ℕ) → Leaves s.durable (s.written ++ (from, n) ∷ []) c → gated c ≡ Some bodies
  list_stays bodies has from n lt c leaves = one_behind s end (ready_of s end at ahead is) bodies has from n lt c leaves

  -- and puts one more body there
  pub ahead_more : (body frame : List ℕ) (new : State) → Fits body → frame ≡ to_be_bytes w32 (length body) ++ body ++ open_gate ∷ [] → Wrote s (at + 1) frame new → (n : ℕ) → n ≡ length frame → IsAhead new end (at + n) (ahead ++ body ∷ [])
  unfolding front
  ahead_more body frame new fits frame_is wrote n len = record {
    bodies = is.bodies;
    gate = is.gate;
    rest = drop (length frame) is.rest;
    kept = is.kept;
    fit = is.fit;
    fit_ahead = fit-push ahead body is.fit_ahead fits;
    closed = is.closed;
    seen = wrote.seen ∙ ap (λ (l : List ℕ). patched l (at + 1) frame) seen_is ∙ patched_behind front is.rest frame (at + 1) front_len ∙ append_assoc front frame (drop (length frame) is.rest) ∙ spelled_body_more is.bodies is.gate ahead body frame (drop (length frame) is.rest) frame_is;
    durable = wrote.durable ∙ is.durable;
    end_is = is.end_is;
    at_is =
        let pushed = spelled-push ahead body [] in
        let all = spelled-split ahead (open_gate ∷ to_be_bytes w32 (length body) ++ body ++ []) in
        omega (arith, len, is.at_is, ap length frame_is, ap length (pushed ∙ all), length-append (spelled ahead []) (open_gate ∷ to_be_bytes w32 (length body) ++ body ++ []), length-append body [], length-append body (open_gate ∷ []));
    written = subst (AreBehind end) (sym wrote.written) (behind_push end s.written (at + 1) (length frame) is.written (omega (arith, is.at_is)));
  }

-- the last gate of some bodies, and what stands before it
last_gate : (b : List ℕ) (bs : List (List ℕ)) (rest : List ℕ) → drop 1 (spelled (b ∷ bs) rest) ≡ drop 1 (spelled (b ∷ bs) []) ++ rest
last_gate b bs rest =
    ap (λ (l : List ℕ). to_be_bytes w32 (length b) ++ b ++ l) (spelled-split bs rest)
    ∙ ap (λ (l : List ℕ). to_be_bytes w32 (length b) ++ l) (sym (append_assoc b (spelled bs []) rest))

module _ (s : State) (end at : ℕ) (b : List ℕ) (bs : List (List ℕ)) (is : IsAhead s end at (b ∷ bs)) (mid : State) (put : WasPut s at (0 ∷ []) mid) where
  before_last : List ℕ
  before_last = spelled is.bodies [] ++ is.gate ∷ drop 1 (spelled (b ∷ bs) [])

  before_len : at ≡ length before_last
  unfolding before_last
  before_len = omega (arith, is.end_is, is.at_is, length-append (spelled is.bodies []) (is.gate ∷ drop 1 (spelled (b ∷ bs) [])))

  with_last : (g : ℕ) (rest : List ℕ) → spelled is.bodies (is.gate ∷ drop 1 (spelled (b ∷ bs) (g ∷ rest))) ≡ before_last ++ g ∷ rest
  unfolding before_last
  with_last g rest =
      spelled-split is.bodies (is.gate ∷ drop 1 (spelled (b ∷ bs) (g ∷ rest)))
      ∙ ap (λ (l : List ℕ). spelled is.bodies [] ++ is.gate ∷ l) (last_gate b bs (g ∷ rest))
      ∙ sym (append_assoc (spelled is.bodies []) (is.gate ∷ drop 1 (spelled (b ∷ bs) [])) (g ∷ rest))

  -- what stands behind the list's gate, with the last gate closed
  abbrev more : List ℕ
  more = drop 1 (spelled (b ∷ bs) (0 ∷ is.rest))

  mid_is : mid.seen ≡ spelled is.bodies (is.gate ∷ more)
  mid_is =
      put.seen ∙ ap (λ (l : List ℕ). patched l at (0 ∷ [])) (is.seen ∙ with_last open_gate is.rest)
      ∙ patched_behind before_last (open_gate ∷ is.rest) (0 ∷ []) at before_len
      ∙ append_assoc before_last (0 ∷ []) is.rest
      ∙ sym (with_last 0 is.rest)

  pub room_for_gate : end ≤ length mid.seen
  room_for_gate =
      let long = length-append (spelled is.bodies []) (is.gate ∷ more) in
      omega (arith, is.end_is, ap length (mid_is ∙ spelled-split is.bodies (is.gate ∷ more)), long)

  longer_is : gated (spelled is.bodies (open_gate ∷ more)) ≡ Some (is.bodies ++ b ∷ bs)
  longer_is =
      ap gated (ahead_is is.bodies is.gate is.rest is.fit is.closed end is.end_is b bs is.rest)
      ∙ gated_spelled (is.bodies ++ b ∷ bs) 0 is.rest (fit-more is.bodies (b ∷ bs) is.fit is.fit_ahead) (λ is. omega (arith, is))

  module _ (bodies : List (List ℕ)) (has : HasList s bodies) where
    same : is.bodies ≡ bodies
    unfolding ready_of
    same = same_list s end (ready_of s end at (b ∷ bs) is) bodies has

    pub gate_leaves : (c : List ℕ) → Leaves mid.durable (mid.written ++ (end, 1) ∷ []) c → IsOldOrLonger bodies (b ∷ bs) c
    gate_leaves c leaves =
        subst (λ (l : List (List ℕ)). IsOldOrLonger l (b ∷ bs) c) same
        (at_any_gate is.bodies is.gate is.rest is.fit is.closed end is.end_is more (is.bodies ++ b ∷ bs) longer_is c
        (subst (λ (d : List ℕ). Leaves d ((end, 1) ∷ []) c) (put.durable ∙ mid_is) (only_range mid end 1 put.written c leaves)))

  module _ (new : State) (opened : WasPut mid end (open_gate ∷ []) new) where
    new_is : new.seen ≡ spelled is.bodies (open_gate ∷ more)
    new_is = opened.seen ∙ ap (λ (l : List ℕ). patched l end (open_gate ∷ [])) mid_is ∙ opened_at is.bodies is.gate is.rest is.fit is.closed end is.end_is more

    now_is : new.seen ≡ spelled (is.bodies ++ b ∷ bs) (0 ∷ is.rest)
    now_is = new_is ∙ ahead_is is.bodies is.gate is.rest is.fit is.closed end is.end_is b bs is.rest

    pub ready_behind : IsReady new at
    ready_behind = record {
      bodies = is.bodies ++ b ∷ bs;
      gate = 0;
      rest = is.rest;
      kept = is.rest;
      fit = fit-more is.bodies (b ∷ bs) is.fit is.fit_ahead;
      closed = λ is. omega (arith, is);
      seen = now_is;
      durable = opened.durable ∙ now_is;
      end_is =
          let all = spelled-more is.bodies (b ∷ bs) [] in
          omega (arith, is.end_is, is.at_is, ap length (all ∙ spelled-split is.bodies (spelled (b ∷ bs) [])), length-append (spelled is.bodies []) (spelled (b ∷ bs) []));
      written = subst (AreBehind at) (sym opened.written) tt;
    }

    pub has_longer : (bodies : List (List ℕ)) → HasList s bodies → HasList new (bodies ++ b ∷ bs)
    has_longer bodies has c leaves =
        let is_new : c ≡ new.durable = leaves_nothing_else new.durable c (subst (λ (w : List (ℕ × ℕ)). Leaves new.durable w c) opened.written leaves) in
        ap gated (is_new ∙ opened.durable ∙ new_is) ∙ longer_is ∙ ap (λ (l : List (List ℕ)). Some (l ++ b ∷ bs)) (same bodies has)

-- if the last of them ends behind the closed gate, there is one
pub some_ahead : (G : List (List ℕ) → Type 0) (s : State) (end at : ℕ) (ahead : List (List ℕ)) → end < at → IsAhead s end at ahead → ((b : List ℕ) (bs : List (List ℕ)) → IsAhead s end at (b ∷ bs) → G (b ∷ bs)) → G ahead
some_ahead G s end at [] lt is f = absurd (omega (arith, is.at_is, lt))
some_ahead G s end at (b ∷ bs) lt is f = f b bs is
