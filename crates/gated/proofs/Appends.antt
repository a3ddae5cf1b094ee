-- The states of an append.
use Rattle.std.proofs.Common.{◌≡◌, inl, ℕ, ◌+◌, ◌<◌, ◌≤◌, ◌-◌, List, Result, [], ◌∷◌, ◌++◌, length, take, drop, set, get_or, Some, sym, ◌∙◌, ap, subst, arith, append_assoc, length-append}
use Rattle.std.specs.Int.{w32, to_be_bytes}
use Rattle.device.specs.Device.{State, Leaves, Wrote, Tore, Synced, Keeps, Elapses, LeavesOnly, patched, left}
use Rattle.std.proofs.lemmas.List.{length-take-le, length-drop, drop_more, drop_all, take-append-drop, set_at}
use Rattle.std.proofs.lemmas.Option.{same_Some}
use Rattle.gated.specs.Gated.{body_of, gated, max_body, open_gate, record_head, spelled, Fits, AreBehind, IsOldOrNew, IsReady, HasList, WasPut}
use Rattle.std.specs.Result.{OnOk, OnErr}
use Rattle.gated.proofs.Spelled.{gated_spelled, spelled-split, spelled-push, fit-push}
use Rattle.gated.proofs.Crash.{at_gate, behind_gate, behind_push, durable_left, gated_opened, written_behind, written_gate}
use Rattle.device.proofs.Moments.{leaves_nothing_else, leaves_then}
use Rattle.gated.proofs.Calls.{after_write, only_range, tore_of, write_moments, sync_moments}

pub length-body : (buf : List ℕ) → record_head + 1 ≤ length buf → length (body_of buf) ≡ length buf - record_head
length-body buf some = length-take-le (length buf - record_head) (drop 4 buf) (omega (arith, length-drop 4 buf))

pub body_fits : (buf : List ℕ) → record_head + 1 ≤ length buf → length buf ≤ max_body + record_head → Fits (body_of buf)
body_fits buf some fits = let len = length-body buf some in (omega (arith, len), omega (arith, len))

-- a buffer with a length in front and a gate at the end
pub framed : (gate : ℕ) (buf size : List ℕ) → length size ≡ 4 → record_head + 1 ≤ length buf → set (size ++ drop 4 buf) (4 + (length buf - record_head)) gate ≡ size ++ body_of buf ++ gate ∷ []
framed gate buf size four some =
    let n = length buf - record_head in
    let len = length-drop 4 buf in
    let tail : drop n (drop 4 buf) ≡ get_or (drop 4 buf) n 0 ∷ [] = drop_more (drop 4 buf) n 0 (omega (arith, len)) ∙ ap (λ (l : List ℕ). get_or (drop 4 buf) n 0 ∷ l) (drop_all (n + 1) (drop 4 buf) (omega (arith, len))) in
    let whole : size ++ drop 4 buf ≡ (size ++ body_of buf) ++ get_or (drop 4 buf) n 0 ∷ [] =
    ap (λ (l : List ℕ). size ++ l) (sym (take-append-drop n (drop 4 buf)) ∙ ap (λ (l : List ℕ). take n (drop 4 buf) ++ l) tail) ∙ sym (append_assoc size (body_of buf) (get_or (drop 4 buf) n 0 ∷ [])) in
    ap (λ (l : List ℕ). set l (4 + n) gate) whole
    ∙ set_at (size ++ body_of buf) (get_or (drop 4 buf) n 0) [] gate (4 + n) (omega (arith, four, length-body buf some, length-append size (body_of buf)))

module _ (s : State) (end : ℕ) (r : IsReady s end) where
  pub room_first : end + 1 ≤ length s.seen
  room_first =
      let all = spelled-split r.bodies (r.gate ∷ r.rest) in
      omega (arith, ap length (r.seen ∙ all), r.end_is, length-append (spelled r.bodies []) (r.gate ∷ r.rest))

  -- the list is the one that each content has
  pub same_list : (bodies : List (List ℕ)) → HasList s bodies → r.bodies ≡ bodies
  same_list bodies has =
      let here = has s.durable (durable_left s.durable s.written) in
      same_Some r.bodies bodies (sym (gated_spelled r.bodies r.gate r.kept r.fit r.closed) ∙ ap gated (sym r.durable) ∙ here)

  -- writes behind the gate leave it
  pub list_stays : (bodies : List (List ℕ)) → HasList s bodies → (w : List (ℕ × ℕ)) → AreBehind end w → (c : List ℕ) → Leaves s.durable w c → gated c ≡ Some bodies
  list_stays bodies has w behind c leaves =
      behind_gate r.bodies r.gate r.kept r.fit r.closed end r.end_is w c behind (subst (λ (d : List ℕ). Leaves d w c) r.durable leaves) ∙ ap (λ (l : List (List ℕ)). Some l) (same_list bodies has)

  -- one more does
  pub one_behind : (bodies : List (List ℕ)) → HasList s bodies → (at n : ℕ) → end < at → (c : List ℕ) → Leaves s.durable (s.written ++ (at, n) ∷ []) c → gated c ≡ Some bodies
  one_behind bodies has at n lt c leaves = list_stays bodies has (s.written ++ (at, n) ∷ []) (behind_push end s.written at n r.written lt) c leaves

  module _ (mid : State) (body frame : List ℕ) (fits : Fits body) (frame_is : frame ≡ to_be_bytes w32 (length body) ++ body ++ 0 ∷ []) (put : WasPut s (end + 1) frame mid) where
    abbrev after : List ℕ
    after = drop (length frame) r.rest

    pub mid_is : mid.seen ≡ spelled r.bodies (r.gate ∷ to_be_bytes w32 (length body) ++ body ++ 0 ∷ after)
    mid_is =
        put.seen ∙ ap (λ (l : List ℕ). patched l (end + 1) frame) r.seen ∙ written_behind r.bodies r.gate r.rest r.fit r.closed end r.end_is frame
        ∙ ap (λ (f : List ℕ). spelled r.bodies (r.gate ∷ f ++ after)) frame_is
        ∙ ap (λ (l : List ℕ). spelled r.bodies (r.gate ∷ l)) (append_assoc (to_be_bytes w32 (length body) ++ body) (0 ∷ []) after)

    pub room : end ≤ length mid.seen
    room =
        let all = spelled-split r.bodies (r.gate ∷ to_be_bytes w32 (length body) ++ body ++ 0 ∷ after) in
        omega (arith, ap length (mid_is ∙ all), r.end_is, length-append (spelled r.bodies []) (r.gate ∷ to_be_bytes w32 (length body) ++ body ++ 0 ∷ after))

    pub second_leaves : (bodies : List (List ℕ)) → HasList s bodies → (c : List ℕ) → Leaves mid.durable ((end, 1) ∷ []) c → IsOldOrNew bodies body c
    second_leaves bodies has c leaves =
        subst (λ (l : List (List ℕ)). IsOldOrNew l body c) (same_list bodies has)
        (at_gate r.bodies r.gate r.rest r.fit r.closed end r.end_is body after fits c (subst (λ (d : List ℕ). Leaves d ((end, 1) ∷ []) c) (put.durable ∙ mid_is) leaves))

    module _ (new : State) (opened : WasPut mid end (open_gate ∷ []) new) where
      new_is : new.seen ≡ spelled (r.bodies ++ body ∷ []) (0 ∷ after)
      new_is = opened.seen ∙ ap (λ (l : List ℕ). patched l end (open_gate ∷ [])) mid_is ∙ written_gate r.bodies r.gate r.rest r.fit r.closed end r.end_is body after fits

      pub ready : (n : ℕ) → n ≡ length frame → IsReady new (end + n)
      ready n len = record {
        bodies = r.bodies ++ body ∷ [];
        gate = 0;
        rest = after;
        kept = after;
        fit = fit-push r.bodies body r.fit fits;
        closed = λ is. omega (arith, is);
        seen = new_is;
        end_is =
            let pushed = spelled-push r.bodies body [] in
            let all = spelled-split r.bodies (open_gate ∷ to_be_bytes w32 (length body) ++ body ++ []) in
            omega (
              arith,
              len,
              ap length frame_is,
              r.end_is,
              ap length (pushed ∙ all),
              length-append (spelled r.bodies []) (open_gate ∷ to_be_bytes w32 (length body) ++ body ++ []),
              length-append body [],
              length-append body (0 ∷ []),
            );
        durable = opened.durable ∙ new_is;
        written = subst (AreBehind (end + n)) (sym opened.written) tt;
      }

      pub has_new : (bodies : List (List ℕ)) → HasList s bodies → HasList new (bodies ++ body ∷ [])
      has_new bodies has c leaves =
          let is : c ≡ new.durable = leaves_nothing_else new.durable c (subst (λ (w : List (ℕ × ℕ)). Leaves new.durable w c) opened.written leaves) in
          ap gated (is ∙ opened.durable ∙ new_is) ∙ gated_opened r.bodies r.gate r.rest r.fit r.closed end r.end_is body after fits
          ∙ ap (λ (l : List (List ℕ)). Some (l ++ body ∷ [])) (same_list bodies has)

-- what may be left at each of the four calls
module _ {D : Type 0} (moment : D → ℕ) (left_since : D → ℕ → List ℕ → Type 0) (state : D → State)
    (old : D) (only : (c : List ℕ) → left_since old (moment old) c → left (state old) c) (end : ℕ) (r : IsReady (state old) end) (bodies : List (List ℕ)) (has : HasList (state old) bodies) (body frame : List ℕ) (fits : Fits body)
    (frame_is : frame ≡ to_be_bytes w32 (length body) ++ body ++ 0 ∷ []) where
  abbrev Either : List ℕ → Type 0
  Either = IsOldOrNew bodies body

  abbrev Later : D → D → Type 0
  Later one two = Elapses (moment one) (moment two) (left_since one) (left_since two) (left (state two))

  first : (c : List ℕ) → Leaves (state old).durable ((state old).written ++ (end + 1, length frame) ∷ []) c → Either c
  first c leaves = inl (one_behind (state old) end r bodies has (end + 1) (length frame) (omega arith) c leaves)

  pub at_record : (one : D) → Later old one → Tore (state old) (end + 1) (length frame) (state one) → LeavesOnly moment left_since old one Either
  at_record one time tore = write_moments moment left_since state old one Either only time (end + 1) (length frame) tore first

  pub at_first_sync : {T E : Type 0} (one two : D) (x : Result T E) → ((c : List ℕ) → left_since one (moment one) c → left (state one) c) → Later old one → Wrote (state old) (end + 1) frame (state one) → left (state one) (state one).seen
      → Later one two → OnOk x (Synced (state one) (state two)) → OnErr x (Keeps (state one) (state two)) → LeavesOnly moment left_since old two Either
  at_first_sync one two x only_one time wrote here next ok err =
      let tore = tore_of (state old) (end + 1) frame (state one) wrote in
      leaves_then moment left_since old one two Either (at_record one time tore)
      (sync_moments moment left_since state one two Either only_one next x here ok err (λ c l. first c (after_write (state old) (end + 1) (length frame) (state one) tore c l)))

  module _ (two : D) (only_two : (c : List ℕ) → left_since two (moment two) c → left (state two) c) (before : LeavesOnly moment left_since old two Either) (put : WasPut (state old) (end + 1) frame (state two)) where
    second : (c : List ℕ) → Leaves (state two).durable ((state two).written ++ (end, 1) ∷ []) c → Either c
    second c leaves = second_leaves (state old) end r (state two) body frame fits frame_is put bodies has c (only_range (state two) end 1 put.written c leaves)

    pub at_gate_write : (three : D) → Later two three → Tore (state two) end 1 (state three) → LeavesOnly moment left_since old three Either
    at_gate_write three time tore = leaves_then moment left_since old two three Either before (write_moments moment left_since state two three Either only_two time end 1 tore second)

    pub at_last_sync : {T E : Type 0} (three four : D) (x : Result T E) → ((c : List ℕ) → left_since three (moment three) c → left (state three) c) → Later two three → Wrote (state two) end (open_gate ∷ []) (state three) → left (state three) (state three).seen
        → Later three four → OnOk x (Synced (state three) (state four)) → OnErr x (Keeps (state three) (state four)) → LeavesOnly moment left_since old four Either
    at_last_sync three four x only_three time wrote here next ok err =
        let tore = tore_of (state two) end (open_gate ∷ []) (state three) wrote in
        leaves_then moment left_since old three four Either (at_gate_write three time tore)
        (sync_moments moment left_since state three four Either only_three next x here ok err (λ c l. second c (after_write (state two) end 1 (state three) tore c l)))
