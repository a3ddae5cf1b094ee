-- What the two writes of an append leave, whole or in part.
use Rattle.std.proofs.Common.{◌≡◌, ◌≢◌, ◌⊎◌, inl, inr, ⊎_elim, ℕ, ◌+◌, ◌<◌, ◌≤◌, List, [], ◌∷◌, ◌++◌, length, take, drop, get_or, Some, refl, sym, ◌∙◌, ap, arith, append_assoc, length-append}
use Rattle.std.proofs.lemmas.Bool.{cases_eq}
use Rattle.std.proofs.lemmas.List.{take_at, drop_at, take-append-drop, get_or-take, get_or-drop, length-take-le, length-drop, drop-drop, ext_get_or, drop_more}
use Rattle.std.specs.Int.{w32, to_be_bytes}
use Rattle.device.specs.Device.{Leaves, Untouched, patched}
use Rattle.device.proofs.History.{reach_least}
use Rattle.gated.specs.Gated.{gated, spelled, AreBehind, Fits, AllFit, IsOldOrNew}
use Rattle.gated.proofs.Spelled.{gated_spelled, spelled-split, spelled-push, fit-push}

front_same : (d : List ℕ) (k : ℕ) (c : List ℕ) → ((i : ℕ) → i < k → get_or c i 0 ≡ get_or d i 0) → k ≤ length c → k ≤ length d → take k c ≡ take k d
front_same d k c same long_c long_d =
    let len_c : length (take k c) ≡ k = length-take-le k c long_c in
    let len_d : length (take k d) ≡ k = length-take-le k d long_d in
    ext_get_or 0 (take k c) (take k d) (len_c ∙ sym len_d) (λ i lt.
    let small : i < k = omega (arith, len_c) in
    get_or-take k c i 0 small ∙ same i small ∙ sym (get_or-take k d i 0 small))

back_same : (d : List ℕ) (at n : ℕ) (c : List ℕ) → Leaves d ((at, n) ∷ []) c → length c ≡ length d → drop (at + n) c ≡ drop (at + n) d
back_same d at n c leaves len =
    let len_c = length-drop (at + n) c in
    let len_d = length-drop (at + n) d in
    ext_get_or 0 (drop (at + n) c) (drop (at + n) d) (omega (arith, len_c, len_d, len)) (λ i lt.
    get_or-drop (at + n) c i 0 ∙ leaves.same (at + n + i) (omega (arith, len_c, len)) (inr (omega arith), tt) ∙ sym (get_or-drop (at + n) d i 0))

-- what lies after a place leaves all up to it
pub untouched_front : (end : ℕ) (w : List (ℕ × ℕ)) → AreBehind end w → (i : ℕ) → i ≤ end → Untouched w i
untouched_front end [] behind i le = tt
untouched_front end (range ∷ w) behind i le = (inl (omega (arith, behind.0, le)), untouched_front end w behind.1 i le)

pub behind_push : (end : ℕ) (w : List (ℕ × ℕ)) (at n : ℕ) → AreBehind end w → end < at → AreBehind end (w ++ (at, n) ∷ [])
behind_push end [] at n behind lt = (lt, tt)
behind_push end (range ∷ w) at n behind lt = (behind.0, behind_push end w at n behind.1 lt)

pub untouched_more : (w : List (ℕ × ℕ)) (at n i : ℕ) → Untouched w i → (i < at) ⊎ (at + n ≤ i) → Untouched (w ++ (at, n) ∷ []) i
untouched_more [] at n i un out = (out, tt)
untouched_more (range ∷ w) at n i un out = (un.0, untouched_more w at n i un.1 out)

-- what is durable may be left
pub durable_left : (d : List ℕ) (w : List (ℕ × ℕ)) → Leaves d w d
durable_left d w = record { no_shorter = omega arith; no_longer = reach_least w (length d); same = λ i lt un. refl }

pub spelled-more : (bodies more : List (List ℕ)) (rest : List ℕ) → spelled (bodies ++ more) rest ≡ spelled bodies (spelled more rest)
spelled-more [] more rest = refl
spelled-more (b ∷ bodies) more rest = ap (λ (l : List ℕ). 165 ∷ to_be_bytes w32 (length b) ++ b ++ l) (spelled-more bodies more rest)

pub fit-more : (bodies more : List (List ℕ)) → AllFit bodies → AllFit more → AllFit (bodies ++ more)
fit-more [] more fit fits = fits
fit-more (b ∷ bodies) more fit fits = (fit.0, fit-more bodies more fit.1 fits)

module _ (bodies : List (List ℕ)) (gate : ℕ) (rest : List ℕ) (fit : AllFit bodies) (closed : gate ≢ 165) (end : ℕ) (end_is : end ≡ length (spelled bodies [])) where
  abbrev records : List ℕ
  records = spelled bodies []

  split : (more : List ℕ) → spelled bodies more ≡ records ++ more
  split more = spelled-split bodies more

  front : (g : ℕ) (more : List ℕ) → take (end + 1) (spelled bodies (g ∷ more)) ≡ records ++ g ∷ []
  front g more =
      ap (take (end + 1)) (split (g ∷ more) ∙ sym (append_assoc records (g ∷ []) more))
      ∙ take_at (records ++ g ∷ []) more (end + 1) (omega (arith, end_is, length-append records (g ∷ [])))

  back : (g : ℕ) (more : List ℕ) → drop (end + 1) (spelled bodies (g ∷ more)) ≡ more
  back g more =
      ap (drop (end + 1)) (split (g ∷ more) ∙ sym (append_assoc records (g ∷ []) more))
      ∙ drop_at (records ++ g ∷ []) more (end + 1) (omega (arith, end_is, length-append records (g ∷ [])))

  records_front : (more : List ℕ) → take end (spelled bodies more) ≡ records
  records_front more = ap (take end) (split more) ∙ take_at records more end (sym end_is)

  pub length-whole : (g : ℕ) (more : List ℕ) → length (spelled bodies (g ∷ more)) ≡ end + 1 + length more
  length-whole g more = ap length (split (g ∷ more)) ∙ omega (arith, end_is, length-append records (g ∷ more))

  -- what begins with the records and the closed gate has the list
  pub same_front : (c : List ℕ) → length (spelled bodies (gate ∷ rest)) ≤ length c → ((i : ℕ) → i ≤ end → get_or c i 0 ≡ get_or (spelled bodies (gate ∷ rest)) i 0) → gated c ≡ Some bodies
  same_front c long same =
      let len = length-whole gate rest in
      let begins : take (end + 1) c ≡ records ++ gate ∷ []
      = front_same (spelled bodies (gate ∷ rest)) (end + 1) c (λ i lt. same i (omega (arith, lt))) (omega (arith, long, len)) (omega (arith, len)) ∙ front gate rest in
      let whole : c ≡ spelled bodies (gate ∷ drop (end + 1) c) =
      sym (take-append-drop (end + 1) c) ∙ ap (λ (l : List ℕ). l ++ drop (end + 1) c) begins ∙ append_assoc records (gate ∷ []) (drop (end + 1) c) ∙ sym (split (gate ∷ drop (end + 1) c)) in
      ap gated whole ∙ gated_spelled bodies gate (drop (end + 1) c) fit closed

  -- writes behind the closed gate leave the list
  pub behind_gate : (w : List (ℕ × ℕ)) (c : List ℕ) → AreBehind end w → Leaves (spelled bodies (gate ∷ rest)) w c → gated c ≡ Some bodies
  behind_gate w c behind leaves =
      let len = length-whole gate rest in
      same_front c leaves.no_shorter (λ i le. leaves.same i (omega (arith, le, len)) (untouched_front end w behind i le))

  pub written_behind : (frame : List ℕ) → patched (spelled bodies (gate ∷ rest)) (end + 1) frame ≡ spelled bodies (gate ∷ frame ++ drop (length frame) rest)
  written_behind frame =
      let tail : drop (end + 1 + length frame) (spelled bodies (gate ∷ rest)) ≡ drop (length frame) rest = sym (drop-drop (length frame) (end + 1) (spelled bodies (gate ∷ rest))) ∙ ap (drop (length frame)) (back gate rest) in
      ap (λ (l : List ℕ). l ++ frame ++ drop (end + 1 + length frame) (spelled bodies (gate ∷ rest))) (front gate rest)
      ∙ ap (λ (l : List ℕ). (records ++ gate ∷ []) ++ frame ++ l) tail
      ∙ simp append_assoc (sym (split (gate ∷ frame ++ drop (length frame) rest)))

  -- a write of the gate leaves the list, or whatever longer one stands after it
  pub at_any_gate : (more : List ℕ) (longer : List (List ℕ)) → gated (spelled bodies (165 ∷ more)) ≡ Some longer → (c : List ℕ) → Leaves (spelled bodies (gate ∷ more)) ((end, 1) ∷ []) c
      → (gated c ≡ Some bodies) ⊎ (gated c ≡ Some longer)
  at_any_gate more longer longer_is c leaves =
      let whole_is = spelled bodies (gate ∷ more) in
      let long = length-whole gate more in
      let len : length c ≡ length whole_is = omega (arith, leaves.no_shorter, leaves.no_longer, long) in
      let start = front_same whole_is end c (λ i lt. leaves.same i (omega (arith, lt, long)) (inl lt, tt)) (omega (arith, len, long)) (omega (arith, long)) ∙ records_front (gate ∷ more) in
      let tail = back_same whole_is end 1 c leaves len ∙ back gate more in
      let x = get_or c end 0 in
      let rest_is : drop end c ≡ x ∷ more = drop_more c end 0 (omega (arith, len, long)) ∙ ap (λ (l : List ℕ). x ∷ l) tail in
      let whole : c ≡ spelled bodies (x ∷ more) = sym (take-append-drop end c) ∙ ap (λ (l : List ℕ). l ++ drop end c) start ∙ ap (λ (l : List ℕ). records ++ l) rest_is ∙ sym (split (x ∷ more)) in
      ⊎_elim
      (λ is. inr (ap gated (whole ∙ ap (λ g. spelled bodies (g ∷ more)) is) ∙ longer_is))
      (λ ne. inl (ap gated whole ∙ gated_spelled bodies x more fit ne))
      (cases_eq x 165)

  -- the gate is opened
  pub opened_at : (more : List ℕ) → patched (spelled bodies (gate ∷ more)) end (165 ∷ []) ≡ spelled bodies (165 ∷ more)
  opened_at more =
      ap (λ (l : List ℕ). l ++ (165 ∷ []) ++ drop (end + 1) (spelled bodies (gate ∷ more))) (records_front (gate ∷ more))
      ∙ ap (λ (l : List ℕ). records ++ (165 ∷ []) ++ l) (back gate more)
      ∙ append_assoc records (165 ∷ []) more
      ∙ sym (split (165 ∷ more))

  -- bodies that stand ahead, behind an open gate: they are the end of the list
  pub ahead_is : (b : List ℕ) (ahead : List (List ℕ)) (after : List ℕ) → spelled bodies (165 ∷ drop 1 (spelled (b ∷ ahead) (0 ∷ after))) ≡ spelled (bodies ++ b ∷ ahead) (0 ∷ after)
  ahead_is b ahead after = sym (spelled-more bodies (b ∷ ahead) (0 ∷ after))

  module _ (body after : List ℕ) (fits : Fits body) where
    abbrev staged : List ℕ
    staged = spelled bodies (gate ∷ to_be_bytes w32 (length body) ++ body ++ 0 ∷ after)

    abbrev opened : List ℕ
    opened = spelled (bodies ++ body ∷ []) (0 ∷ after)

    opened_is : opened ≡ spelled bodies (165 ∷ to_be_bytes w32 (length body) ++ body ++ 0 ∷ after)
    opened_is = spelled-push bodies body (0 ∷ after)

    pub gated_opened : gated opened ≡ Some (bodies ++ body ∷ [])
    gated_opened = gated_spelled (bodies ++ body ∷ []) 0 after (fit-push bodies body fit fits) (λ is. omega (arith, is))

    -- a write of the gate leaves the list, or the longer one
    pub at_gate : (c : List ℕ) → Leaves staged ((end, 1) ∷ []) c → IsOldOrNew bodies body c
    at_gate c leaves = at_any_gate (to_be_bytes w32 (length body) ++ body ++ 0 ∷ after) (bodies ++ body ∷ []) (ap gated (sym opened_is) ∙ gated_opened) c leaves

    pub written_gate : patched staged end (165 ∷ []) ≡ opened
    written_gate = opened_at (to_be_bytes w32 (length body) ++ body ++ 0 ∷ after) ∙ sym opened_is
