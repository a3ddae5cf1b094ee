-- The states of a clearing.
use Rattle.std.proofs.Common.{◌≡◌, inl, inr, ⊎_elim, ℕ, ◌<◌, List, [], ◌∷◌, ◌++◌, length, drop, get_or, Some, refl, sym, ◌∙◌, ap, subst, arith}
use Rattle.std.proofs.lemmas.Bool.{cases_eq}
use Rattle.std.proofs.lemmas.List.{drop_more}
use Rattle.device.specs.Device.{Leaves, State}
use Rattle.gated.specs.Gated.{AreBehind, HasList, IsOldOrNone, IsReady, WasPut, gated, spelled}
use Rattle.gated.proofs.Appends.{same_list}
use Rattle.gated.proofs.Crash.{behind_gate, length-whole, same_front, untouched_front, untouched_more}
use Rattle.gated.proofs.Spelled.{gated_spelled}

begins_open : (bodies : List (List ℕ)) (gate : ℕ) (rest : List ℕ) → 0 < length (spelled bodies []) → get_or (spelled bodies (gate ∷ rest)) 0 0 ≡ 165
begins_open [] gate rest some = absurd (omega (arith, some))
begins_open (b ∷ bs) gate rest some = refl

module _ (s : State) (end : ℕ) (r : IsReady s end) where
  abbrev kept_is : List ℕ
  kept_is = spelled r.bodies (r.gate ∷ r.kept)

  -- a write of the first gate leaves it open, and with it the list, whatever lies behind the last gate; or it leaves it closed
  pub first_leaves : 0 < end → (bodies : List (List ℕ)) → HasList s bodies → (c : List ℕ) → Leaves s.durable (s.written ++ (0, 1) ∷ []) c → IsOldOrNone bodies c
  first_leaves some bodies has c leaves =
      let l : Leaves kept_is (s.written ++ (0, 1) ∷ []) c = subst (λ (d : List ℕ). Leaves d (s.written ++ (0, 1) ∷ []) c) r.durable leaves in
      let x = get_or c 0 0 in
      let len = length-whole r.bodies r.gate r.kept r.fit r.closed end r.end_is r.gate r.kept in
      let first : get_or kept_is 0 0 ≡ 165 = begins_open r.bodies r.gate r.kept (omega (arith, some, r.end_is)) in
      ⊎_elim
      (λ is_open. inl (
      same_front r.bodies r.gate r.kept r.fit r.closed end r.end_is c l.no_shorter (λ i le. ⊎_elim
      (λ is. ap (λ (k : ℕ). get_or c k 0) is ∙ is_open ∙ sym first ∙ ap (λ (k : ℕ). get_or kept_is k 0) (sym is))
      (λ ne. l.same i (omega (arith, le, len)) (untouched_more s.written 0 1 i (untouched_front end s.written r.written i le) (inr (omega (arith, ne)))))
      (cases_eq i 0))
      ∙ ap (λ (l : List (List ℕ)). Some l) (same_list s end r bodies has)
      ))
      (λ closed. inr (ap gated (drop_more c 0 0 (omega (arith, l.no_shorter, len))) ∙ gated_spelled [] x (drop 1 c) tt closed))
      (cases_eq x 165)

-- the first gate is closed
pub cleared : (s new : State) → WasPut s 0 (0 ∷ []) new → IsReady new 0
cleared s new put = record {
  bodies = [];
  gate = 0;
  rest = drop 1 s.seen;
  kept = drop 1 s.seen;
  fit = tt;
  closed = λ is. omega (arith, is);
  seen = put.seen;
  durable = put.durable ∙ put.seen;
  end_is = refl;
  written = subst (AreBehind 0) (sym put.written) tt;
}

-- a log that ends at its front has the empty list
pub none_listed : (s : State) → IsReady s 0 → HasList s []
none_listed s r c leaves =
    none r.bodies (omega (arith, r.end_is)) (behind_gate r.bodies r.gate r.kept r.fit r.closed 0 r.end_is s.written c r.written (subst (λ (d : List ℕ). Leaves d s.written c) r.durable leaves))
  where
    none : (bodies : List (List ℕ)) → length (spelled bodies []) ≡ 0 → gated c ≡ Some bodies → gated c ≡ Some []
    none [] len is = is
    none (b ∷ bs) len is = absurd (omega (arith, len))
