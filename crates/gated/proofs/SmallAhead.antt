-- Small devices: with a body ahead of an empty list, and those that have none.
use Rattle.std.proofs.Common.{◌≡◌, ℕ, false, List, [], ◌∷◌, length, get_or, Some, refl, sym, ◌∙◌, ap, arith}
use Rattle.device.specs.Device.{State}
use Rattle.gated.specs.Gated.{IsAhead, gated, spelled}
use Rattle.gated.proofs.Spelled.{gated_spelled}

-- all of it durable
abbrev holding : List ℕ → State
holding content = record { seen = content; durable = content; written = []; stopped = false; failures = 0 }

abbrev seven : List ℕ
seven = 7 ∷ []

-- the body 7 behind a closed gate, an open gate, and what stood there before
one_ahead : IsAhead (holding (0 ∷ 0 ∷ 0 ∷ 0 ∷ 1 ∷ 7 ∷ 165 ∷ 9 ∷ [])) 0 6 (seven ∷ [])
one_ahead = record {
  bodies = [];
  gate = 0;
  rest = 9 ∷ [];
  kept = 0 ∷ 0 ∷ 0 ∷ 1 ∷ 7 ∷ 165 ∷ 9 ∷ [];
  fit = tt;
  fit_ahead = ((omega arith, omega arith), tt);
  closed = λ is. omega (arith, is);
  seen = refl;
  durable = refl;
  end_is = refl;
  at_is = refl;
  written = tt;
}

-- the same, with only the gate synced
abbrev gate_synced : State
gate_synced = record { seen = 0 ∷ 0 ∷ 0 ∷ 0 ∷ 1 ∷ 7 ∷ 165 ∷ []; durable = 0 ∷ []; written = (1, 6) ∷ []; stopped = false; failures = 0 }

not_synced : IsAhead gate_synced 0 6 (seven ∷ [])
not_synced = record {
  bodies = [];
  gate = 0;
  rest = [];
  kept = [];
  fit = tt;
  fit_ahead = ((omega arith, omega arith), tt);
  closed = λ is. omega (arith, is);
  seen = refl;
  durable = refl;
  end_is = refl;
  at_is = refl;
  written = (omega arith, tt);
}

-- it does not count
not_yet : gated (0 ∷ 0 ∷ 0 ∷ 0 ∷ 1 ∷ 7 ∷ 165 ∷ 9 ∷ []) ≡ Some []
not_yet = gated_spelled [] 0 (0 ∷ 0 ∷ 0 ∷ 1 ∷ 7 ∷ 165 ∷ 9 ∷ []) tt (λ is. omega (arith, is))

-- with the last gate closed and the first one open it is the list
then_listed : gated (165 ∷ 0 ∷ 0 ∷ 0 ∷ 1 ∷ 7 ∷ 0 ∷ 9 ∷ []) ≡ Some (seven ∷ [])
then_listed = gated_spelled (seven ∷ []) 0 (9 ∷ []) ((omega arith, omega arith), tt) (λ is. omega (arith, is))

no_bodies : (bodies : List (List ℕ)) → 0 ≡ length (spelled bodies []) → bodies ≡ []
no_bodies [] is = refl
no_bodies (b ∷ bs) is = absurd (omega (arith, is))

-- the gate and the byte after the body of a device with one body ahead of an empty list
module _ (s : State) (is : IsAhead s 0 6 (seven ∷ [])) where
  seen_is : s.seen ≡ is.gate ∷ 0 ∷ 0 ∷ 0 ∷ 1 ∷ 7 ∷ 165 ∷ is.rest
  seen_is = is.seen ∙ ap (λ (l : List (List ℕ)). spelled l (is.gate ∷ 0 ∷ 0 ∷ 0 ∷ 1 ∷ 7 ∷ 165 ∷ is.rest)) (no_bodies is.bodies is.end_is)

-- nothing is ahead of a list whose gate is open
gate_open : IsAhead (holding (165 ∷ 0 ∷ 0 ∷ 0 ∷ 1 ∷ 7 ∷ 165 ∷ 9 ∷ [])) 0 6 (seven ∷ []) → ⊥
gate_open is = is.closed (sym (ap (λ (l : List ℕ). get_or l 0 0) (seen_is _ is)))

-- nor if the gate after the last body is already closed
last_closed : IsAhead (holding (0 ∷ 0 ∷ 0 ∷ 0 ∷ 1 ∷ 7 ∷ 0 ∷ 9 ∷ [])) 0 6 (seven ∷ []) → ⊥
last_closed is = let byte = ap (λ (l : List ℕ). get_or l 6 0) (seen_is _ is) in omega (arith, byte)

-- nor if the list's gate was closed only since the last sync
gate_not_durable : IsAhead (record gate_synced { durable = 165 ∷ 0 ∷ 0 ∷ 0 ∷ 1 ∷ 7 ∷ 0 ∷ [] }) 0 6 (seven ∷ []) → ⊥
gate_not_durable is =
    is.closed (sym (ap (λ (l : List ℕ). get_or l 0 0) (is.durable ∙ ap (λ (l : List (List ℕ)). spelled l (is.gate ∷ is.kept)) (no_bodies is.bodies is.end_is))))

-- nor if a stop may open it
gate_written : IsAhead (record gate_synced { written = (0, 7) ∷ [] }) 0 6 (seven ∷ []) → ⊥
gate_written is = omega (arith, is.written.0)

-- nor another body
another : IsAhead (holding (0 ∷ 0 ∷ 0 ∷ 0 ∷ 1 ∷ 8 ∷ 165 ∷ 9 ∷ [])) 0 6 (seven ∷ []) → ⊥
another is = let byte = ap (λ (l : List ℕ). get_or l 5 0) (seen_is _ is) in omega (arith, byte)
