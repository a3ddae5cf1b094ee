-- What the bytes of a batch stand for.
use Rattle.std.proofs.Common.{◌≡◌, ◌≢◌, inl, inr, ⊎_elim, ◌≤◌, ◌<◌, ◌+◌, ◌-◌, ◌==◌, ℕ, zero, suc, false, cond, List, [], ◌∷◌, ◌++◌, Some, length, take, drop, refl, sym, ◌∙◌, ap, subst, arith, append_assoc, length-append, ◌⊎◌}
use Rattle.std.proofs.lemmas.List.Edits.{take-paste}
use Rattle.std.proofs.Math.Seq.{paste}
use Rattle.std.proofs.lemmas.List.{append-nil, drop-drop, take-append-drop, take_at, drop_at, length-take-le, length-drop, drop-append-le, drop_all, take_all}
use Rattle.std.proofs.lemmas.Bool.{ne_eqb, cases_lt}
use Rattle.std.proofs.lemmas.Grind.{flat_map-append}
use Rattle.std.specs.List.{flat_map}
use Rattle.std.specs.Int.{w16, to_be_bytes}
use Rattle.records.specs.declared.record.Record.{Record}
use Rattle.records.specs.Format.{AreRecords, IsRecord, record_bytes, batch_bytes}
use Rattle.records.specs.Reading.{batch}
use Rattle.gated.specs.Gated.{body_of, max_body}
use Rattle.journal.specs.Lending.{Flies}
use Rattle.journal.specs.Records.{or_none, batch_size, HasNoRoom, max_records}
use Rattle.records.proofs.Spelled.{batch_spelled}
use Rattle.journal.specs.Staging.{staged_in, IsSpelled}

-- the bytes of a batch are its head and those of its records
pub batch_bytes_is : (rs : List Record) → batch_bytes false rs ≡ 2 ∷ to_be_bytes w16 (length rs) ++ flat_map (record_bytes false) rs
unfolding batch_bytes
batch_bytes_is rs = refl

pub batch_size_is : (rs : List Record) → batch_size rs ≡ 3 + length (flat_map (record_bytes false) rs)
batch_size_is rs = omega (arith, ap length (batch_bytes_is rs))

pub flat_map_one : (rs : List Record) (r : Record) → flat_map (record_bytes false) (rs ++ r ∷ []) ≡ flat_map (record_bytes false) rs ++ record_bytes false r
flat_map_one rs r = flat_map-append (record_bytes false) rs (r ∷ []) ∙ ap (λ (l : List ℕ). flat_map (record_bytes false) rs ++ l) (append-nil (record_bytes false r))

pub none_staged : (bytes : List ℕ) → staged_in 0 bytes ≡ []
unfolding staged_in
none_staged bytes = refl

some_staged : (count : ℕ) (bytes : List ℕ) (rs : List Record) → (count == 0) ≡ false → batch (2 ∷ to_be_bytes w16 count ++ drop 7 bytes) ≡ Some rs → staged_in count bytes ≡ rs
unfolding staged_in
some_staged count bytes rs ne is = ap (λ b. cond b [] (or_none (batch (2 ∷ to_be_bytes w16 count ++ drop 7 bytes)))) ne ∙ ap or_none is

pub nothing : (rs : List Record) → length rs ≡ 0 → [] ≡ rs
nothing [] is = refl
nothing (r ∷ rs) is = absurd (omega (arith, is))

all_from : (rs : List Record) (r : Record) → AreRecords rs → IsRecord r → AreRecords (rs ++ r ∷ [])
all_from [] r are one = (one, tt)
all_from (x ∷ rs) r are one = (are.0, all_from rs r are.1 one)

-- what a log is given: the head, the records and one byte
pub body_is : (bytes middle : List ℕ) → 7 ≤ length bytes → body_of ((take 4 bytes ++ middle) ++ 0 ∷ []) ≡ middle
body_is bytes middle long =
    let four : length (take 4 bytes) ≡ 4 = length-take-le 4 bytes (omega (arith, long)) in
    let back : drop 4 ((take 4 bytes ++ middle) ++ 0 ∷ []) ≡ middle ++ 0 ∷ [] =
    ap (drop 4) (append_assoc (take 4 bytes) middle (0 ∷ [])) ∙ drop_at (take 4 bytes) (middle ++ 0 ∷ []) 4 four in
    let size : length ((take 4 bytes ++ middle) ++ 0 ∷ []) - 5 ≡ length middle = omega (arith, four, length-append (take 4 bytes ++ middle) (0 ∷ []), length-append (take 4 bytes) middle) in
    ap (take (length ((take 4 bytes ++ middle) ++ 0 ∷ []) - 5)) back ∙ take_at middle (0 ∷ []) (length ((take 4 bytes ++ middle) ++ 0 ∷ []) - 5) (sym size)

module _ (bytes : List ℕ) (capacity count : ℕ) (s : IsSpelled bytes capacity count) where
  -- the head and the records, as they will be appended
  pub spelled_is : 2 ∷ to_be_bytes w16 count ++ drop 7 bytes ≡ batch_bytes false s.rs
  spelled_is = ap (λ n. 2 ∷ to_be_bytes w16 n ++ drop 7 bytes) (sym s.number) ∙ ap (λ (l : List ℕ). 2 ∷ to_be_bytes w16 (length s.rs) ++ l) s.spelled ∙ sym (batch_bytes_is s.rs)

  pub read_is : 1 ≤ count → batch (2 ∷ to_be_bytes w16 count ++ drop 7 bytes) ≡ Some s.rs
  read_is some = ap batch spelled_is ∙ batch_spelled s.rs (omega (arith, s.number)) (omega (arith, s.number, s.few)) s.are_records

  staged_by : (n : ℕ) → n ≡ count → staged_in n bytes ≡ s.rs
  staged_by zero is = none_staged bytes ∙ nothing s.rs (omega (arith, s.number, is))
  staged_by (suc n) is =
      let some : 1 ≤ count = omega (arith, is) in
      some_staged (suc n) bytes s.rs (ne_eqb (suc n) 0 (λ e. omega (arith, e))) (ap (λ m. batch (2 ∷ to_be_bytes w16 m ++ drop 7 bytes)) is ∙ read_is some)

  -- the records are those of the view
  pub staged_is : staged_in count bytes ≡ s.rs
  staged_is = staged_by count refl

module _ (bytes : List ℕ) (capacity count : ℕ) (s : IsSpelled bytes capacity count) where
  is_view : staged_in count bytes ≡ s.rs
  is_view = staged_is bytes capacity count s

  pub read_back : 1 ≤ length (staged_in count bytes) → batch (batch_bytes false (staged_in count bytes)) ≡ Some (staged_in count bytes)
  read_back some =
      subst (λ (rs : List Record). batch (batch_bytes false rs) ≡ Some rs) (sym is_view)
      (batch_spelled s.rs (omega (arith, some, ap length is_view)) (omega (arith, s.number, s.few)) s.are_records)

  pub length_is : length bytes ≡ 4 + batch_size (staged_in count bytes)
  length_is = omega (arith, length-drop 7 bytes, s.front, ap length s.spelled, batch_size_is s.rs, ap batch_size is_view)

  module _ (r : Record) where
    pub size_with : batch_size (s.rs ++ r ∷ []) + 4 ≡ length bytes + length (record_bytes false r)
    size_with = omega (arith, length_is, ap batch_size is_view, batch_size_is s.rs, batch_size_is (s.rs ++ r ∷ []), ap length (flat_map_one s.rs r), length-append (flat_map (record_bytes false) s.rs) (record_bytes false r))

    pub no_room_few : count ≡ 65535 → HasNoRoom (staged_in count bytes) r
    no_room_few is = inl (omega (arith, is, s.number, ap length is_view))

    pub no_room_long : 1048580 < length bytes + length (record_bytes false r) → HasNoRoom (staged_in count bytes) r
    no_room_long lt = subst (λ (rs : List Record). HasNoRoom rs r) (sym is_view) (inr (omega (arith, lt, size_with)))

    module _ (is_record : IsRecord r) (longer : List ℕ) (new_capacity : ℕ) (is : longer ≡ bytes ++ record_bytes false r) (fits : length longer ≤ 1048580) (ne : count ≢ 65535) (grows : capacity ≤ new_capacity) where
      pub pushed : IsSpelled longer new_capacity (count + 1)
      pushed = record {
        rs = s.rs ++ r ∷ [];
        are_records = all_from s.rs r s.are_records is_record;
        number = omega (arith, length-append s.rs (r ∷ []), s.number);
        few = omega (arith, s.few, ne);
        front = omega (arith, ap length is, s.front, length-append bytes (record_bytes false r));
        spelled = ap (drop 7) is ∙ drop-append-le 7 bytes (record_bytes false r) s.front ∙ ap (λ (l : List ℕ). l ++ record_bytes false r) s.spelled ∙ sym (flat_map_one s.rs r);
        fits = fits;
        room = omega (arith, s.room, grows);
      }

      pub pushed_view : staged_in (count + 1) longer ≡ staged_in count bytes ++ r ∷ []
      unfolding pushed
      pushed_view = staged_is longer new_capacity (count + 1) pushed ∙ ap (λ (l : List Record). l ++ r ∷ []) (sym is_view)

      pub has_room : HasNoRoom (staged_in count bytes) r → ⊥
      has_room full = ⊎_elim
          (λ many. omega (arith, many, ap length is_view, s.number, s.few, ne))
          (λ long. omega (arith, long, ap (λ (rs : List Record). batch_size (rs ++ r ∷ [])) is_view, size_with, fits, ap length is, length-append bytes (record_bytes false r)))
          full

pub completed_is : (bytes : List ℕ) (capacity count : ℕ) (s : IsSpelled bytes capacity count) → body_of ((take 4 bytes ++ 2 ∷ to_be_bytes w16 count ++ drop 7 bytes) ++ 0 ∷ []) ≡ batch_bytes false (staged_in count bytes)
completed_is bytes capacity count s =
    ap (λ (l : List ℕ). body_of (l ++ 0 ∷ [])) (append_assoc (take 4 bytes) (2 ∷ to_be_bytes w16 count) (drop 7 bytes))
    ∙ body_is bytes (2 ∷ to_be_bytes w16 count ++ drop 7 bytes) s.front
    ∙ spelled_is bytes capacity count s
    ∙ ap (batch_bytes false) (sym (staged_is bytes capacity count s))

-- bytes that were lent as a slice
pub lent : (xs ys : List ℕ) (n : ℕ) → length ys ≡ length xs → n ≡ length xs → take n (ys ++ drop (length ys) xs) ≡ ys
lent xs ys n same is =
    ap (λ (l : List ℕ). take n (ys ++ l)) (drop_all (length ys) xs (omega (arith, same))) ∙ ap (take n) (append-nil ys) ∙ take_all n ys (omega (arith, same, is))

-- all that is staged flies: so many records, and the bytes after the first seven
pub flies_whole : (bytes : List ℕ) (capacity count : ℕ) (s : IsSpelled bytes capacity count) (rs : List Record) → staged_in count bytes ≡ rs → (len : ℕ) → len + 7 ≡ length bytes → Flies rs (record { count = count; len = len })
flies_whole bytes capacity count s rs is len size =
    let all : count ≡ length rs = omega (arith, s.number, ap length (staged_is bytes capacity count s), ap length is) in
    record {
      count = omega (arith, all);
      len = ap batch_size (take_all count rs (omega (arith, all))) ∙ omega (arith, size, length_is bytes capacity count s, ap batch_size is);
    }

are_dropped : (n : ℕ) (rs : List Record) → AreRecords rs → AreRecords (drop n rs)
are_dropped zero rs are = are
are_dropped (suc n) [] are = tt
are_dropped (suc n) (r ∷ rs) are = are_dropped n rs are.1

-- the first of what is staged is forgotten: so many records, in so many bytes
module _ (bytes : List ℕ) (capacity count : ℕ) (s : IsSpelled bytes capacity count) (n len : ℕ) (le : n ≤ count) (size : batch_size (take n (staged_in count bytes)) ≡ len + 3) where
  abbrev spells : List Record → List ℕ
  spells = flat_map (record_bytes false)

  first_size : length (spells (take n s.rs)) ≡ len
  first_size = omega (arith, size, ap (λ (rs : List Record). batch_size (take n rs)) (staged_is bytes capacity count s), batch_size_is (take n s.rs))

  in_two : spells s.rs ≡ spells (take n s.rs) ++ spells (drop n s.rs)
  in_two = ap spells (sym (take-append-drop n s.rs)) ∙ flat_map-append (record_bytes false) (take n s.rs) (drop n s.rs)

  pub first_fits : 7 + len ≤ length bytes
  first_fits = omega (arith, s.front, length-drop 7 bytes, ap length s.spelled, ap length in_two, length-append (spells (take n s.rs)) (spells (drop n s.rs)), first_size)

  behind_first : drop (7 + len) bytes ≡ spells (drop n s.rs)
  behind_first = sym (drop-drop len 7 bytes) ∙ ap (drop len) (s.spelled ∙ in_two) ∙ drop_at (spells (take n s.rs)) (spells (drop n s.rs)) len first_size

  head : length (take 7 bytes) ≡ 7
  head = length-take-le 7 bytes (omega (arith, s.front))

  module _ (shorter : List ℕ) (is : shorter ≡ take 7 bytes ++ drop (7 + len) bytes) where
    size_is : length shorter + len ≡ length bytes
    size_is = omega (arith, ap length is, length-append (take 7 bytes) (drop (7 + len) bytes), head, length-drop (7 + len) bytes, first_fits)

    pub forgotten : (new_capacity : ℕ) → capacity ≤ new_capacity → IsSpelled shorter new_capacity (count - n)
    forgotten new_capacity grows = record {
      rs = drop n s.rs;
      are_records = are_dropped n s.rs s.are_records;
      number = omega (arith, length-drop n s.rs, s.number);
      few = omega (arith, s.few);
      front = omega (arith, ap length is, length-append (take 7 bytes) (drop (7 + len) bytes), head);
      spelled = ap (drop 7) is ∙ drop_at (take 7 bytes) (drop (7 + len) bytes) 7 head ∙ behind_first;
      fits = omega (arith, s.fits, size_is);
      room = omega (arith, s.room, grows);
    }

    pub forgotten_view : staged_in (count - n) shorter ≡ drop n (staged_in count bytes)
    unfolding forgotten
    forgotten_view = staged_is shorter capacity (count - n) (forgotten capacity (omega arith)) ∙ ap (drop n) (sym (staged_is bytes capacity count s))

-- bytes were moved down, and the end was cut off
pub moved_down : (bytes : List ℕ) (len cut : ℕ) → 7 + len ≤ length bytes → cut + len ≡ length bytes
    → take cut (paste bytes 7 (drop (7 + len) bytes) (length bytes - (7 + len))) ≡ take 7 bytes ++ drop (7 + len) bytes
moved_down bytes len cut fits is =
    let rest : length (drop (7 + len) bytes) ≡ length bytes - (7 + len) = length-drop (7 + len) bytes in
    let where_to : cut ≡ 7 + (length bytes - (7 + len)) = omega (arith, fits, is) in
    ap (λ k. take k (paste bytes 7 (drop (7 + len) bytes) (length bytes - (7 + len)))) where_to
    ∙ take-paste bytes 7 (drop (7 + len) bytes) (length bytes - (7 + len)) (omega (arith, fits)) (omega (arith, rest))
    ∙ ap (λ (l : List ℕ). take 7 bytes ++ l) (take_all (length bytes - (7 + len)) (drop (7 + len) bytes) (omega (arith, rest)))

-- there is room for a record, or there is none
pub room_or_none : (staged : List Record) (r : Record) → HasNoRoom staged r ⊎ (HasNoRoom staged r → ⊥)
room_or_none staged r = ⊎_elim
    (λ few. ⊎_elim
    (λ long. inl (inr long))
    (λ short. inr (λ full. ⊎_elim (λ many. omega (arith, few, many)) (λ long. omega (arith, short, long)) full))
    (cases_lt max_body (batch_size (staged ++ r ∷ []))))
    (λ many. inl (inl many))
    (cases_lt (length staged) max_records)
