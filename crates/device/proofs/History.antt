-- What the calls on a disk in memory make of its content.
use Rattle.std.proofs.Common.{Bool, true, false, cond, ◌≡◌, ◌⊎◌, inl, inr, ⊎_elim, ℕ, ◌+◌, ◌-◌, ◌<◌, ◌≤◌, min, List, [], ◌∷◌, ◌++◌, length, take, drop, get_or, replicate, refl, sym, ◌∙◌, ap, subst, arith, length-append}
use Rattle.std.proofs.lemmas.Bool.{cases_lt}
use Rattle.std.proofs.lemmas.List.{length-take, length-drop, length-replicate, take_all, get_or-take, get_or-drop, get_or_append_left, get_or-append_right, take-append-le, take_more, drop-append-le, drop_all}
use Rattle.std.proofs.lemmas.Slice.{between_is, between_to_end}
use Rattle.std.specs.List.{slice_range}
use Rattle.device.specs.Device.{Leaves, Untouched, reach, patched, Elapses}
use Rattle.device.specs.Sim.{Image, all_durable, overwritten, filled, found, after, run, replay, CouldLeave, NoneLonger, LeftSince, HasMade}
use Rattle.device.specs.Unsynced.{rewritten, ranges, unsynced, IsWrite, IsReplayed}
use Rattle.device.specs.declared.tear.Tear.{Tear}
use Rattle.device.specs.declared.tear.Tear.TheVariants.{Old, New, Fill}
use Rattle.device.specs.declared.call.Call.{Call}
use Rattle.device.specs.declared.call.Call.TheVariants.{Write, Sync, Revive}
use Rattle.device.proofs.Moments.{leaves_itself}

pub run_push : (m : Image) (calls : List Call) (call : Call) → run m (calls ++ call ∷ []) ≡ after call (run m calls)
run_push m [] call = refl
run_push m (c ∷ calls) call = run_push (after c m) calls call

-- the image after one more call
pub made_image : (first was : List ℕ) (calls more : List Call) (step : Image → Image) → first ≡ was → HasMade calls step more → replay first more ≡ step (replay was calls)
made_image first was calls more step same made =
    ap (λ (l : List Call). replay first l) made.2
    ∙ run_push (all_durable first) calls made.0
    ∙ made.1 (replay first calls)
    ∙ ap (λ (f : List ℕ). step (replay f calls)) same

pub reach_push : (w : List (ℕ × ℕ)) (at n d : ℕ) → (reach w d ≤ reach (w ++ (at, n) ∷ []) d) × (at + n ≤ reach (w ++ (at, n) ∷ []) d) × (d ≤ reach w d)
reach_push [] at n d = (omega arith, omega arith, omega arith)
reach_push (r ∷ w) at n d = let rest = reach_push w at n d in (omega arith, omega arith, omega arith)

pub reach_push_most : (w : List (ℕ × ℕ)) (at n d : ℕ) → (reach (w ++ (at, n) ∷ []) d ≤ at + n) ⊎ (reach (w ++ (at, n) ∷ []) d ≤ reach w d)
reach_push_most [] at n d = ⊎_elim (λ lt. inl (omega (arith, lt))) (λ le. inr (omega (arith, le))) (cases_lt d (at + n))
reach_push_most (r ∷ w) at n d =
    ⊎_elim
    (λ up. ⊎_elim (λ lt. inl (omega (arith, up, lt))) (λ le. inr (omega (arith, up, le))) (cases_lt (r.0 + r.1) (at + n)))
    (λ up. inr (omega (arith, up)))
    (reach_push_most w at n d)

-- what reads may be what was durable
pub reach_least : (w : List (ℕ × ℕ)) (n : ℕ) → n ≤ reach w n
reach_least [] n = omega arith
reach_least (r ∷ w) n = omega (arith, reach_least w n)

pub untouched_push : (w : List (ℕ × ℕ)) (at n i : ℕ) → Untouched (w ++ (at, n) ∷ []) i → Untouched w i × ((i < at) ⊎ (at + n ≤ i))
untouched_push [] at n i un = (tt, un.0)
untouched_push (r ∷ w) at n i un = let rest = untouched_push w at n i un.1 in ((un.0, rest.0), rest.1)

pub length-patched : (s b : List ℕ) (at : ℕ) → length (patched s at b) ≡ min at (length s) + length b + (length s - (at + length b))
length-patched s b at =
    omega (arith, length-append (take at s ++ b) (drop (at + length b) s), length-append (take at s) b, length-take at s, length-drop (at + length b) s)

-- what was not written is as before
pub same_elsewhere : (s b : List ℕ) (at i : ℕ) → i < length s → (i < at) ⊎ (at + length b ≤ i) → get_or (patched s at b) i 0 ≡ get_or s i 0
same_elsewhere s b at i lt (inl below) =
    let len = length-take at s in
    get_or_append_left (take at s ++ b) (drop (at + length b) s) 0 i (omega (arith, length-append (take at s) b, len))
    ∙ get_or_append_left (take at s) b 0 i (omega (arith, len))
    ∙ get_or-take at s i 0 below
same_elsewhere s b at i lt (inr above) =
    let len : length (take at s ++ b) ≡ at + length b = length-append (take at s) b ∙ omega (arith, length-take at s) in
    let back : at + length b + (i - (at + length b)) ≡ i = omega arith in
    get_or-append_right (take at s ++ b) (drop (at + length b) s) (at + length b) i 0 len above
    ∙ get_or-drop (at + length b) s (i - (at + length b)) 0 ∙ ap (λ (j : ℕ). get_or s j 0) back

-- a write leaves what a stop may leave
pub written_readable : (d s b : List ℕ) (w : List (ℕ × ℕ)) (at : ℕ) → Leaves d w s → Leaves d (w ++ (at, length b) ∷ []) (patched s at b)
written_readable d s b w at leaves =
    let len = length-patched s b at in
    let reaches = reach_push w at (length b) (length d) in
    record {
      no_shorter = omega (arith, leaves.no_shorter, len);
      no_longer = omega (arith, leaves.no_longer, len, reaches.0, reaches.1);
      same = λ i lt un. let parts = untouched_push w at (length b) i un in same_elsewhere s b at i (omega (arith, lt, leaves.no_shorter)) parts.1 ∙ leaves.same i lt parts.0;
    }

-- the ranges of the second list are some of the first
record Covers (w v : List (ℕ × ℕ)) (n : ℕ) : Type 0 where
  reaches : reach v n ≤ reach w n
  touches : (i : ℕ) → Untouched w i → Untouched v i

filled_readable : (byte : ℕ) (d s : List ℕ) (w v : List (ℕ × ℕ)) → Covers w v (length d) → Leaves d w s → Leaves d w (filled byte v s)
filled_readable byte d s w [] covers leaves = leaves
filled_readable byte d s w (r ∷ v) covers leaves =
    let b : List ℕ = replicate r.1 byte in
    let len = length-patched s b r.0 in
    let n : length b ≡ r.1 = length-replicate r.1 byte in
    filled_readable byte d (patched s r.0 b) w v
    (record { reaches = omega (arith, covers.reaches); touches = λ i un. (covers.touches i un).1 })
    (record {
      no_shorter = omega (arith, leaves.no_shorter, len);
      no_longer = omega (arith, leaves.no_longer, len, n, covers.reaches);
      same = λ i lt un. same_elsewhere s b r.0 i (omega (arith, lt, leaves.no_shorter)) (subst (λ (m : ℕ). (i < r.0) ⊎ (r.0 + m ≤ i)) (sym n) (covers.touches i un).0) ∙ leaves.same i lt un;
    })

-- a stop may leave what is found
pub found_left : (tear : Tear) (m : Image) → Leaves m.durable m.written m.seen → Leaves m.durable m.written (found tear m)
found_left Old m leaves = record { no_shorter = omega arith; no_longer = omega (arith, leaves.no_shorter, leaves.no_longer); same = λ i lt un. refl }
found_left New m leaves = leaves
found_left (Fill byte) m leaves = filled_readable byte m.durable m.seen m.written m.written (record { reaches = omega arith; touches = λ i un. un }) leaves

after_readable : (call : Call) (m : Image) → Leaves m.durable m.written m.seen → Leaves (after call m).durable (after call m).written (after call m).seen
after_readable (Write at bytes) m leaves = written_readable m.durable m.seen bytes.items m.written at leaves
after_readable Sync m leaves = leaves_itself m.seen
after_readable (Revive tear) m leaves = leaves_itself (found tear m)

run_readable : (m : Image) (calls : List Call) → Leaves m.durable m.written m.seen → Leaves (run m calls).durable (run m calls).written (run m calls).seen
run_readable m [] leaves = leaves
run_readable m (call ∷ calls) leaves = run_readable (after call m) calls (after_readable call m leaves)

-- what reads is one of the contents that a stop may leave
pub replay_readable : (first : List ℕ) (calls : List Call) → CouldLeave first calls (replay first calls).seen
replay_readable first calls = run_readable (all_durable first) calls (leaves_itself first)

elapses_push : (first : List ℕ) (calls : List Call) (call : Call)
    → Elapses (length calls) (length (calls ++ call ∷ [])) (LeftSince first calls) (LeftSince first (calls ++ call ∷ [])) (CouldLeave first (calls ++ call ∷ []))
elapses_push first calls call = record {
  later = omega (arith, len);
  nothing_else = λ t c le since. ⊎_elim
      (λ before. inl (since.0, since.1, before, subst (λ (l : List Call). CouldLeave first l c) (take-append-le since.0 calls (call ∷ []) before) since.3))
      (λ now. inr (subst (λ (l : List Call). CouldLeave first l c) (take_all since.0 (calls ++ call ∷ []) (omega (arith, len, now))) since.3))
      (within since.0);
  keeps = λ t c le since. (since.0, since.1, omega (arith, len, since.2), subst (λ (l : List Call). CouldLeave first l c) (sym (take-append-le since.0 calls (call ∷ []) since.2)) since.3);
}
  where
    len : length (calls ++ call ∷ []) ≡ length calls + 1
    len = omega (arith, length-append calls (call ∷ []))

    within : (k : ℕ) → (k ≤ length calls) ⊎ (length calls < k)
    within k = ⊎_elim (λ lt. inr lt) (λ le. inl le) (cases_lt (length calls) k)

-- time passes by one call
pub made_elapses : (first was : List ℕ) (calls more : List Call) (step : Image → Image) → first ≡ was → HasMade calls step more
    → Elapses (length calls) (length more) (LeftSince was calls) (LeftSince first more) (CouldLeave first more)
made_elapses first was calls more step same made =
    subst (λ (f : List ℕ). Elapses (length calls) (length more) (LeftSince f calls) (LeftSince first more) (CouldLeave first more)) same
    (subst (λ (l : List Call). Elapses (length calls) (length l) (LeftSince first calls) (LeftSince first l) (CouldLeave first l)) (sym made.2) (elapses_push first calls made.0))

-- what reads after a call that was kept, or not for lack of memory
pub kept_reads : (first : List ℕ) (calls more : List Call) (call : Call) (seen : List ℕ) (ok : Bool) → more ≡ cond ok (calls ++ call ∷ []) calls
    → (ok ≡ true → seen ≡ (after call (replay first calls)).seen) → (ok ≡ false → seen ≡ (replay first calls).seen) → seen ≡ (replay first more).seen
kept_reads first calls more call seen true is new old = new refl ∙ sym (ap (λ (l : List Call). (replay first l).seen) is ∙ ap (λ (m : Image). m.seen) (run_push (all_durable first) calls call))
kept_reads first calls more call seen false is new old = old refl ∙ sym (ap (λ (l : List Call). (replay first l).seen) is)

-- what reads after a write that was kept
pub write_reads : (first seen bytes : List ℕ) (calls reserved : List Call) (at : ℕ) (call : Call) → seen ≡ (replay first calls).seen → reserved ≡ calls → ((m : Image) → after call m ≡ overwritten at bytes m)
    → patched seen at bytes ≡ (after call (replay first reserved)).seen
write_reads first seen bytes calls reserved at call reads same writes =
    ap (λ (s : List ℕ). patched s at bytes) (reads ∙ ap (λ (l : List Call). (replay first l).seen) (sym same)) ∙ sym (ap (λ (m : Image). m.seen) (writes (replay first reserved)))

-- the writes again: what reads, what was durable before them, and their ranges
pub rewritten_push : (content : List ℕ) (calls : List Call) (call : Call) → rewritten content (calls ++ call ∷ []) ≡ rewritten (rewritten content calls) (call ∷ [])
rewritten_push content [] call = refl
rewritten_push content (Write at bytes ∷ calls) call = rewritten_push (patched content at bytes.items) calls call
rewritten_push content (Sync ∷ calls) call = rewritten_push content calls call
rewritten_push content (Revive tear ∷ calls) call = rewritten_push content calls call

ranges_push : (calls : List Call) (call : Call) → ranges (calls ++ call ∷ []) ≡ ranges calls ++ ranges (call ∷ [])
ranges_push [] call = refl
ranges_push (Write at bytes ∷ calls) call = ap (λ (w : List (ℕ × ℕ)). (at, length bytes.items) ∷ w) (ranges_push calls call)
ranges_push (Sync ∷ calls) call = ranges_push calls call
ranges_push (Revive tear ∷ calls) call = ranges_push calls call

abbrev image_of : List ℕ → List ℕ → List (ℕ × ℕ) → Image
image_of s d w = record { seen = s; durable = d; written = w }

unsynced_push : (content : List ℕ) (calls : List Call) (call : Call) → IsWrite call → after call (unsynced content calls) ≡ unsynced content (calls ++ call ∷ [])
unsynced_push content calls (Write at bytes) is =
    ap (λ (s : List ℕ). image_of s content (ranges calls ++ (at, length bytes.items) ∷ [])) (sym (rewritten_push content calls (Write at bytes)))
    ∙ ap (λ (w : List (ℕ × ℕ)). image_of (rewritten content (calls ++ Write at bytes ∷ [])) content w) (sym (ranges_push calls (Write at bytes)))
unsynced_push content calls Sync is = absurd is
unsynced_push content calls (Revive tear) is = absurd is

-- a loop over the calls, at one that writes
pub replayed_write : (first content : List ℕ) (calls : List Call) (since i : ℕ) (call : Call) → i < length calls → call ≡ get_or calls i call → IsWrite call → IsReplayed first calls content since i → IsReplayed first calls content since (i + 1)
replayed_write first content calls since i call lt is writes replayed = record {
  within = omega (arith, replayed.within);
  image =
      ap (λ (l : List Call). replay first l) next
      ∙ run_push (all_durable first) (take i calls) call
      ∙ ap (λ (m : Image). after call m) replayed.image
      ∙ unsynced_push content (drop since (take i calls)) call writes
      ∙ ap (λ (l : List Call). unsynced content l) (sym (drop-append-le since (take i calls) (call ∷ []) (omega (arith, length-take i calls, replayed.within))))
      ∙ ap (λ (l : List Call). unsynced content (drop since l)) (sym next);
}
  where
    next : take (i + 1) calls ≡ take i calls ++ call ∷ []
    next = take_more calls i call lt ∙ ap (λ (c : Call). take i calls ++ c ∷ []) (sym is)

-- and at one that makes all durable
pub replayed_durable : (first content now : List ℕ) (calls : List Call) (since i : ℕ) (call : Call) (tear : Tear) → i < length calls → call ≡ get_or calls i call → ((m : Image) → after call m ≡ all_durable (found tear m))
    → now ≡ found tear (unsynced content (slice_range calls since i)) → IsReplayed first calls content since i → IsReplayed first calls now (i + 1) (i + 1)
replayed_durable first content now calls since i call tear lt is makes finds replayed = record {
  within = omega arith;
  image =
      ap (λ (l : List Call). replay first l) next
      ∙ run_push (all_durable first) (take i calls) call
      ∙ ap (λ (m : Image). after call m) replayed.image
      ∙ makes (unsynced content (drop since (take i calls)))
      ∙ ap (λ (l : List Call). all_durable (found tear (unsynced content l))) (sym (between_is calls since i))
      ∙ ap (λ (s : List ℕ). all_durable s) (sym finds)
      ∙ ap (λ (l : List Call). unsynced now l) (sym (drop_all (i + 1) (take (i + 1) calls) (omega (arith, length-take (i + 1) calls))));
}
  where
    next : take (i + 1) calls ≡ take i calls ++ call ∷ []
    next = take_more calls i call lt ∙ ap (λ (c : Call). take i calls ++ c ∷ []) (sym is)

-- what is found is what the image says, for lists that are equal
pub replayed_found : (first first' content now : List ℕ) (calls calls' calls'' : List Call) (since : ℕ) (tear : Tear) → first' ≡ first → calls' ≡ calls → calls'' ≡ calls
    → now ≡ found tear (unsynced content (take (length calls'' - since) (drop since calls''))) → IsReplayed first' calls' content since (length calls') → now ≡ found tear (replay first calls)
replayed_found first first' content now calls calls' calls'' since tear same_first same' same'' finds replayed =
    let image : replay first' calls' ≡ unsynced content (drop since calls')
    = subst (λ (l : List Call). replay first' l ≡ unsynced content (drop since l)) (take_all (length calls') calls' (omega arith)) replayed.image in
    finds
    ∙ ap (λ (l : List Call). found tear (unsynced content l)) (between_to_end calls'' since (length calls'') (omega arith))
    ∙ ap (λ (l : List Call). found tear (unsynced content (drop since l))) (same'' ∙ sym same')
    ∙ ap (λ (m : Image). found tear m) (sym image)
    ∙ ap (λ (f : List ℕ). found tear (replay f calls')) same_first
    ∙ ap (λ (l : List Call). found tear (replay first l)) same'

-- what reads is one of the contents that a stop may leave
pub reads_left_by : (first seen : List ℕ) (calls : List Call) → seen ≡ (replay first calls).seen → CouldLeave first calls seen
reads_left_by first seen calls reads = subst (λ (s : List ℕ). CouldLeave first calls s) (sym reads) (replay_readable first calls)

-- no content is longer after a call that was kept, or not for lack of memory
pub kept_longest : (first : List ℕ) (calls more : List Call) (call : Call) (seen : List ℕ) (ok : Bool) → more ≡ cond ok (calls ++ call ∷ []) calls
    → (ok ≡ true → reach (after call (replay first calls)).written (length (after call (replay first calls)).durable) ≤ length seen) → (ok ≡ false → NoneLonger first calls seen) → NoneLonger first more seen
kept_longest first calls more call seen true is new old =
    subst (λ (m : Image). reach m.written (length m.durable) ≤ length seen) (sym (run_push (all_durable first) calls call) ∙ sym (ap (λ (l : List Call). replay first l) is)) (new refl)
kept_longest first calls more call seen false is new old = subst (λ (l : List Call). NoneLonger first l seen) (sym is) (old refl)

-- nor after a write that begins inside what reads
pub write_longest : (first seen bytes : List ℕ) (calls : List Call) (at : ℕ) (call : Call) → at ≤ length seen → NoneLonger first calls seen → ((m : Image) → after call m ≡ overwritten at bytes m)
    → reach (after call (replay first calls)).written (length (after call (replay first calls)).durable) ≤ length (patched seen at bytes)
write_longest first seen bytes calls at call inside longest writes =
    let was : Image = replay first calls in
    let len = length-patched seen bytes at in
    subst (λ (m : Image). reach m.written (length m.durable) ≤ length (patched seen at bytes)) (sym (writes was))
    (⊎_elim
    (λ up. omega (arith, up, len, inside))
    (λ up. omega (arith, up, len, inside, longest))
    (reach_push_most was.written at (length bytes) (length was.durable)))
