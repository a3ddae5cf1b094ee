-- Two forms with the same members have the same texts, and so the same causes.
use Rattle.std.proofs.Common.{◌≡◌, ℕ, List, [], ◌∷◌, ◌++◌, map, get_or, sym, subst, ap, ◌∙◌, arith, refl, codes, Bor, Some, None}
use Rattle.std.proofs.lemmas.List.Elements.{All-cons, All-head, All-tail}
use Rattle.serde_json.specs.Data.{Data, string}
use Rattle.json_lines.specs.declared.shape.ChangeShape.{ChangeShape}
use Rattle.json_lines.specs.declared.shape.ChangeShape.TheVariants.{Touch, Delete}
use Rattle.json_lines.specs.declared.shape.ConditionShape.{ConditionShape}
use Rattle.json_lines.specs.declared.shape.WantShape.{WantShape}
use Rattle.json_lines.specs.declared.shape.WantShape.TheVariants.{Since, Exists, Absent}
use Rattle.json_lines.specs.declared.shape.FreshnessShape.{FreshnessShape}
use Rattle.json_lines.specs.declared.shape.FreshnessShape.TheVariants.{Latest, AtLeast, Exact}
use Rattle.json_lines.specs.Causes.{ArePlaced, IsFirst, IsFresh, IsMisplaced, IsOfStore, IsPlaced, changed_text, conditioned_text, listed}
use Rattle.json_lines.specs.Shapes.{Field, Form, Writes, Reads, Checks, Watches, change_json, change_with, condition_json, form_fields, freshness_fields, question_with, since_with, texts_json, want_with, wanted_json}
use Rattle.json_lines.proofs.Inverting.{first_bytes, no_question_c, no_question_f, questions_once, seconds}
use Rattle.json_lines.proofs.Values.{lists_once, objects_once}
use Rattle.tuples.proofs.Lists.{tails}

abbrev pub borrowed_texts : List (Bor (List ℕ)) → List (List ℕ)
borrowed_texts = map (λ (t : Bor (List ℕ)). t.now)

abbrev SameWant : WantShape → WantShape → Type 0
SameWant (Since z) (Since y) = z.now ≡ y.now
SameWant Exists Exists = Unit {0}
SameWant Absent Absent = Unit {0}
SameWant _ _ = ⊥

abbrev pub SameFreshness : FreshnessShape → FreshnessShape → Type 0
SameFreshness Latest Latest = Unit {0}
SameFreshness (AtLeast z) (AtLeast y) = z.now ≡ y.now
SameFreshness (Exact z) (Exact y) = z.now ≡ y.now
SameFreshness _ _ = ⊥

-- ---- their texts

change_texts : (op other t u : List ℕ) → change_with op t ≡ change_with other u → t ≡ u
change_texts op other t u e = cc

changes_alike : (c d : ChangeShape) → change_json c ≡ change_json d → changed_text c ≡ changed_text d
changes_alike (Touch t) (Touch u) e = change_texts (codes "touch") (codes "touch") t.now u.now e
changes_alike (Touch t) (Delete u) e = change_texts (codes "touch") (codes "delete") t.now u.now e
changes_alike (Delete t) (Touch u) e = change_texts (codes "delete") (codes "touch") t.now u.now e
changes_alike (Delete t) (Delete u) e = change_texts (codes "delete") (codes "delete") t.now u.now e

texts_alike : (cs ds : List ChangeShape) → map change_json cs ≡ map change_json ds → map changed_text cs ≡ map changed_text ds
texts_alike [] [] e = refl
texts_alike [] (d ∷ ds) e = absurd cc
texts_alike (c ∷ cs) [] e = absurd cc
texts_alike (c ∷ cs) (d ∷ ds) e =
    let one : change_json c ≡ change_json d = cc in
    let more : map change_json cs ≡ map change_json ds = cc in
    ap (λ (t : List ℕ). t ∷ map changed_text cs) (changes_alike c d one) ∙ ap (λ (ts : List (List ℕ)). changed_text d ∷ ts) (texts_alike cs ds more)

since_texts : (z y t u : List ℕ) → since_with z t ≡ since_with y u → (z ≡ y) × (t ≡ u)
since_texts z y t u e = (cc, cc)

want_texts : (v w t u : List ℕ) → want_with v t ≡ want_with w u → (v ≡ w) × (t ≡ u)
want_texts v w t u e = (cc, cc)

since_is_no_want : (z t w u : List ℕ) → since_with z t ≡ want_with w u → ⊥
since_is_no_want z t w u e =
    let fields = objects_once ((codes "since", string z) ∷ (codes "tuple", string t) ∷ []) ((codes "tuple", string u) ∷ (codes "want", string w) ∷ []) e in
    let same = first_bytes (codes "since", string z) (codes "tuple", string u) ((codes "tuple", string t) ∷ []) ((codes "want", string w) ∷ []) fields in
    omega arith

other_wants : codes "exists" ≡ codes "absent" → ⊥
other_wants e = let first = ap (λ (l : List ℕ). get_or l 0 0) e in omega arith

wants_alike : (v w : WantShape) (t u : List ℕ) → wanted_json v t ≡ wanted_json w u → (t ≡ u) × SameWant v w
wants_alike (Since z) (Since y) t u e = let p = since_texts z.now y.now t u e in (p.1, p.0)
wants_alike (Since z) Exists t u e = absurd (since_is_no_want z.now t (codes "exists") u e)
wants_alike (Since z) Absent t u e = absurd (since_is_no_want z.now t (codes "absent") u e)
wants_alike Exists (Since y) t u e = absurd (since_is_no_want y.now u (codes "exists") t (sym e))
wants_alike Exists Exists t u e = ((want_texts (codes "exists") (codes "exists") t u e).1, tt)
wants_alike Exists Absent t u e = absurd (other_wants (want_texts (codes "exists") (codes "absent") t u e).0)
wants_alike Absent (Since y) t u e = absurd (since_is_no_want y.now u (codes "absent") t (sym e))
wants_alike Absent Exists t u e = absurd (other_wants (sym (want_texts (codes "absent") (codes "exists") t u e).0))
wants_alike Absent Absent t u e = ((want_texts (codes "absent") (codes "absent") t u e).1, tt)

conditioned_alike : (cs ds : List ConditionShape) → map condition_json cs ≡ map condition_json ds → map conditioned_text cs ≡ map conditioned_text ds
conditioned_alike [] [] e = refl
conditioned_alike [] (d ∷ ds) e = absurd cc
conditioned_alike (c ∷ cs) [] e = absurd cc
conditioned_alike (c ∷ cs) (d ∷ ds) e =
    let one : condition_json c ≡ condition_json d = cc in
    let more : map condition_json cs ≡ map condition_json ds = cc in
    ap (λ (t : List ℕ). t ∷ map conditioned_text cs) (wants_alike c.want d.want c.tuple.now d.tuple.now one).0 ∙ ap (λ (ts : List (List ℕ)). conditioned_text d ∷ ts) (conditioned_alike cs ds more)

-- ---- what is said of their zookies

placed_moves : (Meets : List ℕ → Type 0) (v w : WantShape) → SameWant v w → IsPlaced Meets v → IsPlaced Meets w
placed_moves Meets (Since z) (Since y) e h = subst Meets e h
placed_moves Meets Exists Exists e h = tt
placed_moves Meets Absent Absent e h = tt
placed_moves Meets _ _ e h = absurd e

misplaced_moves : (IsBad : List ℕ → Type 0) (v w : WantShape) → SameWant v w → IsMisplaced IsBad v → IsMisplaced IsBad w
misplaced_moves IsBad (Since z) (Since y) e h = subst IsBad e h
misplaced_moves IsBad Exists Exists e h = h
misplaced_moves IsBad Absent Absent e h = h
misplaced_moves IsBad _ _ e h = absurd e

same_wants : (c d : ConditionShape) → condition_json c ≡ condition_json d → SameWant c.want d.want
same_wants c d e = (wants_alike c.want d.want c.tuple.now d.tuple.now e).1

pub all_placed_move : (store : ℕ) (cs ds : List ConditionShape) → map condition_json cs ≡ map condition_json ds → ArePlaced store cs → ArePlaced store ds
all_placed_move store [] [] e h = h
all_placed_move store [] (d ∷ ds) e h = absurd cc
all_placed_move store (c ∷ cs) [] e h = absurd cc
all_placed_move store (c ∷ cs) (d ∷ ds) e h =
    let one : condition_json c ≡ condition_json d = cc in
    let more : map condition_json cs ≡ map condition_json ds = cc in
    let P = λ (x : ConditionShape). IsPlaced (IsOfStore store) x.want in
    All-cons P d ds (placed_moves (IsOfStore store) c.want d.want (same_wants c d one) (All-head P c cs h)) (all_placed_move store cs ds more (All-tail P c cs h))

-- a first one that is bad, found step by step
first_moves : (store : ℕ) (IsBad : List ℕ → Type 0) (front : List ConditionShape) (first : ConditionShape) (back ds : List ConditionShape) → map condition_json (front ++ first ∷ back) ≡ map condition_json ds
    → ArePlaced store front → IsMisplaced IsBad first.want → IsFirst store IsBad ds
first_moves store IsBad [] first back [] e placed bad = absurd cc
first_moves store IsBad [] first back (d ∷ ds) e placed bad =
    let one : condition_json first ≡ condition_json d = cc in
    record { front = []; first = d; back = ds; whole = refl; placed = placed; bad = misplaced_moves IsBad first.want d.want (same_wants first d one) bad }
first_moves store IsBad (c ∷ front) first back [] e placed bad = absurd cc
first_moves store IsBad (c ∷ front) first back (d ∷ ds) e placed bad =
    let one : condition_json c ≡ condition_json d = cc in
    let more : map condition_json (front ++ first ∷ back) ≡ map condition_json ds = cc in
    let P = λ (x : ConditionShape). IsPlaced (IsOfStore store) x.want in
    let found = first_moves store IsBad front first back ds more (All-tail P c front placed) bad in
    record {
      front = d ∷ found.front;
      first = found.first;
      back = found.back;
      whole = ap (λ (l : List ConditionShape). d ∷ l) found.whole;
      placed = All-cons P d found.front (placed_moves (IsOfStore store) c.want d.want (same_wants c d one) (All-head P c front placed)) found.placed;
      bad = found.bad;
    }

pub is_first_moves : (store : ℕ) (IsBad : List ℕ → Type 0) (cs ds : List ConditionShape) → map condition_json cs ≡ map condition_json ds → IsFirst store IsBad cs → IsFirst store IsBad ds
is_first_moves store IsBad cs ds e h = first_moves store IsBad h.front h.first h.back ds (ap (map condition_json) (sym h.whole) ∙ e) h.placed h.bad

pub fresh_moves : (IsBad : List ℕ → Type 0) (f g : FreshnessShape) → SameFreshness f g → IsFresh IsBad f → IsFresh IsBad g
fresh_moves IsBad (AtLeast z) (AtLeast y) e h = subst IsBad e h
fresh_moves IsBad (Exact z) (Exact y) e h = subst IsBad e h
fresh_moves IsBad Latest Latest e h = h
fresh_moves IsBad _ _ e h = absurd e

-- ---- forms

pub record SameWrite (cs ds : List ChangeShape) (us vs : List ConditionShape) : Type 0 where
  pub texts : map changed_text cs ≡ map changed_text ds
  pub asked : map conditioned_text us ≡ map conditioned_text vs
  pub conditions : map condition_json us ≡ map condition_json vs

-- what the causes of two forms with the same members depend on is the same
abbrev pub Alike : Form → Form → Type 0
Alike (Writes cs us) (Writes ds vs) = SameWrite cs ds (listed us) (listed vs)
Alike (Reads f sets) (Reads g other) = SameFreshness f g × (borrowed_texts sets ≡ borrowed_texts other)
Alike (Checks f tuple) (Checks g other) = SameFreshness f g × (tuple.now ≡ other.now)
Alike (Watches from limit names) (Watches other bound others) = (from.now ≡ other.now) × (borrowed_texts names ≡ borrowed_texts others)
Alike _ _ = ⊥

writes_alike : (cs ds : List ChangeShape) (us vs : List ConditionShape) → map change_json cs ≡ map change_json ds → map condition_json us ≡ map condition_json vs → SameWrite cs ds us vs
writes_alike cs ds us vs changes conditions = record {
  texts = texts_alike cs ds changes;
  asked = conditioned_alike us vs conditions;
  conditions = conditions;
}

-- the freshness of a question
freshness_once : (f g : FreshnessShape) (op other : List ℕ) (asked more : Field) → question_with (freshness_fields f) op asked ≡ question_with (freshness_fields g) other more → SameFreshness f g
freshness_once Latest Latest op other asked more e = tt
freshness_once Latest (AtLeast y) op other asked more e = let same = first_bytes _ _ _ _ e in absurd (omega arith)
freshness_once Latest (Exact y) op other asked more e = let same = first_bytes _ _ _ _ e in absurd (omega arith)
freshness_once (AtLeast z) Latest op other asked more e = let same = first_bytes _ _ _ _ e in absurd (omega arith)
freshness_once (AtLeast z) (AtLeast y) op other asked more e = let same : string z.now ≡ string y.now = seconds (codes "at_least") _ _ _ _ e in cc
freshness_once (AtLeast z) (Exact y) op other asked more e = let same = first_bytes _ _ _ _ e in absurd (omega arith)
freshness_once (Exact z) Latest op other asked more e = let same = first_bytes _ _ _ _ e in absurd (omega arith)
freshness_once (Exact z) (AtLeast y) op other asked more e = let same = first_bytes _ _ _ _ e in absurd (omega arith)
freshness_once (Exact z) (Exact y) op other asked more e = let same : string z.now ≡ string y.now = seconds (codes "exact") _ _ _ _ e in cc

strings_once : (ts us : List (List ℕ)) → map string ts ≡ map string us → ts ≡ us
strings_once [] [] e = refl
strings_once [] (u ∷ us) e = absurd cc
strings_once (t ∷ ts) [] e = absurd cc
strings_once (t ∷ ts) (u ∷ us) e =
    let one : string t ≡ string u = cc in
    let same : t ≡ u = cc in
    let more : map string ts ≡ map string us = cc in
    ap (λ (x : List ℕ). x ∷ ts) same ∙ ap (λ (l : List (List ℕ)). u ∷ l) (strings_once ts us more)

texts_json_once : (ts us : List (List ℕ)) → texts_json ts ≡ texts_json us → ts ≡ us
texts_json_once ts us e = strings_once ts us (lists_once (map string ts) (map string us) e)

asked_data : (k : List ℕ) (d e : Data) → ◌≡◌ {A = Field} (k, d) (k, e) → d ≡ e
asked_data k d e same = ap (λ (x : Field). x.1) same

other_ops : codes "read" ≡ codes "check" → ⊥
other_ops e = let first = ap (λ (l : List ℕ). get_or l 0 0) e in omega arith

pub forms_alike : (f g : Form) → form_fields f ≡ form_fields g → Alike f g
forms_alike (Writes cs None) (Writes ds None) e = writes_alike cs ds [] [] (lists_once _ _ (seconds (codes "changes") _ _ _ _ e)) refl
forms_alike (Writes cs None) (Writes ds (Some vs)) e = let same = first_bytes _ _ _ _ (tails _ _ _ _ e) in absurd (omega arith)
forms_alike (Writes cs (Some us)) (Writes ds None) e = let same = first_bytes _ _ _ _ (tails _ _ _ _ e) in absurd (omega arith)
forms_alike (Writes cs (Some us)) (Writes ds (Some vs)) e = writes_alike cs ds us vs (lists_once _ _ (seconds (codes "changes") _ _ _ _ e)) (lists_once _ _ (seconds (codes "conditions") _ _ _ _ (tails _ _ _ _ e)))
forms_alike (Writes cs None) (Reads g sets) e = absurd (no_question_c g _ _ _ _ e refl)
forms_alike (Writes cs None) (Checks g tuple) e = absurd (no_question_c g _ _ _ _ e refl)
forms_alike (Writes cs (Some us)) (Reads g sets) e = absurd (no_question_c g _ _ _ _ e refl)
forms_alike (Writes cs (Some us)) (Checks g tuple) e = absurd (no_question_c g _ _ _ _ e refl)
forms_alike (Writes cs None) (Watches from limit names) e = let same = first_bytes _ _ _ _ e in absurd (omega arith)
forms_alike (Writes cs (Some us)) (Watches from limit names) e = let same = first_bytes _ _ _ _ e in absurd (omega arith)
forms_alike (Reads f sets) (Writes ds None) e = absurd (no_question_c f _ _ _ _ (sym e) refl)
forms_alike (Reads f sets) (Writes ds (Some vs)) e = absurd (no_question_c f _ _ _ _ (sym e) refl)
forms_alike (Reads f sets) (Reads g other) e =
    let once = questions_once f g _ _ _ _ e in
    (freshness_once f g _ _ _ _ e, texts_json_once (borrowed_texts sets) (borrowed_texts other) (asked_data (codes "sets") _ _ once.1))
forms_alike (Reads f sets) (Checks g tuple) e = absurd (other_ops (questions_once f g _ _ _ _ e).0)
forms_alike (Reads f sets) (Watches from limit names) e = absurd (no_question_f f _ _ _ _ (sym e) refl)
forms_alike (Checks f tuple) (Writes ds None) e = absurd (no_question_c f _ _ _ _ (sym e) refl)
forms_alike (Checks f tuple) (Writes ds (Some vs)) e = absurd (no_question_c f _ _ _ _ (sym e) refl)
forms_alike (Checks f tuple) (Reads g sets) e = absurd (other_ops (sym (questions_once f g _ _ _ _ e).0))
forms_alike (Checks f tuple) (Checks g other) e =
    let once = questions_once f g _ _ _ _ e in
    let text : string tuple.now ≡ string other.now = asked_data (codes "tuple") _ _ once.1 in
    (freshness_once f g _ _ _ _ e, cc)
forms_alike (Checks f tuple) (Watches from limit names) e = absurd (no_question_f f _ _ _ _ (sym e) refl)
forms_alike (Watches from limit names) (Writes ds None) e = let same = first_bytes _ _ _ _ e in absurd (omega arith)
forms_alike (Watches from limit names) (Writes ds (Some vs)) e = let same = first_bytes _ _ _ _ e in absurd (omega arith)
forms_alike (Watches from limit names) (Reads g sets) e = absurd (no_question_f g _ _ _ _ e refl)
forms_alike (Watches from limit names) (Checks g tuple) e = absurd (no_question_f g _ _ _ _ e refl)
forms_alike (Watches from limit names) (Watches other bound others) e =
    let text : string from.now ≡ string other.now = seconds (codes "from") _ _ _ _ e in
    let listed_json : texts_json (borrowed_texts names) ≡ texts_json (borrowed_texts others) = seconds (codes "namespaces") _ _ _ _ (tails _ _ _ _ (tails _ _ _ _ e)) in
    (cc, texts_json_once (borrowed_texts names) (borrowed_texts others) listed_json)
