-- What the members of a request say of its parts.
use Rattle.std.proofs.Common.{◌≡◌, ℕ, ◌≤◌, List, [], ◌∷◌, map, length, get_or, sym, ap, ◌∙◌, ◌⊎◌, inl, inr, arith, refl, codes, Bor, Some, None, Bool, true, false, eqb}
use Rattle.std.specs.Cmp.Lexicographic.{pointwise}
use Rattle.std.proofs.lemmas.Bool.{both_ways}
use Rattle.std.proofs.lemmas.Bool.Decides.{Decides-eqb, nat_tests}
use Rattle.std.proofs.lemmas.Slice.Eq.{slice_eq-Decides}
use Rattle.std.proofs.lemmas.List.{length-map}
use Rattle.tuples.specs.Limits.{max_watched}
use Rattle.tuples.proofs.Lists.{tails}
use Rattle.serde_json.specs.Data.{Data, string}
use Rattle.refusal.specs.declared.refusal.Refusal.{Refusal}
use Rattle.json_lines.proofs.Values.{lists_once}
use Rattle.json_lines.specs.declared.shape.ChangeShape.{ChangeShape}
use Rattle.json_lines.specs.declared.shape.ConditionShape.{ConditionShape}
use Rattle.json_lines.specs.declared.shape.FreshnessShape.{FreshnessShape}
use Rattle.json_lines.specs.declared.shape.FreshnessShape.TheVariants.{Latest, AtLeast, Exact}
use Rattle.json_lines.specs.Shapes.{Field, Form, Writes, Reads, Checks, Watches, HasForm, IsMisshapen, asks_sets, asks_tuple, change_json, condition_json, freshness_fields, list_with, question_with, texts_json, watch_rest}

-- the first bytes of the first keys
pub first_bytes : (f g : Field) (fs gs : List Field) → f ∷ fs ≡ g ∷ gs → get_or f.0 0 0 ≡ get_or g.0 0 0
first_bytes f g fs gs e = let same : f ≡ g = cc in ap (λ (x : Field). get_or x.0 0 0) same

-- a question begins with neither of two keys
abbrev NoQuestion : ℕ → Type 0
NoQuestion byte = (f : FreshnessShape) (op : List ℕ) (asked first : Field) (rest : List Field) → first ∷ rest ≡ question_with (freshness_fields f) op asked → get_or first.0 0 0 ≡ byte → ⊥

pub no_question_c : NoQuestion 99
no_question_c Latest op asked first rest e is = let same = first_bytes first _ rest _ e in omega arith
no_question_c (AtLeast z) op asked first rest e is = let same = first_bytes first _ rest _ e in omega arith
no_question_c (Exact z) op asked first rest e is = let same = first_bytes first _ rest _ e in omega arith

pub no_question_f : NoQuestion 102
no_question_f Latest op asked first rest e is = let same = first_bytes first _ rest _ e in omega arith
no_question_f (AtLeast z) op asked first rest e is = let same = first_bytes first _ rest _ e in omega arith
no_question_f (Exact z) op asked first rest e is = let same = first_bytes first _ rest _ e in omega arith

pub seconds : (k : List ℕ) (d e : Data) (fs gs : List Field) → (k, d) ∷ fs ≡ (k, e) ∷ gs → d ≡ e
seconds k d e fs gs same = let one : (k, d) ≡ (k, e) = cc in ap (λ (x : Field). x.1) one

-- the parts of a write after its first key
pub record AreOfWrite (changes : Data) (rest : List Field) : Type 0 where
  pub list : List ChangeShape
  pub some : 1 ≤ length list
  pub changes_are : changes ≡ list_with (map change_json list)
  pub behind : (rest ≡ (codes "op", string (codes "write")) ∷ []) ⊎ ((ds : List ConditionShape) × (rest ≡ (codes "conditions", list_with (map condition_json ds)) ∷ (codes "op", string (codes "write")) ∷ []))

pub write_parts : (d : Data) (rest : List Field) (s : Form) → HasForm ((codes "changes", d) ∷ rest) s → AreOfWrite d rest
write_parts d rest (Writes changes None) h = record { list = changes; some = h.1; changes_are = seconds (codes "changes") d _ rest _ h.0; behind = inl (tails _ _ rest _ h.0) }
write_parts d rest (Writes changes (Some conditions)) h = record { list = changes; some = h.1; changes_are = seconds (codes "changes") d _ rest _ h.0; behind = inr (conditions, tails _ _ rest _ h.0) }
write_parts d rest (Reads f sets) h = absurd (no_question_c f _ _ _ rest h.0 refl)
write_parts d rest (Checks f tuple) h = absurd (no_question_c f _ _ _ rest h.0 refl)
write_parts d rest (Watches from limit namespaces) h = let same = first_bytes _ _ rest _ h.0 in absurd (omega arith)

-- and those of a watch
pub record AreOfWatch (from : Data) (rest : List Field) : Type 0 where
  pub zookie : List ℕ
  pub limit : ℕ
  pub list : List (List ℕ)
  pub low : 1 ≤ limit
  pub high : limit ≤ max_watched
  pub some : 1 ≤ length list
  pub from_is : from ≡ string zookie
  pub behind : rest ≡ watch_rest limit (texts_json list)

pub watch_parts : (d : Data) (rest : List Field) (s : Form) → HasForm ((codes "from", d) ∷ rest) s → AreOfWatch d rest
watch_parts d rest (Watches from limit namespaces) h = record {
  zookie = from.now;
  limit = limit;
  list = map (λ (t : Bor (List ℕ)). t.now) namespaces;
  low = h.1.0;
  high = h.1.1;
  some = omega (arith, h.1.2, length-map namespaces (λ (t : Bor (List ℕ)). t.now));
  from_is = seconds (codes "from") d _ rest _ h.0;
  behind = tails _ _ rest _ h.0;
}
watch_parts d rest (Writes changes None) h = let same = first_bytes _ _ rest _ h.0 in absurd (omega arith)
watch_parts d rest (Writes changes (Some conditions)) h = let same = first_bytes _ _ rest _ h.0 in absurd (omega arith)
watch_parts d rest (Reads f sets) h = absurd (no_question_f f _ _ _ rest h.0 refl)
watch_parts d rest (Checks f tuple) h = absurd (no_question_f f _ _ _ rest h.0 refl)

-- a question has one op, and asks for one thing
ops_once : (k : List ℕ) (op other : List ℕ) (asked more : Field) → (k, string op) ∷ asked ∷ [] ≡ (k, string other) ∷ more ∷ [] → (op ≡ other) × (asked ≡ more)
ops_once k op other asked more e =
    let texts : string op ≡ string other = seconds k (string op) (string other) _ _ e in
    let rest : asked ∷ [] ≡ more ∷ [] = tails _ _ (asked ∷ []) (more ∷ []) e in
    (cc, cc)

pub questions_once : (f g : FreshnessShape) (op other : List ℕ) (asked more : Field) → question_with (freshness_fields f) op asked ≡ question_with (freshness_fields g) other more → (op ≡ other) × (asked ≡ more)
questions_once Latest Latest op other asked more e = ops_once (codes "op") op other asked more e
questions_once Latest (AtLeast y) op other asked more e = let same = first_bytes _ _ _ _ e in absurd (omega arith)
questions_once Latest (Exact y) op other asked more e = let same = first_bytes _ _ _ _ e in absurd (omega arith)
questions_once (AtLeast z) Latest op other asked more e = let same = first_bytes _ _ _ _ e in absurd (omega arith)
questions_once (AtLeast z) (AtLeast y) op other asked more e = ops_once (codes "op") op other asked more (tails _ _ _ _ e)
questions_once (AtLeast z) (Exact y) op other asked more e = let same = first_bytes _ _ _ _ e in absurd (omega arith)
questions_once (Exact z) Latest op other asked more e = let same = first_bytes _ _ _ _ e in absurd (omega arith)
questions_once (Exact z) (AtLeast y) op other asked more e = let same = first_bytes _ _ _ _ e in absurd (omega arith)
questions_once (Exact z) (Exact y) op other asked more e = ops_once (codes "op") op other asked more (tails _ _ _ _ e)

-- what a question asks
abbrev pub IsOfRead : List ℕ → Field → Type 0
IsOfRead op asked = (op ≡ codes "read") × ((sets : List (List ℕ)) × (1 ≤ length sets) × (asked ≡ asks_sets sets))

abbrev pub IsOfCheck : List ℕ → Field → Type 0
IsOfCheck op asked = (op ≡ codes "check") × ((tuple : List ℕ) × (asked ≡ asks_tuple tuple))

pub question_parts : (fields : List Field) (f : FreshnessShape) (op : List ℕ) (asked : Field) → fields ≡ question_with (freshness_fields f) op asked → (s : Form) → HasForm fields s → IsOfRead op asked ⊎ IsOfCheck op asked
question_parts fields f op asked is (Reads g sets) h =
    let once = questions_once f g op (codes "read") asked _ (sym is ∙ h.0) in
    inl (once.0, (map (λ (t : Bor (List ℕ)). t.now) sets, omega (arith, h.1, length-map sets (λ (t : Bor (List ℕ)). t.now)), once.1))
question_parts fields f op asked is (Checks g tuple) h =
    let once = questions_once f g op (codes "check") asked _ (sym is ∙ h.0) in
    inr (once.0, (tuple.now, once.1))
question_parts fields f op asked is (Writes changes None) h = absurd (no_question_c f op asked _ _ (sym h.0 ∙ is) refl)
question_parts fields f op asked is (Writes changes (Some conditions)) h = absurd (no_question_c f op asked _ _ (sym h.0 ∙ is) refl)
question_parts fields f op asked is (Watches from limit namespaces) h = absurd (no_question_f f op asked _ _ (sym h.0 ∙ is) refl)

-- ---- why the members are those of no request

pub write_misshapen : (d : Data) (rest : List Field) (e : Refusal) → IsMisshapen (λ cs. d ≡ list_with (map change_json cs)) e → IsMisshapen (HasForm ((codes "changes", d) ∷ rest)) e
write_misshapen d rest e (inl r) = inl (r.0, λ s h. let p = write_parts d rest s h in r.1 p.list p.changes_are)
write_misshapen d rest e (inr r) = inr r

pub write_empty : (d : Data) (rest : List Field) (cs : List ChangeShape) → d ≡ list_with (map change_json cs) → length cs ≡ 0 → (s : Form) → HasForm ((codes "changes", d) ∷ rest) s → ⊥
write_empty d rest cs is none s h =
    let p = write_parts d rest s h in
    let same = ap length (lists_once (map change_json cs) (map change_json p.list) (sym is ∙ p.changes_are)) in
    omega (arith, same, length-map cs change_json, length-map p.list change_json, p.some)

pub write_unended : (d : Data) (rest : List Field) → (rest ≡ (codes "op", string (codes "write")) ∷ [] → ⊥) → ((x : Data) (more : List Field) → rest ≡ (codes "conditions", x) ∷ more → ⊥) → (s : Form) → HasForm ((codes "changes", d) ∷ rest) s → ⊥
write_unended d rest no_op no_conditions s h = elim (write_parts d rest s h).behind [ inl e ↦ no_op e | inr e ↦ no_conditions _ _ e.1 ]

pub watch_nothing : (d : Data) (rest : List Field) → ((z : List ℕ) (n : ℕ) (x : Data) → 1 ≤ n → n ≤ max_watched → d ≡ string z → rest ≡ watch_rest n x → ⊥) → (s : Form) → HasForm ((codes "from", d) ∷ rest) s → ⊥
watch_nothing d rest none s h = let p = watch_parts d rest s h in none p.zookie p.limit (texts_json p.list) p.low p.high p.from_is p.behind

-- the namespaces of a watch
watched : (d x : Data) (rest : List Field) (n : ℕ) → rest ≡ watch_rest n x → (s : Form) → HasForm ((codes "from", d) ∷ rest) s → (list : List (List ℕ)) × (1 ≤ length list) × (x ≡ texts_json list)
watched d x rest n is s h =
    let p = watch_parts d rest s h in
    (p.list, p.some, seconds (codes "namespaces") x (texts_json p.list) _ _ (tails _ _ _ _ (sym is ∙ p.behind)))

-- an empty list is no list that has a text
pub no_texts : (x : Data) (texts : List (Bor (List ℕ))) → x ≡ texts_json (map (λ t. t.now) texts) → length texts ≡ 0 → (list : List (List ℕ)) → 1 ≤ length list → x ≡ texts_json list → ⊥
no_texts x [] is none [] some e = omega (arith, some)
no_texts x [] is none (t ∷ list) some e = cc
no_texts x (t ∷ texts) is none list some e = omega arith

pub watched_empty : (d x : Data) (rest : List Field) (n : ℕ) (texts : List (Bor (List ℕ))) → rest ≡ watch_rest n x → x ≡ texts_json (map (λ t. t.now) texts) → length texts ≡ 0 → (s : Form) → HasForm ((codes "from", d) ∷ rest) s → ⊥
watched_empty d x rest n texts is list none s h = let p = watched d x rest n is s h in no_texts x texts list none p.0 p.1 p.2

-- a question that asks for nothing
pub question_none : (fields : List Field) (f : FreshnessShape) (op : List ℕ) (asked : Field) → fields ≡ question_with (freshness_fields f) op asked → (IsOfRead op asked → ⊥) → (IsOfCheck op asked → ⊥) → (s : Form) → HasForm fields s → ⊥
question_none fields f op asked is no_read no_check s h = elim (question_parts fields f op asked is s h) [ inl r ↦ no_read r | inr r ↦ no_check r ]

pub no_read_op : (op : List ℕ) (asked : Field) → op ≡ codes "check" → IsOfRead op asked → ⊥
no_read_op op asked is h = let same = ap (λ (t : List ℕ). get_or t 0 0) (sym is ∙ h.0) in omega arith

pub tuple_misshapen : (fields : List Field) (f : FreshnessShape) (op : List ℕ) (asked : Field) → fields ≡ question_with (freshness_fields f) op asked → op ≡ codes "check" → ((t : List ℕ) → asked ≡ asks_tuple t → ⊥) → (s : Form) → HasForm fields s → ⊥
tuple_misshapen fields f op asked is check none = question_none fields f op asked is (no_read_op op asked check) (λ h. none h.1.0 h.1.1)

-- the end of a list and of a test
pub none_is : (n : ℕ) (r : Bool) → r ≡ eqb n 0 → r ≡ true → n ≡ 0
none_is n r e was = grind (arith, nat_tests)

-- what a comparison of texts says
pub same_text : (s t : List ℕ) (r : Bool) → r ≡ pointwise eqb s t → r ≡ true → s ≡ t
same_text s t r e was = (slice_eq-Decides Decides-eqb s t r e).0 was

pub other_text : (s t : List ℕ) (r : Bool) → r ≡ pointwise eqb s t → r ≡ false → s ≡ t → ⊥
other_text s t r e was same = both_ways r was ((slice_eq-Decides Decides-eqb s t r e).1 same)
