-- The JSON of a short form is shallow, and its text has no line feed.
use Rattle.std.proofs.Common.{◌≡◌, ℕ, suc, ◌<◌, ◌≤◌, ◌^◌, ◌/◌, ◌%◌, Bool, true, false, eqb, nat_lt, cond, List, [], ◌∷◌, ◌++◌, map, codes, Some, refl, sym, ap, ◌∙◌, subst, arith}
use Rattle.std.specs.List.{list_any}
use Rattle.std.specs.Char.{digit_char}
use Rattle.std.specs.Fmt.{decimal}
use Rattle.std.specs.Int.{IsInRange}
use Rattle.std.specs.Str.Parse.{AllDigits}
use Rattle.std.proofs.lemmas.Fmt.{decimal_is_IsNumeral}
use Rattle.std.proofs.lemmas.Str.Parse.{digit_from_value}
use Rattle.std.proofs.lemmas.Bool.{ne_eqb, or_from}
use Rattle.std.proofs.lemmas.Bool.Decides.{nat_tests}
use Rattle.std.proofs.lemmas.List.Folds.{list_any-append}
use Rattle.json.specs.Print.{escape, escape_byte, escape_letter, quoted}
use Rattle.serde_json.specs.Data.{Data, Items, Members, depth, items_depth, members_depth, number, string, unsigned}
use Rattle.serde_json.specs.Read.{max_depth, read}
use Rattle.serde_json.specs.View.{items_of}
use Rattle.serde_json.specs.Written.{comma_if, compact_text, has_float, items_have_float, items_text, members_have_float, members_text}
use Rattle.json_lines.specs.Shapes.{Field, list_with, members_with, object_with, texts_json}
use Rattle.tuples.specs.Parsing.{Lacks}
use Rattle.client.specs.Forms.{Asked, Changed, Fresh, IsShort, Short, absent, asked_json, at_least, changed_json, checks, deleted, exact, exists, fresh_fields, latest, limit_of, reads, short_fields, since, touched, unsaid, watches, writes}

lacks_cons : (b : ℕ) (bs : List ℕ) → (b ≡ 10 → ⊥) → Lacks 10 bs → Lacks 10 (b ∷ bs)
lacks_cons b bs other h = or_from (eqb b 10) (list_any (λ c. eqb c 10) bs) (ne_eqb b 10 other) h

lacks_append : (a b : List ℕ) → Lacks 10 a → Lacks 10 b → Lacks 10 (a ++ b)
lacks_append a b ha hb = list_any-append (λ c. eqb c 10) a b ∙ or_from (list_any (λ c. eqb c 10) a) (list_any (λ c. eqb c 10) b) ha hb

lacks_cond : (t : Bool) (a b : List ℕ) → (t ≡ true → Lacks 10 a) → (t ≡ false → Lacks 10 b) → Lacks 10 (cond t a b)
lacks_cond true a b ha hb = ha refl
lacks_cond false a b ha hb = hb refl

-- ---- strings

letter_is_none : (x : ℕ) → escape_letter x ≡ 10 → ⊥
letter_is_none x e = grind (arith, nat_tests)

digit_is_none : (d : ℕ) → digit_char d ≡ 10 → ⊥
digit_is_none d e = grind (arith, nat_tests)

from_space : (x : ℕ) → nat_lt x 32 ≡ false → x ≡ 10 → ⊥
from_space x f e = grind (arith, nat_tests)

byte_lacks : (x : ℕ) → Lacks 10 (escape_byte x)
unfolding escape_byte
byte_lacks x =
    lacks_cond (nat_lt 0 (escape_letter x)) _ _ (λ t. lacks_cons 92 (escape_letter x ∷ []) (λ e. omega (arith, e)) (lacks_cons (escape_letter x) [] (letter_is_none x) refl))
    (λ f. lacks_cond (nat_lt x 32) _ _ (λ t. lacks_append (92 ∷ 117 ∷ 48 ∷ 48 ∷ []) (digit_char (x / 16) ∷ digit_char (x % 16) ∷ []) refl (lacks_cons (digit_char (x / 16)) (digit_char (x % 16) ∷ []) (digit_is_none (x / 16)) (lacks_cons (digit_char (x % 16)) [] (digit_is_none (x % 16)) refl)))
    (λ g. lacks_cons x [] (from_space x g) refl))

escape_lacks : (t : List ℕ) → Lacks 10 (escape t)
escape_lacks [] = refl
escape_lacks (x ∷ t) = lacks_append (escape_byte x) (escape t) (byte_lacks x) (escape_lacks t)

quoted_lacks : (t : List ℕ) → Lacks 10 (quoted t)
quoted_lacks t = lacks_append (34 ∷ []) (escape t ++ 34 ∷ []) refl (lacks_append (escape t) (34 ∷ []) (escape_lacks t) refl)

-- ---- numbers

digit_is_not : (c : ℕ) → IsInRange 48 57 c → eqb c 10 ≡ false
digit_is_not c h = ne_eqb c 10 (λ e. omega (arith, h.0, e))

digits_lack : (ds : List ℕ) → AllDigits 10 ds → Lacks 10 ds
digits_lack [] h = refl
digits_lack (c ∷ cs) h = or_from (eqb c 10) (list_any (λ b. eqb b 10) cs) (digit_is_not c (digit_from_value c h.0)) (digits_lack cs h.1)

decimal_lacks : (n : ℕ) → n < 2 ^ 64 → Lacks 10 (decimal n)
decimal_lacks n h = digits_lack (decimal n) ((decimal_is_IsNumeral n h).0).1

-- ---- values

-- it nests no deeper than this, and its text is known and has no line feed
abbrev pub Fine : ℕ → Data → Type 0
Fine n d = (depth d ≤ n) × (has_float d ≡ false) × Lacks 10 (compact_text d)

abbrev FineItems : ℕ → Items → Type 0
FineItems n ds = (items_depth ds ≤ n) × (items_have_float ds ≡ false) × ((later : Bool) → Lacks 10 (items_text later ds))

abbrev FineMembers : ℕ → Members → Type 0
FineMembers n ms = (members_depth ms ≤ n) × (members_have_float ms ≡ false) × ((later : Bool) → Lacks 10 (members_text later ms))

comma_lacks : (later : Bool) → Lacks 10 (comma_if later)
comma_lacks true = refl
comma_lacks false = refl

string_fine : (n : ℕ) (t : List ℕ) → Fine n (string t)
string_fine n t = (omega arith, refl, quoted_lacks t)

-- each value of a list, and of members
abbrev AllFine : ℕ → List Data → Type 0
AllFine n [] = Unit {0}
AllFine n (d ∷ ds) = Fine n d × AllFine n ds

abbrev AreFine : ℕ → List Field → Type 0
AreFine n [] = Unit {0}
AreFine n (f ∷ fs) = Fine n f.1 × AreFine n fs

items_fine : (n : ℕ) (ds : List Data) → AllFine n ds → FineItems n (items_of ds)
items_fine n [] h = (omega arith, refl, λ later. refl)
items_fine n (d ∷ ds) h =
    let more = items_fine n ds h.1 in (
      omega (arith, h.0.0, more.0),
      or_from (has_float d) (items_have_float (items_of ds)) h.0.1 more.1,
      λ later. lacks_append (comma_if later) (compact_text d ++ items_text true (items_of ds)) (comma_lacks later) (lacks_append (compact_text d) (items_text true (items_of ds)) h.0.2 (more.2 true)),
    )

list_fine : (n : ℕ) (ds : List Data) → AllFine n ds → Fine (suc n) (list_with ds)
list_fine n ds h = let all = items_fine n ds h in (omega (arith, all.0), all.1, lacks_cons 91 (items_text false (items_of ds)) (λ e. omega (arith, e)) (all.2 false))

members_fine : (n : ℕ) (fs : List Field) → AreFine n fs → FineMembers n (members_with fs)
members_fine n [] h = (omega arith, refl, λ later. refl)
members_fine n (f ∷ fs) h =
    let more = members_fine n fs h.1 in
    let rest = members_text true (members_with fs) in (
      omega (arith, h.0.0, more.0),
      or_from (has_float f.1) (members_have_float (members_with fs)) h.0.1 more.1,
      λ later. lacks_append (comma_if later) (quoted f.0 ++ 58 ∷ (compact_text f.1 ++ rest)) (comma_lacks later)
          (lacks_append (quoted f.0) (58 ∷ (compact_text f.1 ++ rest)) (quoted_lacks f.0) (lacks_cons 58 (compact_text f.1 ++ rest) (λ e. omega (arith, e)) (lacks_append (compact_text f.1) rest h.0.2 (more.2 true)))),
    )

object_fine : (n : ℕ) (fs : List Field) → AreFine n fs → Fine (suc n) (object_with fs)
object_fine n fs h = let all = members_fine n fs h in (omega (arith, all.0), all.1, lacks_cons 123 (members_text false (members_with fs)) (λ e. omega (arith, e)) (all.2 false))

-- ---- short forms

two_fine : (n : ℕ) (k l s t : List ℕ) → Fine (suc n) (object_with ((k, string s) ∷ (l, string t) ∷ []))
two_fine n k l s t = object_fine n ((k, string s) ∷ (l, string t) ∷ []) (string_fine n s, (string_fine n t, tt))

texts_fine : (n : ℕ) (ts : List (List ℕ)) → AllFine n (map string ts)
texts_fine n [] = tt
texts_fine n (t ∷ ts) = (string_fine n t, texts_fine n ts)

change_fine : (n : ℕ) (c : Changed) → Fine (suc n) (changed_json c)
change_fine n (touched t) = two_fine n (codes "op") (codes "tuple") (codes "touch") t
change_fine n (deleted t) = two_fine n (codes "op") (codes "tuple") (codes "delete") t

changes_fine : (n : ℕ) (cs : List Changed) → AllFine (suc n) (map changed_json cs)
changes_fine n [] = tt
changes_fine n (c ∷ cs) = (change_fine n c, changes_fine n cs)

asked_fine : (n : ℕ) (c : Asked) → Fine (suc n) (asked_json c)
asked_fine n (since t z) = two_fine n (codes "since") (codes "tuple") z t
asked_fine n (exists t) = two_fine n (codes "tuple") (codes "want") t (codes "exists")
asked_fine n (absent t) = two_fine n (codes "tuple") (codes "want") t (codes "absent")

asks_fine : (n : ℕ) (cs : List Asked) → AllFine (suc n) (map asked_json cs)
asks_fine n [] = tt
asks_fine n (c ∷ cs) = (asked_fine n c, asks_fine n cs)

-- the members of a question
question_fine : (n : ℕ) (f : Fresh) (fs : List Field) → AreFine n fs → AreFine n (fresh_fields f ++ fs)
question_fine n unsaid fs h = h
question_fine n latest fs h = h
question_fine n (at_least z) fs h = (string_fine n z, h)
question_fine n (exact z) fs h = (string_fine n z, h)

number_fine : (n m : ℕ) → m ≤ 256 → Fine n (number (unsigned m))
number_fine n m h = (omega arith, refl, decimal_lacks m (omega (arith, h)))

fields_fine : (s : Short) → IsShort s → AreFine 2 (short_fields s)
fields_fine (writes cs []) h = (list_fine 1 (map changed_json cs) (changes_fine 0 cs), (string_fine 2 (codes "write"), tt))
fields_fine (writes cs (a ∷ asks)) h = (list_fine 1 (map changed_json cs) (changes_fine 0 cs), (list_fine 1 (map asked_json (a ∷ asks)) (asks_fine 0 (a ∷ asks)), (string_fine 2 (codes "write"), tt)))
fields_fine (reads f sets) h = question_fine 2 f ((codes "op", string (codes "read")) ∷ (codes "sets", texts_json sets) ∷ []) (string_fine 2 (codes "read"), (list_fine 1 (map string sets) (texts_fine 1 sets), tt))
fields_fine (checks f t) h = question_fine 2 f ((codes "op", string (codes "check")) ∷ (codes "tuple", string t) ∷ []) (string_fine 2 (codes "check"), (string_fine 2 t, tt))
fields_fine (watches from limit ns) h =
    (string_fine 2 from, (number_fine 2 (limit_of limit) h.0.high, (list_fine 1 (map string ns) (texts_fine 1 ns), (string_fine 2 (codes "watch"), tt))))

pub short_fine : (s : Short) → IsShort s → Fine 3 (object_with (short_fields s))
short_fine s h = object_fine 2 (short_fields s) (fields_fine s h)

pub line_reads : (s : Short) (d : Data) (line : List ℕ) → IsShort s → d ≡ object_with (short_fields s) → (depth d ≤ max_depth → read line ≡ Some d) → read line ≡ Some (object_with (short_fields s))
line_reads s d line h is back =
    let shallow : depth (object_with (short_fields s)) ≤ 3 = (short_fine s h).0 in
    back (omega (arith, ap depth is, shallow)) ∙ ap Some is

pub line_fine : (s : Short) (d : Data) (line : List ℕ) → IsShort s → d ≡ object_with (short_fields s) → (has_float d ≡ false → line ≡ compact_text d) → Lacks 10 line
line_fine s d line h is text =
    let fine = short_fine s h in
    subst (Lacks 10) (sym (text (ap has_float is ∙ fine.1) ∙ ap compact_text is)) fine.2
