-- A condition is cut from its word in one way, and words are read up to one that is none.
use Rattle.std.proofs.Common.{◌≡◌, ◌≢◌, ℕ, zero, suc, ◌+◌, ◌<◌, ◌≤◌, eqb, false, List, [], ◌∷◌, ◌++◌, map, length, get_or, take, drop, Bor, Option, Some, None, Bool, MatchOption, sym, ap, ◌∙◌, subst, arith, refl, codes, append_assoc, inl, inr}
use Rattle.std.specs.List.{All}
use Rattle.std.specs.Str.{NoCharPasses}
use Rattle.std.specs.Bool.{MatchBool}
use Rattle.std.specs.Str.Pattern.{FindsChar, RFindsChar, SplitsAroundMatch}
use Rattle.std.proofs.lemmas.Bool.{false≢true}
use Rattle.std.proofs.lemmas.List.{map-append, take-append-drop, drop_more}
use Rattle.std.proofs.lemmas.List.Elements.{All-from_get_or, All-head, All-tail}
use Rattle.std.proofs.lemmas.Str.Pattern.{NoCharPasses-char, contains_char, drop_at_char}
use Rattle.serde_json.specs.Data.{Data}
use Rattle.tuples.specs.Parsing.{Lacks}
use Rattle.tuples.proofs.Lists.{tails, heads, other_first}
use Rattle.tuples.proofs.Cuts.{lacks_everywhere}
use Rattle.client.specs.Forms.{Asked, Changed, IsAsked, asked_word, changed_word, deleted, if_words, touched}
use Rattle.client.specs.Reading.{AreAsked, BeginsNoChange, IsMistaken, SpellsNone}
use Rattle.client.specs.declared.mistake.Mistake.{Mistake}
use Rattle.client.proofs.Verbs.{write_only}

lacks_char : (c : ℕ) (bs : List ℕ) → NoCharPasses (λ d. eqb d c) bs → c < 128 → Lacks c bs
lacks_char c bs none small = lacks_everywhere c bs (All-from_get_or (λ b. b ≢ c) bs 0 (λ k lt. NoCharPasses-char c bs k none small lt))

-- what stands before and after the last such byte
pub cut_at_last : (c : ℕ) (bs : List ℕ) (r : Option (Bor (List ℕ) × Bor (List ℕ))) → MatchOption r (RFindsChar c bs None) (λ x. SplitsAroundMatch (RFindsChar c) bs x.0.now x.1.now) → c < 128
    → MatchOption r (Lacks c bs) (λ x. (bs ≡ x.0.now ++ c ∷ x.1.now) × Lacks c x.1.now)
cut_at_last c bs None h small = lacks_char c bs h small
cut_at_last c bs (Some x) h small =
    let i = h.0 in
    let j = h.1 in
    let found = h.2 in
    let behind = drop_at_char c bs i j found.1 small in
    (sym (take-append-drop i bs) ∙ ap (λ (l : List ℕ). take i bs ++ l) behind ∙ ap (λ (l : List ℕ). l ++ c ∷ drop j bs) (sym h.3) ∙ ap (λ (l : List ℕ). x.0.now ++ c ∷ l) (sym h.4), subst (Lacks c) (sym h.4) (lacks_char c (drop j bs) found.0 small))

pub some_texts : (words : List (Bor (List ℕ))) (none : Bool) → none ≡ eqb (length words) 0 → none ≡ false → 1 ≤ length (map (λ (w : Bor (List ℕ)). w.now) words)
some_texts [] none e some = absurd (false≢true (sym some ∙ e))
some_texts (w ∷ words) none e some = omega arith

-- one value more
pub pushed : {A : Type 0} (f : A → Data) (old now new : List Data) (cs : List A) (c : A) → now ≡ old ++ map f cs → new ≡ now ++ f c ∷ [] → new ≡ old ++ map f (cs ++ c ∷ [])
pushed f old now new cs c was is =
    is ∙ ap (λ (l : List Data). l ++ f c ∷ []) was ∙ append_assoc old (map f cs) (f c ∷ []) ∙ ap (λ (l : List Data). old ++ l) (sym (map-append f cs (c ∷ [])))

abbrev text : Bor (List ℕ) → List ℕ
text w = w.now

pub behind_changes : (words : List (Bor (List ℕ))) (i : ℕ) (cs : List Changed) → map text (take i words) ≡ map changed_word cs → map text words ≡ map changed_word cs ++ map text (drop i words)
behind_changes words i cs e =
    ap (map text) (sym (take-append-drop i words)) ∙ map-append text (take i words) (drop i words) ∙ ap (λ (l : List (List ℕ)). l ++ map text (drop i words)) e

pub begins_no_change : (words : List (Bor (List ℕ))) (i : ℕ) (d : Bor (List ℕ)) → i < length words → ((c : Changed) → (get_or words i d).now ≡ changed_word c → ⊥) → BeginsNoChange (map text (drop i words))
begins_no_change words i d h none c more e = none c (heads (get_or words i d).now (changed_word c) (map text (drop (i + 1) words)) more (ap (map text) (sym (drop_more words i d h)) ∙ e))

pub no_condition_at : (words : List (Bor (List ℕ))) (i : ℕ) (d : Bor (List ℕ)) → i < length words → ((c : Asked) → IsAsked c → (get_or words i d).now ≡ asked_word c → ⊥) → (cs : List Asked) → AreAsked (map text words) cs → ⊥
no_condition_at [] i d h none cs a = omega arith
no_condition_at (w ∷ words) i d h none [] a = let e : map text (w ∷ words) ≡ [] = a.0 in cc
no_condition_at (w ∷ words) zero d h none (c ∷ cs) a = none c (All-head IsAsked c cs a.1) (heads w.now (asked_word c) (map text words) (map asked_word cs) a.0)
no_condition_at (w ∷ words) (suc i) d h none (c ∷ cs) a = no_condition_at words i d (omega arith) none cs (tails w.now (asked_word c) (map text words) (map asked_word cs) a.0, All-tail IsAsked c cs a.1)

-- ---- the parts of a write

-- changes end if a word is none
pub changes_once : (cs ds : List Changed) (rest more : List (List ℕ)) → map changed_word cs ++ rest ≡ map changed_word ds ++ more → BeginsNoChange rest → BeginsNoChange more → rest ≡ more
changes_once [] [] rest more e r m = e
changes_once [] (d ∷ ds) rest more e r m = absurd (r d (map changed_word ds ++ more) e)
changes_once (c ∷ cs) [] rest more e r m = absurd (m c (map changed_word cs ++ rest) (sym e))
changes_once (c ∷ cs) (d ∷ ds) rest more e r m = changes_once cs ds rest more (tails (changed_word c) (changed_word d) (map changed_word cs ++ rest) (map changed_word ds ++ more) e) r m

-- `if` is no change
pub if_is_no_change : (cs : List Asked) → BeginsNoChange (if_words (map asked_word cs))
if_is_no_change [] c more e = cc
if_is_no_change (a ∷ cs) (touched t) more e = other_first 0 (codes "if") (43 ∷ t) (map asked_word (a ∷ cs)) more refl e
if_is_no_change (a ∷ cs) (deleted t) more e = other_first 0 (codes "if") (45 ∷ t) (map asked_word (a ∷ cs)) more refl e

-- words that begin with no change are no write
pub no_changes : (words : List (List ℕ)) → BeginsNoChange words → SpellsNone (codes "write" ∷ words)
no_changes words none = write_only words (no_first words none)
  where
    no_first : (words : List (List ℕ)) → BeginsNoChange words → (cs : List Changed) (asks : List Asked) → words ≡ map changed_word cs ++ if_words (map asked_word asks) → 1 ≤ length cs → All IsAsked asks → ⊥
    no_first words none [] asks e some all = omega (arith, some)
    no_first words none (c ∷ cs) asks e some all = none c (map changed_word cs ++ if_words (map asked_word asks)) e

-- and so are changes after which no conditions stand
pub no_conditions : (words rest : List (List ℕ)) (cs : List Changed) → words ≡ map changed_word cs ++ rest → BeginsNoChange rest → ((asks : List Asked) → All IsAsked asks → rest ≡ if_words (map asked_word asks) → ⊥) → SpellsNone (codes "write" ∷ words)
no_conditions words rest cs whole ends none = write_only words (λ ds asks e some all. none asks all (changes_once cs ds rest (if_words (map asked_word asks)) (sym whole ∙ e) ends (if_is_no_change asks)))

pub mistaken : (Cause Other : Type 0) (e : Mistake) → (Cause → Other) → IsMistaken Cause e → IsMistaken Other e
mistaken Cause Other e f (inl m) = inl m
mistaken Cause Other e f (inr cause) = inr (f cause)

pub lacks_feed : (bs : List ℕ) (r : Bool) → MatchBool r ((i : ℕ) × (j : ℕ) × FindsChar 10 bs (Some (i, j)) × (i ≤ j) × (j ≤ length bs)) (FindsChar 10 bs None) → r ≡ false → Lacks 10 bs
lacks_feed bs r h none = lacks_everywhere 10 bs (All-from_get_or (λ b. b ≢ 10) bs 0 (λ k lt here. false≢true (sym none ∙ (contains_char 10 bs r h (omega arith)).1 k lt here)))
