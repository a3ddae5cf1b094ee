-- A condition is cut from its word in one way.
use Rattle.std.proofs.Common.{◌≡◌, ◌≢◌, ℕ, suc, ◌+◌, ◌<◌, ◌≤◌, true, false, List, [], ◌∷◌, ◌++◌, length, get_or, take, drop, Bor, Option, Some, None, MatchOption, refl, sym, ap, ◌∙◌, subst, append_assoc, inl, arith}
use Rattle.std.specs.List.{list_all}
use Rattle.std.specs.Fmt.{decimal}
use Rattle.std.proofs.lemmas.Bool.Decides.{nat_tests}
use Rattle.std.proofs.lemmas.Fmt.{decimal_injective}
use Rattle.std.proofs.lemmas.List.{get_or-drop, length-drop}
use Rattle.std.proofs.lemmas.List.Elements.{All-from_get_or}
use Rattle.std.proofs.Math.Seq.{split_at}
use Rattle.tuples.specs.declared.change.Want.{Want}
use Rattle.tuples.specs.declared.change.Want.TheVariants.{NotAfter, Exists, Absent}
use Rattle.tuples.specs.declared.tuple.Tuple.{Tuple}
use Rattle.tuples.specs.Names.{IsName, is_name_byte}
use Rattle.tuples.specs.Parsing.{Lacks, SpellsNone}
use Rattle.tuples.specs.Texts.{IsTuple, object_text, tuple_text, user_text}
use Rattle.tuples.proofs.Cuts.{cut_nowhere, lacks_everywhere}
use Rattle.tuples.proofs.Lists.{heads, tails}
use Rattle.script_text.specs.Texts.{IsPlace, IsWanted, wanted_text}
use Rattle.script_text.specs.Words.{AsksNothing, IsAskedOf, IsPlacedOf, NamesNoPlace}
use Rattle.script_text.proofs.Digits.{decimal_lacks}

-- by a mark that neither back has, two cuts of one text are the same
cut_last_once : (mark : ℕ) (a b c d : List ℕ) → Lacks mark b → Lacks mark d → a ++ mark ∷ b ≡ c ++ mark ∷ d → (a ≡ c) × (b ≡ d)
cut_last_once mark [] b [] d hb hd e = (refl, tails mark mark b d e)
cut_last_once mark [] b (y ∷ c) d hb hd e = absurd (cut_nowhere mark c d (subst (Lacks mark) (tails mark y b (c ++ mark ∷ d) e) hb))
cut_last_once mark (x ∷ a) b [] d hb hd e = absurd (cut_nowhere mark a b (subst (Lacks mark) (sym (tails x mark (a ++ mark ∷ b) d e)) hd))
cut_last_once mark (x ∷ a) b (y ∷ c) d hb hd e =
    let rest = cut_last_once mark a b c d hb hd (tails x y (a ++ mark ∷ b) (c ++ mark ∷ d) e) in
    (ap (λ (n : ℕ). n ∷ a) (heads x y (a ++ mark ∷ b) (c ++ mark ∷ d) e) ∙ ap (λ (l : List ℕ). y ∷ l) rest.0, rest.1)

-- the cut at the place where the byte stands last
pub cut_at_last : (mark : ℕ) (text : List ℕ) (at : ℕ) → at < length text → get_or text at 0 ≡ mark → ((k : ℕ) → at + 1 ≤ k → k < length text → get_or text k 0 ≢ mark)
    → (text ≡ take at text ++ mark ∷ drop (at + 1) text) × Lacks mark (drop (at + 1) text)
cut_at_last mark text at inside here after =
    let next : at + 1 ≡ suc at = omega arith in
    let none = All-from_get_or (λ b. b ≢ mark) (drop (at + 1) text) 0 (λ k lt.
    subst (λ (b : ℕ). b ≢ mark) (sym (get_or-drop (at + 1) text k 0)) (after (at + 1 + k) (omega arith) (omega (arith, length-drop (at + 1) text)))) in
    (split_at text at 0 inside ∙ ap (λ (b : ℕ). take at text ++ b ∷ drop (suc at) text) here ∙ ap (λ (n : ℕ). take at text ++ mark ∷ drop n text) (sym next), lacks_everywhere mark (drop (at + 1) text) none)

-- a text and a place after the last mark
pub placed_of : (word text back : List ℕ) (place : ℕ) → word ≡ text ++ 61 ∷ back → Lacks 61 back → IsPlace place → back ≡ decimal place → IsPlacedOf word text (NotAfter place)
placed_of word text back place whole none small is = record {
  wanted = small;
  whole = whole ∙ ap (λ (l : List ℕ). text ++ 61 ∷ l) is;
  only = λ other n lt e.
      let same = cut_last_once 61 text back other (decimal n) none (decimal_lacks 61 n (inl (omega arith)) lt) (sym whole ∙ e) in
      (same.0, ap (λ (k : ℕ). NotAfter k) (decimal_injective n place (omega arith) (omega arith) (sym same.1 ∙ is)));
}

pub no_place : (word text back : List ℕ) → word ≡ text ++ 61 ∷ back → Lacks 61 back → SpellsNone IsPlace decimal back → NamesNoPlace word
no_place word text back whole none nothing other n lt e =
    let same = cut_last_once 61 text back other (decimal n) none (decimal_lacks 61 n (inl (omega arith)) lt) (sym whole ∙ e) in
    nothing n lt same.1

pub no_mark : (word : List ℕ) → Lacks 61 word → NamesNoPlace word
no_mark word none other n lt e = cut_nowhere 61 other (decimal n) (subst (Lacks 61) e none)

-- no text that goes on so begins with the mark
abbrev NeverBegins : ℕ → List ℕ → Type 0
NeverBegins mark a = (more rest : List ℕ) → a ++ more ≡ mark ∷ rest → ⊥

first_is_name : (b : ℕ) (n : List ℕ) → list_all is_name_byte (b ∷ n) ≡ true → is_name_byte b ≡ true
first_is_name b n h = grind (arith, nat_tests)

true_false : (mark : ℕ) → is_name_byte mark ≡ true → is_name_byte mark ≡ false → ⊥
true_false mark t f = cc

no_name : IsName [] → ⊥
no_name v = omega (arith, v.some)

name_never : (mark : ℕ) → is_name_byte mark ≡ false → (n : List ℕ) → IsName n → NeverBegins mark n
name_never mark other [] v more rest e = absurd (no_name v)
name_never mark other (b ∷ n) v more rest e =
    let same : b ≡ mark = heads b mark (n ++ more) rest e in
    true_false mark (subst (λ (k : ℕ). is_name_byte k ≡ true) same (first_is_name b n v.each)) other

longer_never : (mark : ℕ) (a b : List ℕ) → NeverBegins mark a → NeverBegins mark (a ++ b)
longer_never mark a b never more rest e = never (b ++ more) rest (sym (append_assoc a b more) ∙ e)

tuple_never : (mark : ℕ) → is_name_byte mark ≡ false → (t : Tuple) → IsTuple t → NeverBegins mark (tuple_text t)
tuple_never mark other t v =
    longer_never mark (object_text t.object ++ 35 ∷ t.relation) (64 ∷ user_text t.user)
    (longer_never mark (object_text t.object) (35 ∷ t.relation) (longer_never mark t.object.namespace (58 ∷ t.object.id) (name_never mark other t.object.namespace v.object.namespace)))

marks_differ : (◌≡◌ {A = ℕ} 63 33) → ⊥
marks_differ e = omega arith

asked_exists : (tuple : List ℕ) (t : Tuple) (want : Want) → IsTuple t → 63 ∷ tuple ≡ wanted_text (tuple_text t) want → (tuple ≡ tuple_text t) × (want ≡ Exists)
asked_exists tuple t (NotAfter place) v e = absurd (tuple_never 63 refl t v (61 ∷ decimal place) tuple (sym e))
asked_exists tuple t Exists v e = (tails 63 63 tuple (tuple_text t) e, refl)
asked_exists tuple t Absent v e = absurd (marks_differ (heads 63 33 tuple (tuple_text t) e))

asked_absent : (tuple : List ℕ) (t : Tuple) (want : Want) → IsTuple t → 33 ∷ tuple ≡ wanted_text (tuple_text t) want → (tuple ≡ tuple_text t) × (want ≡ Absent)
asked_absent tuple t (NotAfter place) v e = absurd (tuple_never 33 refl t v (61 ∷ decimal place) tuple (sym e))
asked_absent tuple t Exists v e = absurd (marks_differ (sym (heads 33 63 tuple (tuple_text t) e)))
asked_absent tuple t Absent v e = (tails 33 33 tuple (tuple_text t) e, refl)

-- a question mark stands first
pub asks_exists : (word tuple : List ℕ) → word ≡ 63 ∷ tuple → IsAskedOf word tuple Exists
asks_exists word tuple is = record { wanted = tt; whole = is; only = λ c v w e. asked_exists tuple c.tuple c.want v (sym is ∙ e) }

-- an exclamation mark stands first
pub asks_absent : (word tuple : List ℕ) → word ≡ 33 ∷ tuple → IsAskedOf word tuple Absent
asks_absent word tuple is = record { wanted = tt; whole = is; only = λ c v w e. asked_absent tuple c.tuple c.want v (sym is ∙ e) }

asked_place : (word text : List ℕ) (want : Want) (t : Tuple) (other : Want) → ((rest : List ℕ) → word ≢ 63 ∷ rest) → ((rest : List ℕ) → word ≢ 33 ∷ rest) → IsPlacedOf word text want
    → IsWanted other → word ≡ wanted_text (tuple_text t) other → (text ≡ tuple_text t) × (other ≡ want)
asked_place word text want t (NotAfter place) no_question no_exclamation p w e = p.only (tuple_text t) place w e
asked_place word text want t Exists no_question no_exclamation p w e = absurd (no_question (tuple_text t) e)
asked_place word text want t Absent no_question no_exclamation p w e = absurd (no_exclamation (tuple_text t) e)

-- neither stands first
pub asks_place : (word text : List ℕ) (want : Want) → ((rest : List ℕ) → word ≢ 63 ∷ rest) → ((rest : List ℕ) → word ≢ 33 ∷ rest) → IsPlacedOf word text want → IsAskedOf word text want
asks_place word text want no_question no_exclamation p = record {
  wanted = p.wanted;
  whole = p.whole;
  only = λ c v w e. asked_place word text want c.tuple c.want no_question no_exclamation p w e;
}

pub asks_nothing : (word : List ℕ) → ((rest : List ℕ) → word ≢ 63 ∷ rest) → ((rest : List ℕ) → word ≢ 33 ∷ rest) → NamesNoPlace word → AsksNothing word
asks_nothing word no_question no_exclamation none text (NotAfter place) w e = none text place w e
asks_nothing word no_question no_exclamation none text Exists w e = no_question text e
asks_nothing word no_question no_exclamation none text Absent w e = no_exclamation text e

-- a byte that is known stands first
pub first_byte : (word rest : List ℕ) (first mark : ℕ) → word ≡ first ∷ rest → first ≡ mark → word ≡ mark ∷ rest
first_byte word rest first mark is same = is ∙ ap (λ (b : ℕ). b ∷ rest) same

pub other_byte : (word rest : List ℕ) (first mark : ℕ) → word ≡ first ∷ rest → first ≢ mark → (more : List ℕ) → word ≢ mark ∷ more
other_byte word rest first mark is other more e = other (heads first mark rest more (sym is ∙ e))

pub asks_empty : (word : List ℕ) → length word ≡ 0 → AsksNothing word
asks_empty [] none = asks_nothing [] (no_byte 63) (no_byte 33) (no_mark [] refl)
  where
    no_byte : (mark : ℕ) (more : List ℕ) → [] ≡ mark ∷ more → ⊥
    no_byte mark more e = cc
asks_empty (b ∷ word) none = absurd (omega arith)

-- what the place after the last mark says of a word that begins with neither mark
pub asks_placed : (word : List ℕ) (r : Option (Bor (List ℕ) × Want)) → ((rest : List ℕ) → word ≢ 63 ∷ rest) → ((rest : List ℕ) → word ≢ 33 ∷ rest)
    → MatchOption r (NamesNoPlace word) (λ parts. IsPlacedOf word parts.0.now parts.1) → MatchOption r (AsksNothing word) (λ parts. IsAskedOf word parts.0.now parts.1)
asks_placed word None no_question no_exclamation h = asks_nothing word no_question no_exclamation h
asks_placed word (Some parts) no_question no_exclamation h = asks_place word parts.0.now parts.1 no_question no_exclamation h
