-- The words after `sim`, if they have no fault, are those of uses that pass, and `--` may end them.
use Rattle.std.proofs.Common.{◌≡◌, ◌∙◌, ◌||◌, ◌++◌, ◌∷◌, [], ℕ, Bool, List, Option, Some, None, true, false, cond, refl, sym, ap, ap₂, subst, zero, suc, length, drop, codes, append-nil, append_assoc}
use Rattle.std.specs.Prelude.{◌==◌, encode_utf8, fold, slice_get}
use Rattle.std.specs.Option.{option_map_or}
use Rattle.std.specs.Str.{bytes_eq, chars}
use Rattle.std.proofs.lemmas.Slice.Eq.{bytes_eq-Decides}
use Rattle.clap.specs.Lexer.{long_of, short_of}
use Rattle.clap.specs.Walk.{Held, Outcome, Row, Rule, Step, Text, Walk, after_flag, after_step, bundle_met, bundle_step, finished, long_met, long_or_other, nothing_held, plain, plain_word, reacted, settled, settled_rows, short_or_plain, short_word, trailing, used, walk, walk_from, walked}
use Rattle.clap.specs.Kinds.{Kinds, or_else}
use Rattle.clap.specs.Faults.{bundle_fault, bundle_step_fault, check_fault, defaults_fault, flag_word_fault, flags_fault, level_fault, long_fault, react_fault, settle_fault, short_fault, step_fault, turn_fault, use_fault, walk_fault}
use Rattle.clap.specs.declared.error.kind.ErrorKind.TheVariants as kind
use Rattle.settings.proofs.Spelled.{long_is, option_text}
use Rattle.settings.proofs.Uses.{AreUses, Half, Pass, Uses, add, first_none, half_words, help_filled, holding, name_of, named, none, nothing, pending_for, rows_of_uses, rule_for, rules, second_none, settle, shards_rule, sim_built, some_kind, store_rule, valued, waiting_for, words_of}

-- ---- where the walk stands between two words

abbrev pub at_word : List Row → Half → ℕ → Bool → Walk
at_word rows half position is_trailing = record {
  held = holding rows (pending_for half);
  waiting = waiting_for half;
  position = position;
  is_trailing = is_trailing;
  stopped = None;
}

abbrev at_uses : Uses → Half → ℕ → Bool → Walk
at_uses uses half position is_trailing = at_word (rows_of_uses uses) half position is_trailing

abbrev held_at : Uses → Half → Held
held_at uses half = holding (rows_of_uses uses) (pending_for half)

abbrev pub with_end : Bool → List Text → List Text
with_end false words = words
with_end true words = words ++ codes "--" ∷ []

record Stands (w : Walk) (seen : List Text) : Type 0 where
  uses : Uses
  half : Half
  position : ℕ
  is_trailing : Bool
  is : w ≡ at_uses uses half position is_trailing
  seen_are : seen ≡ with_end is_trailing (words_of uses ++ half_words half)
  pass : Pass uses

-- ---- a bundle of short flags: there is none but `-h`, which asks for help

-- help is no use that passes
help_asked : (c : List Rule) (h : Held) → react_fault c false help_filled [] h ≡ [] → ⊥
help_asked c h e = some_kind kind.DisplayHelp [] (second_none (settle_fault c false h) (use_fault false help_filled [] (settled c h).rows) e)

pub no_short : (c : List Rule) (b : Bool) (rest : Text) (h : Held) (more : Held → Kinds) → short_fault c false (cond b (Some help_filled) None) rest h more ≡ [] → ⊥
no_short c true rest h more e = help_asked c h (first_none (react_fault c false help_filled [] h) (more (reacted c help_filled [] h)) e)
no_short c false rest h more e = some_kind kind.UnknownArgument [] e

bundle_plain : (k : ℕ) (flags : Text) (so_far : Outcome) (h : Held) → flags_fault rules false k flags 0 h ≡ [] → bundle_met rules k flags 0 so_far h ≡ (h, so_far)
unfolding flags_fault bundle_met
bundle_plain zero flags so_far h e = refl
bundle_plain (suc k) flags so_far h e = go (slice_get (chars flags) 0) e
  where
    go : (o : Option ℕ) → bundle_step_fault rules false o flags 0 h (flags_fault rules false k) ≡ [] → bundle_step rules o flags 0 so_far h (bundle_met rules k) ≡ (h, so_far)
    go None e = refl
    go (Some x) e =
        let rest = drop (length (encode_utf8 x)) flags in
        absurd (no_short rules ((104 == x) || false) rest h (flags_fault rules false k rest 0) e)

-- ---- one word

-- the word is no flag
plain_step : (word : Text) (seen : List Text) (us : Uses) (half : Half) (position : ℕ) → Pass us → seen ≡ words_of us ++ half_words half
    → step_fault sim_built position (plain_word rules (waiting_for half) word (held_at us half)).0 (plain_word rules (waiting_for half) word (held_at us half)).1 ≡ []
    → Stands (after_step rules word (at_uses us half position false) (plain_word rules (waiting_for half) word (held_at us half)).0 (plain_word rules (waiting_for half) word (held_at us half)).1) (seen ++ word ∷ [])
plain_step word seen us nothing position p are e = absurd (some_kind kind.UnknownArgument [] e)
plain_step word seen us (valued b v) position p are e = absurd (some_kind kind.UnknownArgument [] e)
plain_step word seen us (named true) position p are e = record {
  uses = us;
  half = valued true word;
  position = position;
  is_trailing = false;
  is = refl;
  seen_are = ap (λ (ws : List Text). ws ++ word ∷ []) are ∙ append_assoc (words_of us) (half_words (named true)) (word ∷ []);
  pass = p;
}
plain_step word seen us (named false) position p are e = record {
  uses = us;
  half = valued false word;
  position = position;
  is_trailing = false;
  is = refl;
  seen_are = ap (λ (ws : List Text). ws ++ word ∷ []) are ∙ append_assoc (words_of us) (half_words (named false)) (word ∷ []);
  pass = p;
}

-- the word names an option, and has its value
joined_step : (b : Bool) (t word : Text) (seen : List Text) (us : Uses) (half : Half) (position : ℕ) → Pass us → seen ≡ words_of us ++ half_words half → word ≡ option_text (name_of b) (Some t)
    → react_fault rules false (rule_for b) (t ∷ []) (held_at us half) ≡ []
    → Stands (at_word (used (rule_for b) (t ∷ []) (settled_rows rules (pending_for half) (rows_of_uses us))) nothing position false) (seen ++ word ∷ [])
joined_step b t word seen us half position p are is e =
    let h = held_at us half in
    let s = settle us half p (first_none (settle_fault rules false h) (use_fault false (rule_for b) (t ∷ []) (settled rules h).rows) e) in
    let last = second_none (settle_fault rules false h) (use_fault false (rule_for b) (t ∷ []) (settled rules h).rows) e in
    let a = add s.uses b t true s.pass (subst (λ (rs : List Row). use_fault false (rule_for b) (t ∷ []) rs ≡ []) s.rows_are last) in
    let rows_are : used (rule_for b) (t ∷ []) (settled_rows rules (pending_for half) (rows_of_uses us)) ≡ rows_of_uses a.uses = ap (used (rule_for b) (t ∷ [])) s.rows_are ∙ a.rows_are in
    record {
      uses = a.uses;
      half = nothing;
      position = position;
      is_trailing = false;
      is = ap (λ (rs : List Row). at_word rs nothing position false) rows_are;
      seen_are = ap (λ (ws : List Text). ws ++ word ∷ []) (are ∙ sym s.words_are) ∙ ap (λ (x : Text). words_of s.uses ++ x ∷ []) is ∙ sym a.words_are ∙ sym (append-nil (words_of a.uses));
      pass = a.pass;
    }

-- or waits for it
named_step : (b : Bool) (word : Text) (seen : List Text) (us : Uses) (half : Half) (position : ℕ) → Pass us → seen ≡ words_of us ++ half_words half → word ≡ option_text (name_of b) None
    → settle_fault rules false (held_at us half) ≡ []
    → Stands (at_word (settled_rows rules (pending_for half) (rows_of_uses us)) (named b) position false) (seen ++ word ∷ [])
named_step b word seen us half position p are is e =
    let s = settle us half p e in
    record {
      uses = s.uses;
      half = named b;
      position = position;
      is_trailing = false;
      is = ap (λ (rs : List Row). at_word rs (named b) position false) s.rows_are;
      seen_are = ap (λ (ws : List Text). ws ++ word ∷ []) (are ∙ sym s.words_are) ∙ ap (λ (x : Text). words_of s.uses ++ x ∷ []) is;
      pass = s.pass;
    }

-- the rule of a long name, by whether it is that of each option
abbrev long_rule : Bool → Bool → Bool → Option Rule
long_rule b d f = cond (b || false) (Some store_rule) (cond (d || false) (Some shards_rule) (cond (f || false) (Some help_filled) None))

abbrev long_held : Text → Uses → Half → Option Text → Option Rule → Held × Step
long_held word us half v a = after_flag rules (waiting_for half) word (long_met rules a v (held_at us half)).0 (long_met rules a v (held_at us half)).1

same_name : (name other : Text) → bytes_eq name other ≡ true → name ≡ other
same_name name other e = (bytes_eq-Decides name other).0 e

-- the word begins with two hyphens
long_step : (word : Text) (seen : List Text) (us : Uses) (half : Half) (position : ℕ) → Pass us → seen ≡ words_of us ++ half_words half
    → (name : Text) (v : Option Text) → word ≡ option_text name v → (b d f : Bool) → bytes_eq (codes "store") name ≡ b → bytes_eq (codes "shards") name ≡ d
    → or_else (long_fault rules false (long_rule b d f) v (held_at us half)) (step_fault sim_built position (long_held word us half v (long_rule b d f)).0 (long_held word us half v (long_rule b d f)).1) ≡ []
    → Stands (after_step rules word (at_uses us half position false) (long_held word us half v (long_rule b d f)).0 (long_held word us half v (long_rule b d f)).1) (seen ++ word ∷ [])
long_step word seen us half position p are name (Some t) is true d f is_store is_shards e =
    joined_step true t word seen us half position p are (is ∙ ap (λ (n : Text). option_text n (Some t)) (sym (same_name (codes "store") name is_store)))
    (first_none (react_fault rules false store_rule (t ∷ []) (held_at us half)) [] e)
long_step word seen us half position p are name None is true d f is_store is_shards e =
    named_step true word seen us half position p are (is ∙ ap (λ (n : Text). option_text n None) (sym (same_name (codes "store") name is_store)))
    (first_none (settle_fault rules false (held_at us half)) [] e)
long_step word seen us half position p are name (Some t) is false true f is_store is_shards e =
    joined_step false t word seen us half position p are (is ∙ ap (λ (n : Text). option_text n (Some t)) (sym (same_name (codes "shards") name is_shards)))
    (first_none (react_fault rules false shards_rule (t ∷ []) (held_at us half)) [] e)
long_step word seen us half position p are name None is false true f is_store is_shards e =
    named_step false word seen us half position p are (is ∙ ap (λ (n : Text). option_text n None) (sym (same_name (codes "shards") name is_shards)))
    (first_none (settle_fault rules false (held_at us half)) [] e)
long_step word seen us half position p are name (Some t) is false false true is_store is_shards e = absurd (some_kind kind.TooManyValues [] e)
long_step word seen us half position p are name None is false false true is_store is_shards e =
    absurd (help_asked rules (held_at us half) (first_none (react_fault rules false help_filled [] (held_at us half)) [] e))
long_step word seen us half position p are name (Some t) is false false false is_store is_shards e = absurd (some_kind kind.UnknownArgument [] e)
long_step word seen us half position p are name None is false false false is_store is_shards e = absurd (some_kind kind.UnknownArgument [] e)

abbrev short_held : Text → Uses → Half → Option Text → Held × Step
short_held word us half s = short_or_plain rules (waiting_for half) word s (held_at us half)

-- the word may begin with one hyphen
short_step : (word : Text) (seen : List Text) (us : Uses) (half : Half) (position : ℕ) → Pass us → seen ≡ words_of us ++ half_words half → (s : Option Text)
    → or_else (option_map_or (λ flags. bundle_fault rules false flags (held_at us half)) s []) (step_fault sim_built position (short_held word us half s).0 (short_held word us half s).1) ≡ []
    → Stands (after_step rules word (at_uses us half position false) (short_held word us half s).0 (short_held word us half s).1) (seen ++ word ∷ [])
short_step word seen us half position p are None e = plain_step word seen us half position p are e
short_step word seen us half position p are (Some flags) e =
    let h = held_at us half in
    let waiting = waiting_for half in
    let fault = step_fault sim_built position (short_word rules waiting word flags h).0 (short_word rules waiting word flags h).1 in
    let free = first_none (bundle_fault rules false flags h) fault e in
    let is : short_word rules waiting word flags h ≡ plain_word rules waiting word h =
    ap (λ (m : Held × Outcome). after_flag rules waiting word m.0 m.1) (bundle_plain (length flags) flags plain h free) in
    let left : step_fault sim_built position (plain_word rules waiting word h).0 (plain_word rules waiting word h).1 ≡ [] =
    ap (λ (m : Held × Step). step_fault sim_built position m.0 m.1) (sym is) ∙ second_none (bundle_fault rules false flags h) fault e in
    subst (λ (m : Held × Step). Stands (after_step rules word (at_uses us half position false) m.0 m.1) (seen ++ word ∷ [])) (sym is) (plain_step word seen us half position p are left)

abbrev flag_held : Text → Uses → Half → Option (Text × Option Text) → Held × Step
flag_held word us half o = long_or_other rules (waiting_for half) word o (held_at us half)

flag_step : (word : Text) (seen : List Text) (us : Uses) (half : Half) (position : ℕ) → Pass us → seen ≡ words_of us ++ half_words half → (o : Option (Text × Option Text)) → long_of word ≡ o
    → or_else (flag_word_fault rules false o word (held_at us half)) (step_fault sim_built position (flag_held word us half o).0 (flag_held word us half o).1) ≡ []
    → Stands (after_step rules word (at_uses us half position false) (flag_held word us half o).0 (flag_held word us half o).1) (seen ++ word ∷ [])
flag_step word seen us half position p are (Some q) is e =
    long_step word seen us half position p are q.0 q.1 (long_is word q is) (bytes_eq (codes "store") q.0) (bytes_eq (codes "shards") q.0) (bytes_eq (codes "help") q.0) refl refl e
flag_step word seen us half position p are None is e = short_step word seen us half position p are (short_of word) e

abbrev dashes_held : Text → Uses → Half → ℕ → Bool → Held × Step
dashes_held word us half position b = cond b (held_at us half, trailing position) (flag_held word us half (long_of word))

other_step : (word : Text) (seen : List Text) (us : Uses) (half : Half) (position : ℕ) → Pass us → seen ≡ words_of us ++ half_words half → (b : Bool) → bytes_eq word (45 ∷ 45 ∷ []) ≡ b
    → or_else (cond b [] (flag_word_fault rules false (long_of word) word (held_at us half))) (step_fault sim_built position (dashes_held word us half position b).0 (dashes_held word us half position b).1) ≡ []
    → Stands (after_step rules word (at_uses us half position false) (dashes_held word us half position b).0 (dashes_held word us half position b).1) (seen ++ word ∷ [])
other_step word seen us half position p are true is e = record {
  uses = us;
  half = half;
  position = position;
  is_trailing = true;
  is = refl;
  seen_are = ap₂ (λ (ws : List Text) (x : Text). ws ++ x ∷ []) are (same_name word (codes "--") is);
  pass = p;
}
other_step word seen us half position p are false is e = flag_step word seen us half position p are (long_of word) refl e

step_at : (word : Text) (seen : List Text) (us : Uses) (half : Half) (position : ℕ) (is_trailing : Bool) → Pass us → seen ≡ with_end is_trailing (words_of us ++ half_words half)
    → turn_fault sim_built [] (at_uses us half position is_trailing) word ≡ [] → Stands (walked rules [] (at_uses us half position is_trailing) word) (seen ++ word ∷ [])
unfolding walked
step_at word seen us half position true p are e = absurd (some_kind kind.UnknownArgument [] e)
step_at word seen us nothing position false p are e = other_step word seen us nothing position p are (bytes_eq word (45 ∷ 45 ∷ [])) refl e
step_at word seen us (named b) position false p are e = other_step word seen us (named b) position p are (bytes_eq word (45 ∷ 45 ∷ [])) refl e
step_at word seen us (valued b v) position false p are e = other_step word seen us (valued b v) position p are (bytes_eq word (45 ∷ 45 ∷ [])) refl e

-- ---- the words

word_step : (word : Text) (w : Walk) (seen : List Text) → Stands w seen → turn_fault sim_built [] w word ≡ [] → Stands (walked rules [] w word) (seen ++ word ∷ [])
word_step word w seen s e =
    subst (λ (v : Walk). Stands (walked rules [] v word) (seen ++ word ∷ [])) (sym s.is)
    (step_at word seen s.uses s.half s.position s.is_trailing s.pass s.seen_are (subst (λ (v : Walk). turn_fault sim_built [] v word ≡ []) s.is e))

walk_stands : (words : List Text) (w : Walk) (seen : List Text) → Stands w seen → walk_fault sim_built [] w words ≡ [] → Stands (fold (walked rules []) w words) (seen ++ words)
unfolding walk_fault
walk_stands [] w seen s e = subst (λ (ws : List Text). Stands w ws) (sym (append-nil seen)) s
walk_stands (x ∷ xs) w seen s e =
    let turn = turn_fault sim_built [] w x in
    let more = walk_fault sim_built [] (walked rules [] w x) xs in
    subst (λ (ws : List Text). Stands (fold (walked rules []) (walked rules [] w x) xs) ws) (append_assoc seen (x ∷ []) xs)
    (walk_stands xs (walked rules [] w x) (seen ++ x ∷ []) (word_step x w seen s (first_none turn more e)) (second_none turn more e))

-- the words, and the rows that what is held after them comes to
pub record UsesAt (h : Held) (words : List Text) : Type 0 where
  pub uses : Uses
  pub rows_are : (settled rules h).rows ≡ rows_of_uses uses
  pub has_end : Bool
  pub words_are : words ≡ with_end has_end (words_of uses)
  pub pass : Pass uses

abbrev pub SimUses : List Text → Type 0
SimUses words = UsesAt (walk rules [] nothing_held words).held words

uses_at : (w : Walk) (words : List Text) (s : Stands w words) → AreUses (settled_rows rules (pending_for s.half) (rows_of_uses s.uses)) (words_of s.uses ++ half_words s.half) → UsesAt w.held words
uses_at w words s all = record {
  uses = all.uses;
  rows_are = ap (λ (v : Walk). (settled rules v.held).rows) s.is ∙ all.rows_are;
  has_end = s.is_trailing;
  words_are = s.seen_are ∙ ap (with_end s.is_trailing) (sym all.words_are);
  pass = all.pass;
}

pub sim_uses : (words : List Text) → level_fault sim_built [] nothing_held words false [] ≡ [] → SimUses words
sim_uses words e =
    let whole = walk rules [] nothing_held words in
    let last = or_else (defaults_fault (settled rules whole.held).rows rules) (check_fault sim_built (finished rules whole.held) false) in
    let after = or_else (settle_fault rules false whole.held) last in
    let walks = walk_fault sim_built [] (walk_from nothing_held) words in
    let start : Stands (walk_from nothing_held) [] =
    record { uses = none; half = nothing; position = 1; is_trailing = false; is = refl; seen_are = refl; pass = tt } in
    let s = walk_stands words (walk_from nothing_held) [] start (first_none walks after e) in
    let settles : settle_fault rules false whole.held ≡ [] = first_none (settle_fault rules false whole.held) last (second_none walks after e) in
    uses_at whole words s (settle s.uses s.half s.pass (subst (λ (v : Walk). settle_fault rules false v.held ≡ []) s.is settles))
