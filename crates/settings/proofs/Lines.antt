-- A command line that asks for settings has no fault.
use Rattle.std.proofs.Common.{◌≡◌, ◌∙◌, ◌⊎◌, ◌||◌, ◌++◌, ◌∷◌, [], ℕ, Bool, List, Option, Some, None, Result, Ok, Err, IfErr, true, false, not, cond, refl, sym, ap, ap₂, subst, inl, inr, codes, append-nil, append_assoc}
use Rattle.std.specs.Prelude.{IfSome, fold, option_and_then}
use Rattle.std.specs.Option.{option_map_or}
use Rattle.std.specs.Str.{bytes_eq}
use Rattle.std.specs.Str.Parse.{starts_with_minus}
use Rattle.clap.specs.Lexer.{long_of, long_of_rest, short_of, short_of_rest, strip_byte}
use Rattle.clap.specs.Faults.{bundle_fault, check_fault, defaults_fault, entered_fault, fault_of, flag_word_fault, level_fault, settle_fault, step_fault, turn_fault, use_fault, walk_fault}
use Rattle.clap.specs.Kinds.{FailsBy, HasKind, Kinds, or_else}
use Rattle.clap.specs.Values.{kind_of}
use Rattle.clap.specs.declared.error.Error.{Error}
use Rattle.clap.specs.Simple.{App, names_of}
use Rattle.clap.specs.Takes.{value_passes}
use Rattle.clap.specs.Walk.{Held, Row, Rule, Step, Text, Walk, after_step, finished, has_row, long_or_other, nothing_held, option, plain_word, short_or_plain, trailing, settled, walk, walked, with_default}
use Rattle.clap.specs.declared.error.kind.ErrorKind.TheVariants as kind
use Rattle.clap.proofs.FaultLemmas.{stopped_fault}
use Rattle.clap.proofs.WalkLemmas.{walk_stopped}
use Rattle.settings.specs.declared.limits.TheConstants.{MAX_STORE}
use Rattle.tuples.specs.Limits.{max_shards}
use Rattle.settings.specs.CommandLine.{AsksFor, Gives, IsNumber, joined_word, long_word, program, shards_option, store_option}
use Rattle.settings.proofs.Uses.{Half, Pass, Uses, both, holding, name_of, named, none, nothing, one, pending_for, row_for, rows_of_uses, rule_for, rules, shards_rule, sim_built, store_rule, use_words, valued, words_of}
use Rattle.settings.proofs.SimWalk.{at_word}
use Rattle.settings.proofs.Entered as entered_by
use Rattle.settings.proofs.Entered.{before, top_rules}
use Rattle.settings.proofs.Asked.{end_words, no_minus, shards_right, store_right}

-- ---- the words of a line are those of uses that pass

-- a value that stands as a word of its own is no flag
abbrev Plain : Uses → Type 0
Plain none = Unit {0}
Plain (one b v j) = starts_with_minus v ≡ false
Plain (both b v j w k) = (starts_with_minus v ≡ false) × (starts_with_minus w ≡ false)

record LineUses (words : List Text) : Type 0 where
  name : Text
  uses : Uses
  has_end : Bool
  words_are : words ≡ name ∷ codes "sim" ∷ (words_of uses ++ end_words has_end)
  pass : Pass uses
  plain : Plain uses

given_as : (b : Bool) (v : Text) (words : List Text) → Gives (name_of b) (Some v) words → (j : Bool) × (words ≡ use_words b v j)
given_as b v words (inl is) = (false, is)
given_as b v words (inr is) = (true, is)

end_as : (end : List Text) → (end ≡ []) ⊎ (end ≡ codes "--" ∷ []) → (t : Bool) × (end ≡ end_words t)
end_as end (inl is) = (false, is)
end_as end (inr is) = (true, is)

-- three lists after `sim`, each as it is given
abbrev behind : Text → List Text → List Text → List Text → List Text
behind name a b c = name ∷ codes "sim" ∷ (a ++ b ++ c)

parts : (name : Text) (a b c x y z : List Text) → a ≡ x → b ≡ y → c ≡ z → behind name a b c ≡ behind name x y z
parts name a b c x y z p q r = λ i. behind name (p i) (q i) (r i)

right_nil : (name : Text) (a c : List Text) → behind name a [] c ≡ name ∷ codes "sim" ∷ (a ++ c)
right_nil name a c = ap (λ (ws : List Text). name ∷ codes "sim" ∷ (ws ++ c)) (append-nil a)

module _ (words : List Text) (name : Text) (sw hw end : List Text) (t : Bool) (is_end : end ≡ end_words t) where
  no_option : (words ≡ behind name sw hw end) ⊎ (words ≡ behind name hw sw end) → sw ≡ [] → hw ≡ [] → LineUses words
  no_option (inl is) p q = record { name = name; uses = none; has_end = t; words_are = is ∙ parts name sw hw end [] [] (end_words t) p q is_end; pass = tt; plain = tt }
  no_option (inr is) p q = record { name = name; uses = none; has_end = t; words_are = is ∙ parts name hw sw end [] [] (end_words t) q p is_end; pass = tt; plain = tt }

  only_store : (v : Text) (j : Bool) → IsNumber 0 MAX_STORE v → (words ≡ behind name sw hw end) ⊎ (words ≡ behind name hw sw end) → sw ≡ use_words true v j → hw ≡ [] → LineUses words
  only_store v j n (inl is) p q = record {
    name = name;
    uses = one true v j;
    has_end = t;
    words_are = is ∙ parts name sw hw end (use_words true v j) [] (end_words t) p q is_end ∙ right_nil name (use_words true v j) (end_words t);
    pass = store_right v n;
    plain = no_minus v n.numeral;
  }
  only_store v j n (inr is) p q = record {
    name = name;
    uses = one true v j;
    has_end = t;
    words_are = is ∙ parts name hw sw end [] (use_words true v j) (end_words t) q p is_end;
    pass = store_right v n;
    plain = no_minus v n.numeral;
  }

  only_shards : (v : Text) (j : Bool) → IsNumber 1 max_shards v → (words ≡ behind name sw hw end) ⊎ (words ≡ behind name hw sw end) → sw ≡ [] → hw ≡ use_words false v j → LineUses words
  only_shards v j n (inl is) p q = record {
    name = name;
    uses = one false v j;
    has_end = t;
    words_are = is ∙ parts name sw hw end [] (use_words false v j) (end_words t) p q is_end;
    pass = shards_right v n;
    plain = no_minus v n.numeral;
  }
  only_shards v j n (inr is) p q = record {
    name = name;
    uses = one false v j;
    has_end = t;
    words_are = is ∙ parts name hw sw end (use_words false v j) [] (end_words t) q p is_end ∙ right_nil name (use_words false v j) (end_words t);
    pass = shards_right v n;
    plain = no_minus v n.numeral;
  }

  both_options : (v : Text) (j : Bool) (w : Text) (k : Bool) → IsNumber 0 MAX_STORE v → IsNumber 1 max_shards w → (words ≡ behind name sw hw end) ⊎ (words ≡ behind name hw sw end)
      → sw ≡ use_words true v j → hw ≡ use_words false w k → LineUses words
  both_options v j w k n m (inl is) p q = record {
    name = name;
    uses = both true v j w k;
    has_end = t;
    words_are = is ∙ parts name sw hw end (use_words true v j) (use_words false w k) (end_words t) p q is_end;
    pass = (store_right v n, shards_right w m);
    plain = (no_minus v n.numeral, no_minus w m.numeral);
  }
  both_options v j w k n m (inr is) p q = record {
    name = name;
    uses = both false w k v j;
    has_end = t;
    words_are = is ∙ parts name hw sw end (use_words false w k) (use_words true v j) (end_words t) q p is_end;
    pass = (shards_right w m, store_right v n);
    plain = (no_minus w m.numeral, no_minus v n.numeral);
  }

  line_parts : (store shards : Option Text) → Gives (codes "store") store sw → Gives (codes "shards") shards hw → IfSome store (IsNumber 0 MAX_STORE) → IfSome shards (IsNumber 1 max_shards)
      → (words ≡ behind name sw hw end) ⊎ (words ≡ behind name hw sw end) → LineUses words
  line_parts None None g h n m is = no_option is g h
  line_parts (Some v) None g h n m is =
      let one_is = given_as true v sw g in
      only_store v one_is.0 n is one_is.1 h
  line_parts None (Some w) g h n m is =
      let one_is = given_as false w hw h in
      only_shards w one_is.0 m is g one_is.1
  line_parts (Some v) (Some w) g h n m is =
      let one_is = given_as true v sw g in
      let also = given_as false w hw h in
      both_options v one_is.0 w also.0 n m is one_is.1 also.1

line_uses : (words : List Text) (store shards : ℕ) → AsksFor words store shards → LineUses words
line_uses words store shards a =
    let line = a.line in
    let ended = end_as line.end line.ended in
    line_parts words line.name line.store_words line.shards_words line.end ended.0 ended.1 a.store_text a.shards_text line.store_given line.shards_given a.store_fits a.shards_fit line.in_order

-- ---- the walk over uses

then_more : (a b : Kinds) → a ≡ [] → or_else a b ≡ b
then_more a b e = ap (λ (k : Kinds). or_else k b) e

none_at_all : (a b : Kinds) → a ≡ [] → b ≡ [] → or_else a b ≡ []
none_at_all a b e f = then_more a b e ∙ f

-- where the walk stands after one use, and after two
abbrev after_one : Bool → Text → Bool → Walk
after_one b v true = at_word (rows_of_uses (one b v true)) nothing 1 false
after_one b v false = at_word [] (valued b v) 1 false

abbrev after_two : Bool → Text → Bool → Text → Bool → Walk
after_two b v j w true = at_word (rows_of_uses (both b v j w true)) nothing 1 false
after_two b v j w false = at_word (rows_of_uses (one b v j)) (valued (not b) w) 1 false

-- the walk goes on from v as from w, and nothing was wrong
record GoesOn (v w : Walk) (words rest : List Text) : Type 0 where
  fault : walk_fault sim_built [] v words ≡ walk_fault sim_built [] w rest
  walked_is : fold (walked rules []) v words ≡ fold (walked rules []) w rest

no_dashes : (v : Text) → starts_with_minus v ≡ false → bytes_eq v (codes "--") ≡ false
no_dashes [] e = refl
no_dashes (x ∷ xs) e = rw e refl

no_long : (v : Text) → starts_with_minus v ≡ false → long_of v ≡ None
no_long [] e = refl
no_long (x ∷ xs) e = ap (λ (c : Bool). option_and_then long_of_rest (option_and_then (strip_byte 45) (cond c (Some xs) None))) e

no_short_flag : (v : Text) → starts_with_minus v ≡ false → short_of v ≡ None
no_short_flag [] e = refl
no_short_flag (x ∷ xs) e = ap (λ (c : Bool). option_and_then short_of_rest (cond c (Some xs) None)) e

-- what a word is that waits after an option, by what its own tests say
abbrev waiting_word : Bool → Text → List Row → Bool → Option (Text × Option Text) → Held × Step
waiting_word b v rows d o = cond d (holding rows (pending_for (named b)), trailing 1) (long_or_other rules (option (name_of b)) v o (holding rows (pending_for (named b))))

abbrev waiting_fault : Bool → Text → List Row → Bool → Option (Text × Option Text) → Kinds
waiting_fault b v rows d o = or_else (cond d [] (flag_word_fault rules false o v (holding rows (pending_for (named b))))) (step_fault sim_built 1 (waiting_word b v rows d o).0 (waiting_word b v rows d o).1)

abbrev short_fault_of : Bool → Text → List Row → Option Text → Kinds
short_fault_of b v rows s = or_else (option_map_or (λ flags. bundle_fault rules false flags (holding rows (pending_for (named b)))) s [])
    (step_fault sim_built 1 (short_or_plain rules (option (name_of b)) v s (holding rows (pending_for (named b)))).0 (short_or_plain rules (option (name_of b)) v s (holding rows (pending_for (named b)))).1)

abbrev after_word : Bool → Text → List Row → Held × Step → Walk
after_word b v rows m = after_step rules v (at_word rows (named b) 1 false) m.0 m.1

value_right : (b : Bool) (v : Text) (rows : List Row) → starts_with_minus v ≡ false → turn_fault sim_built [] (at_word rows (named b) 1 false) v ≡ []
value_right b v rows e =
    ap (λ (d : Bool). waiting_fault b v rows d (long_of v)) (no_dashes v e) ∙ ap (waiting_fault b v rows false) (no_long v e) ∙ ap (short_fault_of b v rows) (no_short_flag v e) ∙ last b
  where
    last : (b : Bool) → short_fault_of b v rows None ≡ []
    last true = refl
    last false = refl

value_taken : (b : Bool) (v : Text) (rows : List Row) → starts_with_minus v ≡ false → walked rules [] (at_word rows (named b) 1 false) v ≡ at_word rows (valued b v) 1 false
unfolding walked
value_taken b v rows e =
    ap (λ (d : Bool). after_word b v rows (waiting_word b v rows d (long_of v))) (no_dashes v e)
    ∙ ap (λ (o : Option (Text × Option Text)). after_word b v rows (waiting_word b v rows false o)) (no_long v e)
    ∙ ap (λ (s : Option Text). after_word b v rows (short_or_plain rules (option (name_of b)) v s (holding rows (pending_for (named b))))) (no_short_flag v e)
    ∙ last b
  where
    last : (b : Bool) → after_word b v rows (plain_word rules (option (name_of b)) v (holding rows (pending_for (named b)))) ≡ at_word rows (valued b v) 1 false
    last true = refl
    last false = refl

passed_use : (b : Bool) (v : Text) → value_passes (rule_for b) v ≡ true → use_fault false (rule_for b) (v ∷ []) [] ≡ []
passed_use true v p = ap (λ (t : Bool). or_else (cond t [] (kind.ValueValidation ∷ [])) []) p
passed_use false v p = ap (λ (t : Bool). or_else (cond t [] (kind.ValueValidation ∷ [])) []) p

passed_after : (b : Bool) (v u : Text) → value_passes (rule_for (not b)) v ≡ true → use_fault false (rule_for (not b)) (v ∷ []) (row_for b u ∷ []) ≡ []
passed_after true v u p = ap (λ (t : Bool). or_else (cond t [] (kind.ValueValidation ∷ [])) []) p
passed_after false v u p = ap (λ (t : Bool). or_else (cond t [] (kind.ValueValidation ∷ [])) []) p

goes : (v w : Walk) (x : Text) (rest : List Text) → turn_fault sim_built [] v x ≡ [] → walked rules [] v x ≡ w → GoesOn v w (x ∷ rest) rest
unfolding walk_fault
goes v w x rest e is = record {
  fault = then_more (turn_fault sim_built [] v x) (walk_fault sim_built [] (walked rules [] v x) rest) e ∙ ap (λ (u : Walk). walk_fault sim_built [] u rest) is;
  walked_is = ap (λ (u : Walk). fold (walked rules []) u rest) is;
}

value_goes : (b : Bool) (v : Text) (rows : List Row) (rest : List Text) → starts_with_minus v ≡ false → GoesOn (at_word rows (named b) 1 false) (at_word rows (valued b v) 1 false) (v ∷ rest) rest
value_goes b v rows rest e = goes (at_word rows (named b) 1 false) (at_word rows (valued b v) 1 false) v rest (value_right b v rows e) (value_taken b v rows e)

goes_far : (u v w : Walk) (a b c : List Text) → GoesOn u v a b → GoesOn v w b c → GoesOn u w a c
goes_far u v w a b c g h = record { fault = g.fault ∙ h.fault; walked_is = g.walked_is ∙ h.walked_is }

abbrev start : Walk
start = at_word [] nothing 1 false

first_use : (b : Bool) (v : Text) (j : Bool) (rest : List Text) → value_passes (rule_for b) v ≡ true → starts_with_minus v ≡ false → GoesOn start (after_one b v j) (use_words b v j ++ rest) rest
unfolding walked
first_use true v true rest p s = goes start (after_one true v true) (joined_word (codes "store") v) rest (ap (λ (k : Kinds). or_else k []) (passed_use true v p)) refl
first_use false v true rest p s = goes start (after_one false v true) (joined_word (codes "shards") v) rest (ap (λ (k : Kinds). or_else k []) (passed_use false v p)) refl
first_use true v false rest p s =
    goes_far start (at_word [] (named true) 1 false) (after_one true v false) (long_word (codes "store") ∷ v ∷ rest) (v ∷ rest) rest
    (goes start (at_word [] (named true) 1 false) (long_word (codes "store")) (v ∷ rest) refl refl) (value_goes true v [] rest s)
first_use false v false rest p s =
    goes_far start (at_word [] (named false) 1 false) (after_one false v false) (long_word (codes "shards") ∷ v ∷ rest) (v ∷ rest) rest
    (goes start (at_word [] (named false) 1 false) (long_word (codes "shards")) (v ∷ rest) refl refl) (value_goes false v [] rest s)

-- the option of the other name, after the first
joined_second : (b : Bool) (v : Text) (j : Bool) (w : Text) (rest : List Text) → value_passes (rule_for b) v ≡ true → value_passes (rule_for (not b)) w ≡ true
    → GoesOn (after_one b v j) (after_two b v j w true) (joined_word (name_of (not b)) w ∷ rest) rest
unfolding walked
joined_second true v true w rest p q = goes (after_one true v true) (after_two true v true w true) (joined_word (codes "shards") w) rest (ap (λ (k : Kinds). or_else k []) (passed_after true w v q)) refl
joined_second false v true w rest p q = goes (after_one false v true) (after_two false v true w true) (joined_word (codes "store") w) rest (ap (λ (k : Kinds). or_else k []) (passed_after false w v q)) refl
joined_second true v false w rest p q =
    goes (after_one true v false) (after_two true v false w true) (joined_word (codes "shards") w) rest
    (ap₂ (λ (k l : Kinds). or_else (or_else k l) []) (passed_use true v p) (passed_after true w v q)) refl
joined_second false v false w rest p q =
    goes (after_one false v false) (after_two false v false w true) (joined_word (codes "store") w) rest
    (ap₂ (λ (k l : Kinds). or_else (or_else k l) []) (passed_use false v p) (passed_after false w v q)) refl

named_second : (b : Bool) (v : Text) (j : Bool) (rest : List Text) → value_passes (rule_for b) v ≡ true
    → GoesOn (after_one b v j) (at_word (rows_of_uses (one b v j)) (named (not b)) 1 false) (long_word (name_of (not b)) ∷ rest) rest
unfolding walked
named_second true v true rest p = goes (after_one true v true) (at_word (rows_of_uses (one true v true)) (named false) 1 false) (long_word (codes "shards")) rest refl refl
named_second false v true rest p = goes (after_one false v true) (at_word (rows_of_uses (one false v true)) (named true) 1 false) (long_word (codes "store")) rest refl refl
named_second true v false rest p =
    goes (after_one true v false) (at_word (rows_of_uses (one true v false)) (named false) 1 false) (long_word (codes "shards")) rest (ap (λ (k : Kinds). or_else k []) (passed_use true v p)) refl
named_second false v false rest p =
    goes (after_one false v false) (at_word (rows_of_uses (one false v false)) (named true) 1 false) (long_word (codes "store")) rest (ap (λ (k : Kinds). or_else k []) (passed_use false v p)) refl

second_use : (b : Bool) (v : Text) (j : Bool) (w : Text) (k : Bool) (rest : List Text) → value_passes (rule_for b) v ≡ true → value_passes (rule_for (not b)) w ≡ true → starts_with_minus w ≡ false
    → GoesOn (after_one b v j) (after_two b v j w k) (use_words (not b) w k ++ rest) rest
second_use b v j w true rest p q s = joined_second b v j w rest p q
second_use b v j w false rest p q s =
    goes_far (after_one b v j) (at_word (rows_of_uses (one b v j)) (named (not b)) 1 false) (after_two b v j w false) (long_word (name_of (not b)) ∷ w ∷ rest) (w ∷ rest) rest
    (named_second b v j (w ∷ rest) p) (value_goes (not b) w (rows_of_uses (one b v j)) rest s)

-- ---- the end

end_walk : (rows : List Row) (half : Half) (t : Bool) → walk_fault sim_built [] (at_word rows half 1 false) (end_words t) ≡ []
unfolding walk_fault walked
end_walk rows half false = refl
end_walk rows nothing true = refl
end_walk rows (named b) true = refl
end_walk rows (valued b v) true = refl

end_held : (rows : List Row) (half : Half) (t : Bool) → (fold (walked rules []) (at_word rows half 1 false) (end_words t)).held ≡ holding rows (pending_for half)
unfolding walked
end_held rows half false = refl
end_held rows nothing true = refl
end_held rows (named b) true = refl
end_held rows (valued b v) true = refl

abbrev no_kinds : Kinds
no_kinds = []

either_none : (b : Bool) → cond b no_kinds no_kinds ≡ no_kinds
either_none true = refl
either_none false = refl

-- `--help` has no default
help_right : (b : Bool) → cond (b || true) no_kinds (kind.DisplayHelp ∷ []) ≡ no_kinds
help_right true = refl
help_right false = refl

defaults_right : (rows : List Row) → defaults_fault rows rules ≡ []
unfolding defaults_fault
defaults_right rows =
    let one_row = with_default rows store_rule in
    let two_rows = with_default one_row shards_rule in
    let third = or_else (cond (has_row (codes "help") two_rows || true) no_kinds (kind.DisplayHelp ∷ [])) no_kinds in
    let second = or_else (cond (has_row (codes "shards") one_row || false) no_kinds no_kinds) third in
    none_at_all (cond (has_row (codes "store") rows || false) no_kinds no_kinds) second (either_none (has_row (codes "store") rows || false))
    (none_at_all (cond (has_row (codes "shards") one_row || false) no_kinds no_kinds) third (either_none (has_row (codes "shards") one_row || false))
    (none_at_all (cond (has_row (codes "help") two_rows || true) no_kinds (kind.DisplayHelp ∷ [])) no_kinds (help_right (has_row (codes "help") two_rows)) refl))

level_right : (words : List Text) (rows : List Row) (half : Half) (t : Bool) → GoesOn start (at_word rows half 1 false) words (end_words t) → settle_fault rules false (holding rows (pending_for half)) ≡ []
    → level_fault sim_built [] nothing_held words false [] ≡ []
level_right words rows half t g e =
    let end = (walk rules [] nothing_held words).held in
    let held_is : end ≡ holding rows (pending_for half) = ap (λ (w : Walk). w.held) g.walked_is ∙ end_held rows half t in
    let settles : settle_fault rules false end ≡ [] = subst (λ (h : Held). settle_fault rules false h ≡ []) (sym held_is) e in
    let checks = check_fault sim_built (finished rules end) false in
    let last = or_else (defaults_fault (settled rules end).rows rules) checks in
    none_at_all (walk_fault sim_built [] start words) (or_else (settle_fault rules false end) last) (g.fault ∙ end_walk rows half t)
    (none_at_all (settle_fault rules false end) last settles (none_at_all (defaults_fault (settled rules end).rows rules) checks (defaults_right (settled rules end).rows) refl))

one_right : (b : Bool) (v : Text) (j : Bool) (t : Bool) → value_passes (rule_for b) v ≡ true → starts_with_minus v ≡ false → level_fault sim_built [] nothing_held (use_words b v j ++ end_words t) false [] ≡ []
one_right b v true t p s = level_right (use_words b v true ++ end_words t) (rows_of_uses (one b v true)) nothing t (first_use b v true (end_words t) p s) refl
one_right true v false t p s = level_right (use_words true v false ++ end_words t) [] (valued true v) t (first_use true v false (end_words t) p s) (passed_use true v p)
one_right false v false t p s = level_right (use_words false v false ++ end_words t) [] (valued false v) t (first_use false v false (end_words t) p s) (passed_use false v p)

two_go : (b : Bool) (v : Text) (j : Bool) (w : Text) (k t : Bool) → value_passes (rule_for b) v ≡ true → starts_with_minus v ≡ false → value_passes (rule_for (not b)) w ≡ true → starts_with_minus w ≡ false
    → GoesOn start (after_two b v j w k) (words_of (both b v j w k) ++ end_words t) (end_words t)
two_go b v j w k t p s q u =
    let second = use_words (not b) w k ++ end_words t in
    subst (λ (ws : List Text). GoesOn start (after_two b v j w k) ws (end_words t)) (sym (append_assoc (use_words b v j) (use_words (not b) w k) (end_words t)))
    (goes_far start (after_one b v j) (after_two b v j w k) (use_words b v j ++ second) second (end_words t) (first_use b v j second p s) (second_use b v j w k (end_words t) p q u))

two_right : (b : Bool) (v : Text) (j : Bool) (w : Text) (k t : Bool) → value_passes (rule_for b) v ≡ true → starts_with_minus v ≡ false → value_passes (rule_for (not b)) w ≡ true → starts_with_minus w ≡ false
    → level_fault sim_built [] nothing_held (words_of (both b v j w k) ++ end_words t) false [] ≡ []
two_right b v j w true t p s q u = level_right (words_of (both b v j w true) ++ end_words t) (rows_of_uses (both b v j w true)) nothing t (two_go b v j w true t p s q u) refl
two_right true v j w false t p s q u =
    level_right (words_of (both true v j w false) ++ end_words t) (rows_of_uses (one true v j)) (valued false w) t (two_go true v j w false t p s q u) (passed_after true w v q)
two_right false v j w false t p s q u =
    level_right (words_of (both false v j w false) ++ end_words t) (rows_of_uses (one false v j)) (valued true w) t (two_go false v j w false t p s q u) (passed_after false w v q)

uses_right : (us : Uses) (t : Bool) → Pass us → Plain us → level_fault sim_built [] nothing_held (words_of us ++ end_words t) false [] ≡ []
uses_right none t p s = level_right (end_words t) [] nothing t (record { fault = refl; walked_is = refl }) refl
uses_right (one b v j) t p s = one_right b v j t p s
uses_right (both b v j w k) t p s = two_right b v j w k t p.0 s.0 p.1 s.1

-- ---- the whole line

abbrev sim_options : List Rule
sim_options = store_option ∷ shards_option ∷ []

abbrev whole : App
whole = entered_by.whole (codes "sim") sim_options

abbrev behind_sim : List Text → Walk
behind_sim = entered_by.past (codes "sim") sim_options

abbrev past_entered : Walk → Kinds
past_entered = entered_by.past_entered (codes "sim") sim_options

abbrev past_words : Walk → Kinds
past_words = entered_by.past_words (codes "sim") sim_options

program_right : (name : Text) (rest : List Text) → level_fault sim_built [] nothing_held rest false [] ≡ [] → fault_of program (name ∷ codes "sim" ∷ rest) ≡ []
unfolding walk_fault walked defaults_fault
program_right name rest e =
    let end = fold (walked top_rules (names_of whole)) (behind_sim []) rest in
    let end_is : end ≡ behind_sim rest = sym (walk_stopped top_rules (names_of whole) before (codes "sim") [] rest) in
    let after : past_words (behind_sim rest) ≡ [] = none_at_all (entered_fault whole (Some (codes "sim", rest))) (past_entered (behind_sim rest)) e refl in
    none_at_all (walk_fault whole.top (names_of whole) (behind_sim []) rest) (past_words end) (stopped_fault whole.top (names_of whole) before (codes "sim", []) rest)
    (subst (λ (w : Walk). past_words w ≡ []) (sym end_is) after)

-- a line that asks for settings has no fault
pub asked_is_right : (words : List Text) (store shards : ℕ) → AsksFor words store shards → fault_of program words ≡ []
asked_is_right words store shards a =
    let line = line_uses words store shards a in
    subst (λ (ws : List Text). fault_of program ws ≡ []) (sym line.words_are)
    (program_right line.name (words_of line.uses ++ end_words line.has_end) (uses_right line.uses line.has_end line.pass line.plain))

-- so only memory can refuse it
pub refused_for_memory : {T : Type 0} (r : Result T Error) (words : List Text) → FailsBy (fault_of program words) r
    → IfErr r (λ e. (store shards : ℕ) → AsksFor words store shards → kind_of e ≡ kind.OutOfMemory)
refused_for_memory (Ok x) words fails = tt
refused_for_memory (Err e) words fails = λ store shards a.
    elim (subst (λ (ks : Kinds). HasKind ks e) (asked_is_right words store shards a) fails) [ inl m ↦ m | inr h ↦ absurd h ]
