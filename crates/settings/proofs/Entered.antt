-- A command line without a fault is the program's name, a command's and what a parse of that command takes.
use Rattle.std.proofs.Common.{◌≡◌, ◌∙◌, ◌⊎◌, ◌||◌, ◌∷◌, [], ℕ, Bool, List, Option, Some, None, true, false, cond, refl, sym, ap, subst, zero, suc, inl, inr, length, drop, codes, is_some}
use Rattle.std.specs.Prelude.{◌==◌, encode_utf8, find, fold, option_map, slice_get}
use Rattle.std.specs.Option.{option_map_or}
use Rattle.std.specs.Str.{bytes_eq, chars}
use Rattle.std.proofs.lemmas.Slice.Eq.{bytes_eq-Decides}
use Rattle.clap.specs.Lexer.{long_of, short_of}
use Rattle.clap.specs.Walk.{answers_to, Held, Outcome, Rule, Step, Text, Walk, after_flag, after_step, bundle_met, bundle_step, finished, idle, long_met, long_or_other, nothing_held, plain, plain_word, rows_after, settled, short_or_plain, short_word, stop_after, subcommand_or_other, trailing, walk_from, walked}
use Rattle.clap.specs.Simple.{App, Shape, built, entered, label_of, names_of, rows_at, subcommand_of}
use Rattle.clap.specs.Kinds.{Kinds, or_else}
use Rattle.clap.specs.Faults.{built_fault, bundle_fault, bundle_step_fault, check_fault, defaults_fault, entered_fault, fault_of, flag_word_fault, flags_fault, level_fault, long_fault, other_fault, settle_fault, step_fault, turn_fault, walk_fault}
use Rattle.clap.specs.declared.error.kind.ErrorKind.TheVariants as kind
use Rattle.clap.proofs.WalkLemmas.{walk_stopped}
use Rattle.settings.specs.Options.{app_with, built_command}
use Rattle.settings.proofs.Uses.{first_none, help_filled, second_none, some_kind}
use Rattle.settings.proofs.SimWalk.{no_short}

-- ---- the words before the command's name

-- the program without its command
abbrev pub top : Shape
top = (built (app_with [] [])).top

abbrev pub top_rules : List Rule
top_rules = top.rules

abbrev pub before : Walk
before = walk_from nothing_held

abbrev behind_dashes : Walk
behind_dashes = record before { is_trailing = true }

no_flag : (k : ℕ) (flags : Text) (so_far : Outcome) (h : Held) → flags_fault top_rules false k flags 0 h ≡ [] → bundle_met top_rules k flags 0 so_far h ≡ (h, so_far)
unfolding flags_fault bundle_met
no_flag zero flags so_far h e = refl
no_flag (suc k) flags so_far h e = go (slice_get (chars flags) 0) e
  where
    go : (o : Option ℕ) → bundle_step_fault top_rules false o flags 0 h (flags_fault top_rules false k) ≡ [] → bundle_step top_rules o flags 0 so_far h (bundle_met top_rules k) ≡ (h, so_far)
    go None e = refl
    go (Some x) e =
        let rest = drop (length (encode_utf8 x)) flags in
        absurd (no_short top_rules ((104 == x) || false) rest h (flags_fault top_rules false k rest 0) e)

-- no flag passes there, and no word that is none
long_refused : (word : Text) (v : Option Text) (f : Bool)
    → or_else (long_fault top_rules false (cond (f || false) (Some help_filled) None) v nothing_held)
    (step_fault top 1 (after_flag top_rules idle word (long_met top_rules (cond (f || false) (Some help_filled) None) v nothing_held).0 (long_met top_rules (cond (f || false) (Some help_filled) None) v nothing_held).1).0
    (after_flag top_rules idle word (long_met top_rules (cond (f || false) (Some help_filled) None) v nothing_held).0 (long_met top_rules (cond (f || false) (Some help_filled) None) v nothing_held).1).1) ≡ []
    → ⊥
long_refused word (Some t) true e = some_kind kind.TooManyValues [] e
long_refused word None true e = some_kind kind.DisplayHelp [] e
long_refused word (Some t) false e = some_kind kind.UnknownArgument [] e
long_refused word None false e = some_kind kind.UnknownArgument [] e

short_refused : (word : Text) (s : Option Text)
    → or_else (option_map_or (λ flags. bundle_fault top_rules false flags nothing_held) s [])
    (step_fault top 1 (short_or_plain top_rules idle word s nothing_held).0 (short_or_plain top_rules idle word s nothing_held).1) ≡ [] → ⊥
short_refused word None e = some_kind kind.UnknownArgument (kind.InvalidSubcommand ∷ []) e
short_refused word (Some flags) e =
    let fault = step_fault top 1 (short_word top_rules idle word flags nothing_held).0 (short_word top_rules idle word flags nothing_held).1 in
    let none = first_none (bundle_fault top_rules false flags nothing_held) fault e in
    let is : short_word top_rules idle word flags nothing_held ≡ plain_word top_rules idle word nothing_held =
    ap (λ (m : Held × Outcome). after_flag top_rules idle word m.0 m.1) (no_flag (length flags) flags plain nothing_held none) in
    let left : step_fault top 1 (plain_word top_rules idle word nothing_held).0 (plain_word top_rules idle word nothing_held).1 ≡ [] =
    ap (λ (m : Held × Step). step_fault top 1 m.0 m.1) (sym is) ∙ second_none (bundle_fault top_rules false flags nothing_held) fault e in
    some_kind kind.UnknownArgument (kind.InvalidSubcommand ∷ []) left

flag_refused : (word : Text) (o : Option (Text × Option Text))
    → or_else (flag_word_fault top_rules false o word nothing_held)
    (step_fault top 1 (long_or_other top_rules idle word o nothing_held).0 (long_or_other top_rules idle word o nothing_held).1) ≡ [] → ⊥
flag_refused word (Some q) e = long_refused word q.1 (bytes_eq (codes "help") q.0) e
flag_refused word None e = short_refused word (short_of word) e

-- `b` says whether the word is `--`
first_other : (word : Text) (b : Bool)
    → or_else (cond b [] (flag_word_fault top_rules false (long_of word) word nothing_held))
    (step_fault top 1 (cond b (nothing_held, trailing 1) (long_or_other top_rules idle word (long_of word) nothing_held)).0
    (cond b (nothing_held, trailing 1) (long_or_other top_rules idle word (long_of word) nothing_held)).1) ≡ []
    → let m = cond b (nothing_held, trailing 1) (long_or_other top_rules idle word (long_of word) nothing_held) in
    after_step top_rules word before m.0 m.1 ≡ behind_dashes
first_other word true e = refl
first_other word false e = absurd (flag_refused word (long_of word) e)

module _ (command : Text) (options : List Rule) where
  abbrev pub leaf : Shape
  leaf = built_command command options

  abbrev pub whole : App
  whole = built (app_with command options)

  abbrev pub past : List Text → Walk
  past words = record before { stopped = Some (command, words) }

  -- the command answers to its name
  answers : find (λ s. answers_to command (label_of s)) whole.subs ≡ Some leaf
  answers =
      ap (λ (b : Bool). cond (b || false) (Some leaf) (find (λ s. answers_to command (label_of s)) (drop 1 whole.subs)))
      ((bytes_eq-Decides command command).1 refl)

  -- the subcommand that a word names, by whether it is that of each name
  abbrev named : Bool → Bool → Option Text
  named b d = option_map (λ (s : Text × List Text). s.0) (cond (b || false) (Some (command, [])) (cond (d || false) (Some (codes "help", [])) None))

  first_named : (word : Text) (b d : Bool) → bytes_eq command word ≡ b
      → or_else (other_fault whole.top (named b d) word nothing_held)
      (step_fault whole.top 1 (subcommand_or_other top_rules (named b d) idle 1 word nothing_held).0 (subcommand_or_other top_rules (named b d) idle 1 word nothing_held).1) ≡ []
      → let m = subcommand_or_other top_rules (named b d) idle 1 word nothing_held in
      ((after_step top_rules word before m.0 m.1 ≡ past []) × (word ≡ command)) ⊎ (after_step top_rules word before m.0 m.1 ≡ behind_dashes)
  first_named word true d is e = inl (refl, sym ((bytes_eq-Decides command word).0 is))
  first_named word false true is e = absurd (some_kind kind.DisplayHelp (kind.InvalidSubcommand ∷ []) e)
  first_named word false false is e = inr (first_other word (bytes_eq word (45 ∷ 45 ∷ [])) e)

  -- the first word is the command or `--`
  first_word : (word : Text) → turn_fault whole.top (names_of whole) before word ≡ []
      → ((walked top_rules (names_of whole) before word ≡ past []) × (word ≡ command)) ⊎ (walked top_rules (names_of whole) before word ≡ behind_dashes)
  unfolding walked
  first_word word e = first_named word (bytes_eq command word) (bytes_eq (codes "help") word) refl e

  -- ---- the whole line

  -- what may be wrong once the words are walked over
  abbrev pub past_entered : Walk → Kinds
  past_entered w = or_else (settle_fault top_rules false w.held)
      (or_else (defaults_fault (settled top_rules w.held).rows top_rules) (check_fault whole.top (finished top_rules w.held) (is_some (entered whole w.stopped))))

  abbrev pub past_words : Walk → Kinds
  past_words w = or_else (entered_fault whole w.stopped) (past_entered w)

  -- without the command there is a fault
  no_command : past_words before ≡ [] → ⊥
  no_command e = some_kind kind.MissingSubcommand []
      (second_none (defaults_fault (settled top_rules nothing_held).rows top_rules) (check_fault whole.top (finished top_rules nothing_held) false) e)

  -- `--` leaves no word for the command
  behind_two_dashes : (rest : List Text) (w : Walk) → w ≡ behind_dashes → walk_fault whole.top (names_of whole) w rest ≡ [] → past_words (fold (walked top_rules (names_of whole)) w rest) ≡ [] → ⊥
  unfolding walk_fault
  behind_two_dashes [] w is walks e = no_command (subst (λ (v : Walk). past_words v ≡ []) is e)
  behind_two_dashes (x ∷ xs) w is walks e =
      let turn = first_none (turn_fault whole.top (names_of whole) w x) (walk_fault whole.top (names_of whole) (walked top_rules (names_of whole) w x) xs) walks in
      some_kind kind.UnknownArgument (kind.InvalidSubcommand ∷ []) (subst (λ (v : Walk). turn_fault whole.top (names_of whole) v x ≡ []) is turn)

  -- the words after the command, with the uses in them
  record PastName (words : List Text) : Type 0 where
    rest : List Text
    words_are : words ≡ command ∷ rest
    right : level_fault leaf [] nothing_held rest false [] ≡ []
    entered_is : entered whole (stop_after top_rules (names_of whole) words) ≡ Some (command, rows_after leaf.rules [] rest)

  past_name : (word : Text) (rest : List Text) → walked top_rules (names_of whole) before word ≡ past [] → word ≡ command
      → past_words (fold (walked top_rules (names_of whole)) (walked top_rules (names_of whole) before word) rest) ≡ [] → PastName (word ∷ rest)
  past_name word rest is word_is e =
      let end = fold (walked top_rules (names_of whole)) (walked top_rules (names_of whole) before word) rest in
      let end_is : end ≡ past rest =
      ap (λ (w : Walk). fold (walked top_rules (names_of whole)) w rest) is ∙ sym (walk_stopped top_rules (names_of whole) before command [] rest) in
      let below : level_fault leaf [] nothing_held rest false [] ≡ [] =
      sym (ap (λ (o : Option Shape). option_map_or (λ s. level_fault s [] nothing_held rest false []) o []) answers)
      ∙ first_none (entered_fault whole (Some (command, rest))) (past_entered (past rest)) (subst (λ (w : Walk). past_words w ≡ []) end_is e) in
      record {
        rest = rest;
        words_are = ap (λ (x : Text). x ∷ rest) word_is;
        right = below;
        entered_is = ap (λ (w : Walk). entered whole w.stopped) end_is ∙ ap (option_map (λ (s : Shape). rows_at s rest)) answers;
      }

  enters : (words : List Text) → built_fault whole nothing_held words ≡ [] → PastName words
  unfolding walk_fault
  enters [] e = absurd (no_command (second_none (walk_fault whole.top (names_of whole) before []) (past_words before) e))
  enters (word ∷ rest) e =
      let second = walked top_rules (names_of whole) before word in
      let end = fold (walked top_rules (names_of whole)) second rest in
      let turn = turn_fault whole.top (names_of whole) before word in
      let more = walk_fault whole.top (names_of whole) second rest in
      let walks = first_none (or_else turn more) (past_words end) e in
      let last = second_none (or_else turn more) (past_words end) e in
      elim (first_word word (first_none turn more walks)) [
        | inl is ↦ past_name word rest is.0 is.1 last
        | inr is ↦ absurd (behind_two_dashes rest second is (second_none turn more walks) last)
      ]

  -- a line without a fault: the words, and the rows of the command
  pub record Enters (words : List Text) : Type 0 where
    pub name : Text
    pub rest : List Text
    pub words_are : words ≡ name ∷ command ∷ rest
    pub right : level_fault leaf [] nothing_held rest false [] ≡ []
    pub entered_is : subcommand_of (app_with command options) words ≡ Some (command, rows_after leaf.rules [] rest)

  pub enters_command : (words : List Text) → fault_of (app_with command options) words ≡ [] → Enters words
  enters_command [] e =
      let got = enters [] e in
      let bad : [] ≡ command ∷ got.rest = got.words_are in
      cc
  enters_command (name ∷ words) e =
      let got = enters words e in
      record { name = name; rest = got.rest; words_are = ap (λ (ws : List Text). name ∷ ws) got.words_are; right = got.right; entered_is = got.entered_is }
