-- What the words after a command's name give its options, in the rows of a parse.
use Rattle.std.proofs.Common.{◌≡◌, ◌∙◌, ◌||◌, ◌++◌, ◌∷◌, [], Bool, List, Option, Some, None, true, false, cond, refl, sym, ap, subst}
use Rattle.std.specs.Prelude.{IfSome, find, fold, option_and_then, option_map, slice_get, unwrap_or}
use Rattle.std.specs.Str.{bytes_eq}
use Rattle.std.specs.Borrow.{Bor}
use Rattle.std.proofs.lemmas.Bool.{false≢true}
use Rattle.std.proofs.lemmas.Slice.Eq.{bytes_eq-Decides}
use Rattle.clap.specs.Faults.{fault_of, is_free_app, is_simple_and_free}
use Rattle.clap.specs.Matches.{first_value, found_of}
use Rattle.clap.specs.Simple.{App, HasMatchesOf, built, is_simple, subcommand_of, subcommand_rows_of}
use Rattle.clap.specs.Walk.{Row, Rule, Text, default_rows, first_of, has_row, more_values, nothing_held, reading_by, rows_after, rows_of, settled, walk, with_default, with_values}
use Rattle.clap.specs.declared.builder.value_parser.Reading.{Reading}
use Rattle.clap.specs.declared.parser.matches.ArgMatches.{ArgMatches}
use Rattle.clap.specs.declared.parser.matches.Found.{Found}
use Rattle.clap.specs.declared.parser.matches.ValueSource.TheVariants.{DefaultValue}
use Rattle.clap.proofs.WalkLemmas.{both, first_value-rows}
use Rattle.settings.specs.Options.{Asks, app_with, built_command, text_or, written}
use Rattle.settings.proofs.Entered.{enters_command}

-- ---- defaults

abbrev pub default_or : Option Text → List Text → Option Text
default_or other [] = other
default_or other (v ∷ vs) = slice_get (v ∷ vs) 0

-- the default of the option of this name
abbrev pub default_at : Text → List Rule → Option Text
default_at option [] = None
default_at option (a ∷ rest) = cond (bytes_eq a.id option) (default_or (default_at option rest) a.defaults) (default_at option rest)

-- a row of its own at the end
abbrev new_row : Text → Reading → List Text → Row
new_row id how values = record { id = id; values = values; count = None; source = Some DefaultValue; reading = how }

added : (id : Text) (how : Reading) (values : List Text) (rows : List Row) → has_row id rows ≡ false → with_values id how DefaultValue values rows ≡ rows ++ new_row id how values ∷ []
added id how values [] none = refl
added id how values (r ∷ rs) none = go (bytes_eq r.id id) none (added id how values rs)
  where
    go : (b : Bool) → (b || has_row id rs) ≡ false → (has_row id rs ≡ false → with_values id how DefaultValue values rs ≡ rs ++ new_row id how values ∷ [])
        → cond b (more_values DefaultValue values r ++ rs) (r ∷ with_values id how DefaultValue values rs) ≡ r ∷ (rs ++ new_row id how values ∷ [])
    go true e rest = absurd (false≢true (sym e))
    go false e rest = ap (λ (l : List Row). r ∷ l) (rest e)

-- the text of an option, once a row is put at the end
at_end : (option : Text) (rows : List Row) (r : Row) (d : Option Text) → text_or d (rows ++ r ∷ []) option ≡ text_or (cond (bytes_eq r.id option) (slice_get r.values 0) d) rows option
at_end option [] r d = go (bytes_eq r.id option)
  where
    go : (b : Bool) → cond (b || false) (option_and_then (λ (q : Row). slice_get q.values 0) (cond b (Some r) None)) d ≡ cond b (slice_get r.values 0) d
    go true = refl
    go false = refl
at_end option (q ∷ qs) r d = go (bytes_eq q.id option) (at_end option qs r d)
  where
    go : (b : Bool) → text_or d (qs ++ r ∷ []) option ≡ text_or (cond (bytes_eq r.id option) (slice_get r.values 0) d) qs option
        → cond (b || has_row option (qs ++ r ∷ [])) (option_and_then (λ (x : Row). slice_get x.values 0) (cond b (Some q) (find (λ (x : Row). bytes_eq x.id option) (qs ++ r ∷ [])))) d
        ≡ cond (b || has_row option qs) (option_and_then (λ (x : Row). slice_get x.values 0) (cond b (Some q) (find (λ (x : Row). bytes_eq x.id option) qs))) (cond (bytes_eq r.id option) (slice_get r.values 0) d)
    go true rest = refl
    go false rest = rest

no_default : (option : Text) (rows : List Row) → first_of option rows ≡ text_or None rows option
no_default option [] = refl
no_default option (q ∷ qs) = go (bytes_eq q.id option) (no_default option qs)
  where
    go : (b : Bool) → first_of option qs ≡ text_or None qs option
        → option_and_then (λ (x : Row). slice_get x.values 0) (cond b (Some q) (find (λ (x : Row). bytes_eq x.id option) qs))
        ≡ cond (b || has_row option qs) (option_and_then (λ (x : Row). slice_get x.values 0) (cond b (Some q) (find (λ (x : Row). bytes_eq x.id option) qs))) None
    go true rest = refl
    go false rest = rest

-- an option that has a row takes no default
there : (option id : Text) (ds : List Text) (rows : List Row) (d : Option Text) → has_row id rows ≡ true → (b : Bool) → bytes_eq id option ≡ b
    → text_or d rows option ≡ text_or (cond b (default_or d ds) d) rows option
there option id ds rows d e false is = refl
there option id ds rows d e true is =
    let has : has_row option rows ≡ true = ap (λ (x : Text). has_row x rows) (sym ((bytes_eq-Decides id option).0 is)) ∙ e in
    ap (λ (t : Bool). cond t (first_of option rows) d) has ∙ sym (ap (λ (t : Bool). cond t (first_of option rows) (default_or d ds)) has)

-- one that has none takes it
gone : (option id : Text) (how : Reading) (ds : List Text) (rows : List Row) (d : Option Text) → has_row id rows ≡ false
    → text_or d (default_rows id how ds rows) option ≡ text_or (cond (bytes_eq id option) (default_or d ds) d) rows option
gone option id how [] rows d e = go (bytes_eq id option)
  where
    go : (b : Bool) → text_or d rows option ≡ text_or (cond b d d) rows option
    go true = refl
    go false = refl
gone option id how (v ∷ vs) rows d e = ap (λ (l : List Row). text_or d l option) (added id how (v ∷ vs) rows e) ∙ at_end option rows (new_row id how (v ∷ vs)) d

one_default : (option id : Text) (how : Reading) (ds : List Text) (rows : List Row) (d : Option Text) (h : Bool) → has_row id rows ≡ h
    → text_or d (cond h rows (default_rows id how ds rows)) option ≡ text_or (cond (bytes_eq id option) (default_or d ds) d) rows option
one_default option id how ds rows d true e = there option id ds rows d e (bytes_eq id option) refl
one_default option id how ds rows d false e = gone option id how ds rows d e

-- the text that a parse finds is the one that the words give, and else the default
pub defaulted : (option : Text) (rules : List Rule) (rows : List Row) → first_of option (fold with_default rows rules) ≡ text_or (default_at option rules) rows option
defaulted option [] rows = no_default option rows
defaulted option (a ∷ rest) rows =
    defaulted option rest (with_default rows a) ∙ one_default option a.id (reading_by a) a.defaults rows (default_at option rest) (has_row a.id rows) refl

-- ---- from a parse

module _ {S : Type 0} (command : Text) (options : List Rule) (asks : (Text → Option Text → Option Text) → S → Type 0) (words : List Text) where
  -- what is asked for by the rows that a parse found is what the words ask for
  asks_found : (found : Found) (s : S) → fault_of (app_with command options) words ≡ [] → Some (rows_of found) ≡ option_map (λ p. p.1) (subcommand_of (app_with command options) words)
      → asks (λ option default. first_value found option) s → Asks command options asks words s
  asks_found found s right below h =
      let line = enters_command command options words right in
      let same : Some (rows_of found) ≡ Some (rows_after (built_command command options).rules [] line.rest) = below ∙ ap (option_map (λ p. p.1)) line.entered_is in
      let rows_are : rows_of found ≡ rows_after (built_command command options).rules [] line.rest = ap (λ (o : Option (List Row)). unwrap_or o []) same in
      let text : (option : Text) → first_value found option ≡ first_of option (rows_after (built_command command options).rules [] line.rest) =
      λ option. first_value-rows found option ∙ ap (first_of option) rows_are in
      let told : (λ (option : Text) (default : Option Text). first_value found option) ≡ (λ (option : Text) (default : Option Text). first_of option (rows_after (built_command command options).rules [] line.rest)) =
      λ i. λ option default. text option i in
      record {
        rest = line.rest;
        line = record { program_name = line.name; words_are = line.words_are };
        asked = subst (λ (t : Text → Option Text → Option Text). asks t s) told h;
      }

  -- the same of the matches below, which `subcommand` gave
  pub asks_below : (a : App) (m : ArgMatches) (o : Option (Bor Text × Bor ArgMatches)) (p : Bor Text × Bor ArgMatches) (given : Option S) → a ≡ app_with command options
      → (is_simple_and_free a ≡ true → fault_of a words ≡ []) → HasMatchesOf a words m → option_map (λ q. rows_of (found_of q.1.now)) o ≡ option_map (λ q. q.1) (subcommand_rows_of m) → o ≡ Some p
      → IfSome given (asks (λ option default. first_value (found_of p.1.now) option)) → IfSome given (λ s. is_simple_and_free (app_with command options) ≡ true → Asks command options asks words s)
  asks_below a m o p None is free matches rows met h = tt
  asks_below a m o p (Some s) is free matches rows met h = λ simple.
      let simple_is : is_simple_and_free a ≡ true = ap is_simple_and_free is ∙ simple in
      let right : fault_of (app_with command options) words ≡ [] = ap (λ (x : App). fault_of x words) (sym is) ∙ free simple_is in
      let below : subcommand_rows_of m ≡ subcommand_of (app_with command options) words = (matches (both (is_simple a) (is_free_app (built a)) simple_is).0).1 ∙ ap (λ (x : App). subcommand_of x words) is in
      let found : Some (rows_of (found_of p.1.now)) ≡ option_map (λ q. q.1) (subcommand_rows_of m) = ap (option_map (λ (q : Bor Text × Bor ArgMatches). rows_of (found_of q.1.now))) (sym met) ∙ rows in
      asks_found (found_of p.1.now) s right (found ∙ ap (option_map (λ q. q.1)) below) h

-- ---- from defaults that a parse put in

-- the text of an option in a command line, with the default of its rule
pub text_told : (command : Text) (options : List Rule) (rest : List Text) (option : Text)
    → first_of option (rows_after (built_command command options).rules [] rest) ≡ text_or (default_at option (built_command command options).rules) (written command options rest) option
text_told command options rest option =
    defaulted option (built_command command options).rules (settled (built_command command options).rules (walk (built_command command options).rules [] nothing_held rest).held).rows
