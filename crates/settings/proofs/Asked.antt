-- A command line without a fault asks for the numbers that the typed getters read.
use Rattle.std.proofs.Common.{◌≡◌, ◌∙◌, ◌<◌, ◌≤◌, ◌==◌, ◌^◌, ◌⊎◌, ◌++◌, ◌∷◌, [], ℕ, Bool, List, Option, Some, None, Result, Ok, Err, true, false, cond, refl, sym, ap, subst, inl, inr, arith, codes, drop, append-nil}
use Rattle.std.specs.Prelude.{IfSome, IsSome, fold, option_map, pos, unwrap_or}
use Rattle.std.specs.Borrow.{Bor}
use Rattle.std.specs.Str.Parse.{IsNumeral, ParsesUnsigned, starts_with_minus, without_leading_plus}
use Rattle.std.proofs.lemmas.Bool.{eqb-true, ne_eqb}
use Rattle.std.proofs.lemmas.Int.{ints}
use Rattle.std.proofs.lemmas.Str.Parse.{digit_from_value}
use Rattle.clap.specs.Faults.{fault_of, is_simple_and_free}
use Rattle.clap.specs.Lexer.{without_minus}
use Rattle.clap.specs.Matches.{ReadsOne, found_of, one_text}
use Rattle.clap.specs.Simple.{App, HasMatchesOf, is_simple, subcommand_of, subcommand_rows_of}
use Rattle.clap.specs.Takes.{value_passes}
use Rattle.clap.specs.Values.{IsSignedIn, IsUnsignedIn}
use Rattle.clap.specs.Walk.{Row, Text, one_of, rows_after, rows_of, with_default}
use Rattle.clap.specs.declared.builder.value_parser.ValueParser.TheVariants.{Signed, Unsigned}
use Rattle.clap.specs.declared.parser.matches.ArgMatches.{ArgMatches}
use Rattle.clap.specs.declared.parser.matches.Found.{Found}
use Rattle.clap.proofs.ValueTestLemmas.{Accepts-accepts, accepts-Accepts}
use Rattle.clap.proofs.WalkLemmas.{one_text-rows}
use Rattle.settings.specs.declared.limits.TheConstants.{MAX_STORE}
use Rattle.tuples.specs.Limits.{max_shards}
use Rattle.settings.specs.CommandLine.{AsksFor, Gives, IsLine, IsNumber, number, number_or, program, shards_option, store_option}
use Rattle.settings.proofs.Uses.{Pass, Uses, both, name_of, none, one, rows_of_uses, rules, shards_rule, store_rule, use_words, words_of}
use Rattle.settings.proofs.SimWalk.{sim_uses, with_end}
use Rattle.settings.proofs.Entered.{enters_command}

-- ---- what uses give

abbrev pub store_text : Uses → Option Text
store_text none = None
store_text (one true v j) = Some v
store_text (one false v j) = None
store_text (both true v j w k) = Some v
store_text (both false v j w k) = Some w

abbrev pub shards_text : Uses → Option Text
shards_text none = None
shards_text (one true v j) = None
shards_text (one false v j) = Some v
shards_text (both true v j w k) = Some w
shards_text (both false v j w k) = Some v

-- the rows of `sim` at the end, with the defaults
abbrev final_rows : Uses → List Row
final_rows us = fold with_default (rows_of_uses us) rules

store_at_end : (us : Uses) → one_of (codes "store") (final_rows us) ≡ Some (unwrap_or (store_text us) (codes "1"))
store_at_end none = refl
store_at_end (one true v j) = refl
store_at_end (one false v j) = refl
store_at_end (both true v j w k) = refl
store_at_end (both false v j w k) = refl

shards_at_end : (us : Uses) → one_of (codes "shards") (final_rows us) ≡ Some (without_minus (unwrap_or (shards_text us) (codes "2")))
shards_at_end none = refl
shards_at_end (one true v j) = refl
shards_at_end (one false v j) = refl
shards_at_end (both true v j w k) = refl
shards_at_end (both false v j w k) = refl

store_passes : (us : Uses) → Pass us → value_passes store_rule (unwrap_or (store_text us) (codes "1")) ≡ true
store_passes none p = refl
store_passes (one true v j) p = p
store_passes (one false v j) p = refl
store_passes (both true v j w k) p = p.0
store_passes (both false v j w k) p = p.1

shards_pass : (us : Uses) → Pass us → value_passes shards_rule (unwrap_or (shards_text us) (codes "2")) ≡ true
shards_pass none p = refl
shards_pass (one true v j) p = refl
shards_pass (one false v j) p = p
shards_pass (both true v j w k) p = p.1
shards_pass (both false v j w k) p = p.0

-- ---- numbers

number_given : (n : ℕ) (d : Text) (o : Option Text) → number d ≡ n → number (unwrap_or o d) ≡ number_or n o
number_given n d None e = e
number_given n d (Some t) e = refl

store_number : (t : Text) → value_passes store_rule t ≡ true → IsNumber 0 MAX_STORE t
store_number t e =
    let passed : IsUnsignedIn 0 MAX_STORE t = accepts-Accepts false (Unsigned 0 MAX_STORE) t e in
    record { numeral = passed.0; least = passed.2; most = passed.3 }

-- a number from 1 has no minus
signed_number : (low high : ℕ) (t : Text) → 1 ≤ low → IsSignedIn (pos low) (pos high) t → (starts_with_minus t ≡ false) × IsNumber low high t
signed_number low high t some passed = go (starts_with_minus t) refl
  where
    go : (b : Bool) → starts_with_minus t ≡ b → (starts_with_minus t ≡ false) × IsNumber low high t
    go true minus =
        let low_ok = rw minus at passed.2 in
        absurd (omega (arith, ints))
    go false minus =
        let low_ok = rw minus at passed.2 in
        let high_ok = rw minus at passed.3 in
        let numeral = rw minus at passed.0 in
        (minus, record { numeral = numeral; least = omega (arith, ints); most = omega (arith, ints) })

shards_number : (t : Text) → value_passes shards_rule t ≡ true → (starts_with_minus t ≡ false) × IsNumber 1 max_shards t
shards_number t e = signed_number 1 max_shards t (omega arith) (accepts-Accepts false (Signed (pos 1) (pos max_shards)) t e)

without_minus-cond : (t : Text) → without_minus t ≡ cond (starts_with_minus t) (drop 1 t) t
without_minus-cond [] = refl
without_minus-cond (x ∷ xs) = go (x == 45)
  where
    go : (b : Bool) → unwrap_or (cond b (Some xs) None) (x ∷ xs) ≡ cond b xs (x ∷ xs)
    go true = refl
    go false = refl

same_without_minus : (t : Text) → starts_with_minus t ≡ false → without_minus t ≡ t
same_without_minus t e = without_minus-cond t ∙ ap (λ (b : Bool). cond b (drop 1 t) t) e

-- a number that fits its type is read as it is
number_read : (E : Type 0) (G : List ℕ → Result ℕ E → Type 0) (k low high : ℕ) (t : Text) (r : Option ℕ) → ReadsOne G t r → ((u : List ℕ) (x : Result ℕ E) → G u x → ParsesUnsigned k 10 u x)
    → high < 2 ^ k → IsNumber low high t → r ≡ Some (number t)
number_read E G k low high t (Some n) read only fits is = ap Some (only t (Ok n) read).1
number_read E G k low high t None read only fits is =
    let most : number t ≤ high = is.most in
    absurd (only t (Err read.0) read.1 (is.numeral, omega arith))

-- ---- numbers are no flags, and pass

pub no_minus : (t : Text) → IsNumeral 10 (without_leading_plus t) → starts_with_minus t ≡ false
no_minus [] h = refl
no_minus (x ∷ xs) h = go (x == 45) refl
  where
    go : (b : Bool) → (x == 45) ≡ b → (x == 45) ≡ false
    go false e = e
    go true e =
        let is : x ≡ 45 = eqb-true x 45 e in
        let plus : (x == 43) ≡ false = ne_eqb x 43 (λ f. omega arith) in
        let digits = rw plus at h in
        absurd (omega (arith, digit_from_value x digits.1.0))

pub store_right : (t : Text) → IsNumber 0 MAX_STORE t → value_passes store_rule t ≡ true
store_right t is =
    let most : number t ≤ MAX_STORE = is.most in
    Accepts-accepts false (Unsigned 0 MAX_STORE) t (is.numeral, omega arith, is.least, is.most)

pub shards_right : (t : Text) → IsNumber 1 max_shards t → value_passes shards_rule t ≡ true
shards_right t is =
    let minus = no_minus t is.numeral in
    let least : 1 ≤ number t = is.least in
    let most : number t ≤ max_shards = is.most in
    let passed : IsSignedIn (pos 1) (pos max_shards) t = rw minus (is.numeral, record { sfits = omega arith }, omega (arith, ints), omega (arith, ints)) in
    Accepts-accepts false (Signed (pos 1) (pos max_shards)) t passed

-- ---- the line

abbrev pub end_words : Bool → List Text
end_words false = []
end_words true = codes "--" ∷ []

end_is : (t : Bool) (words : List Text) → with_end t words ≡ words ++ end_words t
end_is false words = sym (append-nil words)
end_is true words = refl

ended : (t : Bool) → (end_words t ≡ []) ⊎ (end_words t ≡ codes "--" ∷ [])
ended false = inl refl
ended true = inr refl

gives : (b : Bool) (v : Text) (j : Bool) → Gives (name_of b) (Some v) (use_words b v j)
gives b v true = inr refl
gives b v false = inl refl

line_of : (words : List Text) (name : Text) (us : Uses) (t : Bool) → words ≡ name ∷ codes "sim" ∷ (words_of us ++ end_words t) → IsLine words (store_text us) (shards_text us)
line_of words name none t is = record {
  name = name;
  store_words = [];
  shards_words = [];
  end = end_words t;
  store_given = refl;
  shards_given = refl;
  ended = ended t;
  in_order = inl is;
}
line_of words name (one true v j) t is = record {
  name = name;
  store_words = use_words true v j;
  shards_words = [];
  end = end_words t;
  store_given = gives true v j;
  shards_given = refl;
  ended = ended t;
  in_order = inl (is ∙ ap (λ (ws : List Text). name ∷ codes "sim" ∷ (ws ++ end_words t)) (sym (append-nil (use_words true v j))));
}
line_of words name (one false v j) t is = record {
  name = name;
  store_words = [];
  shards_words = use_words false v j;
  end = end_words t;
  store_given = refl;
  shards_given = gives false v j;
  ended = ended t;
  in_order = inl is;
}
line_of words name (both true v j w k) t is = record {
  name = name;
  store_words = use_words true v j;
  shards_words = use_words false w k;
  end = end_words t;
  store_given = gives true v j;
  shards_given = gives false w k;
  ended = ended t;
  in_order = inl is;
}
line_of words name (both false v j w k) t is = record {
  name = name;
  store_words = use_words true w k;
  shards_words = use_words false v j;
  end = end_words t;
  store_given = gives true w k;
  shards_given = gives false v j;
  ended = ended t;
  in_order = inr is;
}

store_fits : (us : Uses) → Pass us → IfSome (store_text us) (IsNumber 0 MAX_STORE)
store_fits none p = tt
store_fits (one true v j) p = store_number v p
store_fits (one false v j) p = tt
store_fits (both true v j w k) p = store_number v p.0
store_fits (both false v j w k) p = store_number w p.1

shards_fit : (us : Uses) → Pass us → IfSome (shards_text us) (IsNumber 1 max_shards)
shards_fit none p = tt
shards_fit (one true v j) p = tt
shards_fit (one false v j) p = (shards_number v p).1
shards_fit (both true v j w k) p = (shards_number w p.1).1
shards_fit (both false v j w k) p = (shards_number v p.0).1

-- ---- from a parse

-- what a parse gives `sim`, at words without a fault
pub record GivesSim (words : List Text) (found : Found) : Type 0 where
  pub uses : Uses
  pub pass : Pass uses
  pub line : IsLine words (store_text uses) (shards_text uses)
  pub found_is : rows_of found ≡ fold with_default (rows_of_uses uses) rules
  pub right : fault_of program words ≡ []

gives_sim : (a : App) (words : List Text) (m : ArgMatches) (found : Found) → a ≡ program → (is_simple_and_free a ≡ true → fault_of a words ≡ []) → HasMatchesOf a words m
    → Some (rows_of found) ≡ option_map (λ p. p.1) (subcommand_rows_of m) → GivesSim words found
gives_sim a words m found is free matches below =
    let right : fault_of program words ≡ [] = ap (λ (x : App). fault_of x words) (sym is) ∙ free (ap is_simple_and_free is) in
    let in_sim = enters_command (codes "sim") (store_option ∷ shards_option ∷ []) words right in
    let us = sim_uses in_sim.rest in_sim.right in
    let entered : subcommand_rows_of m ≡ Some (codes "sim", rows_after rules [] in_sim.rest) = (matches (ap is_simple is)).1 ∙ ap (λ (x : App). subcommand_of x words) is ∙ in_sim.entered_is in
    let same : Some (rows_of found) ≡ Some (rows_after rules [] in_sim.rest) = below ∙ ap (option_map (λ p. p.1)) entered in
    record {
      uses = us.uses;
      pass = us.pass;
      line = line_of words in_sim.name us.uses us.has_end
          (in_sim.words_are ∙ ap (λ (ws : List Text). in_sim.name ∷ codes "sim" ∷ ws) (us.words_are ∙ end_is us.has_end (words_of us.uses)));
      found_is = ap (λ (o : Option (List Row)). unwrap_or o []) same ∙ ap (λ (rs : List Row). fold with_default rs rules) us.rows_are;
      right = right;
    }

-- the same of the matches below, which `subcommand` gave
pub gives_below : (a : App) (words : List Text) (m : ArgMatches) (o : Option (Bor Text × Bor ArgMatches)) (p : Bor Text × Bor ArgMatches) → a ≡ program
    → (is_simple_and_free a ≡ true → fault_of a words ≡ []) → HasMatchesOf a words m
    → option_map (λ q. rows_of (found_of q.1.now)) o ≡ option_map (λ q. q.1) (subcommand_rows_of m) → o ≡ Some p → GivesSim words (found_of p.1.now)
gives_below a words m o p is free matches rows met =
    gives_sim a words m (found_of p.1.now) is free matches (ap (option_map (λ (q : Bor Text × Bor ArgMatches). rows_of (found_of q.1.now))) (sym met) ∙ rows)

pub store_got : (E : Type 0) (G : List ℕ → Result ℕ E → Type 0) (words : List Text) (found : Found) (r : Option ℕ) (s : GivesSim words found)
    → ((t : List ℕ) → one_text found (codes "store") ≡ Some t → ReadsOne G t r) → ((u : List ℕ) (x : Result ℕ E) → G u x → ParsesUnsigned 64 10 u x)
    → (r ≡ Some (number_or 1 (store_text s.uses))) × (number_or 1 (store_text s.uses) ≤ MAX_STORE)
store_got E G words found r s read only =
    let t = unwrap_or (store_text s.uses) (codes "1") in
    let is = store_number t (store_passes s.uses s.pass) in
    let text : one_text found (codes "store") ≡ Some t = one_text-rows found (codes "store") ∙ ap (one_of (codes "store")) s.found_is ∙ store_at_end s.uses in
    let same = number_given 1 (codes "1") (store_text s.uses) refl in
    (number_read E G 64 0 MAX_STORE t r (read t text) only (omega arith) is ∙ ap Some same, subst (λ (n : ℕ). n ≤ MAX_STORE) same is.most)

pub shards_got : (E : Type 0) (G : List ℕ → Result ℕ E → Type 0) (words : List Text) (found : Found) (r : Option ℕ) (s : GivesSim words found)
    → ((t : List ℕ) → one_text found (codes "shards") ≡ Some t → ReadsOne G t r) → ((u : List ℕ) (x : Result ℕ E) → G u x → ParsesUnsigned 8 10 u x)
    → (r ≡ Some (number_or 2 (shards_text s.uses))) × (1 ≤ number_or 2 (shards_text s.uses)) × (number_or 2 (shards_text s.uses) ≤ max_shards)
shards_got E G words found r s read only =
    let t = unwrap_or (shards_text s.uses) (codes "2") in
    let is = shards_number t (shards_pass s.uses s.pass) in
    let text : one_text found (codes "shards") ≡ Some t =
    one_text-rows found (codes "shards") ∙ ap (one_of (codes "shards")) s.found_is ∙ shards_at_end s.uses ∙ ap Some (same_without_minus t is.0) in
    let same = number_given 2 (codes "2") (shards_text s.uses) refl in (
      number_read E G 8 1 max_shards t r (read t text) only (omega arith) is.1 ∙ ap Some same,
      subst (λ (n : ℕ). 1 ≤ n) same is.1.least,
      subst (λ (n : ℕ). n ≤ max_shards) same is.1.most,
    )

-- the words ask for the numbers that were read
pub asks_for : (words : List Text) (found : Found) (s : GivesSim words found) (store shards : ℕ) → store ≡ number_or 1 (store_text s.uses) → shards ≡ number_or 2 (shards_text s.uses)
    → AsksFor words store shards
asks_for words found s store shards store_is shards_are = record {
  store_text = store_text s.uses;
  shards_text = shards_text s.uses;
  line = s.line;
  store_fits = store_fits s.uses s.pass;
  shards_fit = shards_fit s.uses s.pass;
  store_is = store_is;
  shards_are = shards_are;
}

pub some_is : (r : Option ℕ) (n : ℕ) → r ≡ Some n → IsSome r
some_is None n e = cc
some_is (Some x) n e = refl

pub some_same : (r : Option ℕ) (n m : ℕ) → r ≡ Some n → r ≡ Some m → n ≡ m
some_same r n m e f = ap (λ (o : Option ℕ). unwrap_or o n) (sym e ∙ f)
