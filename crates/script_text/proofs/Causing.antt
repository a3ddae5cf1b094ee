-- Which refusal each thing that is wrong with a line has.
use Rattle.std.proofs.Common.{◌≡◌, ℕ, ◌≤◌, Bool, true, false, eqb, not, List, [], ◌∷◌, ◌++◌, codes, length, refl, sym, ap, ◌∙◌, subst, ◌⊎◌, inl, inr, Bor, arith}
use Rattle.std.specs.List.{All, list_all, list_any}
use Rattle.std.proofs.lemmas.Bool.{false≢true, both_ways}
use Rattle.std.proofs.lemmas.Bool.Decides.{nat_tests}
use Rattle.std.proofs.lemmas.List.{length-map}
use Rattle.std.proofs.lemmas.List.Elements.{All-cons, All-head, All-nil, All-tail}
use Rattle.tuples.specs.Changes.{AreDistinct, changed, conditioned}
use Rattle.tuples.specs.declared.change.Change.{Change}
use Rattle.tuples.specs.declared.change.Condition.{Condition}
use Rattle.refusal.specs.declared.refusal.Refusal.{Refusal}
use Rattle.refusal.specs.declared.refusal.Refusal.TheVariants.{BadRequest, TooLarge, Repeated, NoMemory}
use Rattle.tuples.specs.declared.tupleset.Tupleset.{Tupleset}
use Rattle.tuples.proofs.Lists.{tails}
use Rattle.json_lines.specs.Causes.{AreSets, ListCause}
use Rattle.json_lines.specs.Spelling.{IsMisspelled}
use Rattle.script_text.specs.Causes.{AreFew, HaveNoShape, IsAsked, ShapeCause, WordsCause, WriteCause}
use Rattle.script_text.specs.declared.command.Command.{Command}
use Rattle.script_text.specs.declared.command.Command.TheVariants as command
use Rattle.script_text.specs.Lines.{IsFree, SpellNoOrder, SpellsWords}
use Rattle.script_text.specs.Shapes.{AreListed, ArePartsShaped, HasShape, Shape, check, read, watch, write}
use Rattle.script_text.specs.Words.{AreBehind, AreChanges, AreConditions, AreFull, HasConditionShape, if_words, is_marked, texts}
use Rattle.script_text.proofs.Firsts.{start_is_no_order, start_is_no_request, write_only}
use Rattle.script_text.proofs.Spelled.{spelled_shape}
use Rattle.script_text.proofs.Writing.{cut_marked, if_behind, if_words_once}

-- ---- lists of texts

full_texts : (words : List (Bor (List ℕ))) → list_any (λ w. eqb (length w.now) 0) words ≡ false → AreFull (texts words)
full_texts [] none = All-nil (λ word. 1 ≤ length word)
full_texts (w ∷ words) none =
    let here : 1 ≤ length w.now = grind (arith, nat_tests) in
    let rest : list_any (λ (x : Bor (List ℕ)). eqb (length x.now) 0) words ≡ false = grind (arith, nat_tests) in
    All-cons (λ word. 1 ≤ length word) w.now (texts words) here (full_texts words rest)

some_full : (words : List (Bor (List ℕ))) → AreFull (texts words) → list_any (λ w. eqb (length w.now) 0) words ≡ false
some_full [] full = refl
some_full (w ∷ words) full =
    let here : 1 ≤ length w.now = All-head (λ word. 1 ≤ length word) w.now (texts words) full in
    let rest = some_full words (All-tail (λ word. 1 ≤ length word) w.now (texts words) full) in
    grind (arith, nat_tests)

-- words of which none is empty
pub listed : (words : List (Bor (List ℕ))) (gap : Bool) → 1 ≤ length words → gap ≡ list_any (λ w. eqb (length w.now) 0) words → (not gap ≡ true → AreListed (texts words)) × (AreListed (texts words) → not gap ≡ true)
listed words true some is = (λ e. absurd (false≢true e), λ l. absurd (both_ways (list_any (λ w. eqb (length w.now) 0) words) (some_full words l.1) (sym is)))
listed words false some is =
    let long = length-map words (λ (w : Bor (List ℕ)). w.now) in
    (λ e. (omega arith, full_texts words (sym is)), λ l. refl)

pub some_words : (words : List (Bor (List ℕ))) (none : Bool) → none ≡ eqb (length words) 0 → none ≡ false → 1 ≤ length words
some_words words none e was = grind (arith, nat_tests)

-- ---- a write's words

-- words after the changes that are not conditions
pub no_conditions : (ws front rest : List (List ℕ)) → ws ≡ front ++ rest → list_all is_marked front ≡ true → AreBehind rest → ((conditions : List (List ℕ)) → rest ≡ if_words conditions → ⊥)
    → (shape : Shape) → HasShape (codes "write" ∷ ws) shape → ⊥
no_conditions ws front rest whole marked behind none =
    write_only ws (λ cs ds e parts. none ds (cut_marked front rest cs (if_words ds) marked parts.marked behind (if_behind ds) (sym whole ∙ e)).1)

-- parts that are not in their shape
pub no_parts : (ws front rest conditions : List (List ℕ)) → ws ≡ front ++ rest → list_all is_marked front ≡ true → AreBehind rest → rest ≡ if_words conditions → (ArePartsShaped front conditions → ⊥)
    → (shape : Shape) → HasShape (codes "write" ∷ ws) shape → ⊥
no_parts ws front rest conditions whole marked behind is none = write_only ws (λ cs ds e parts.
    let cut = cut_marked front rest cs (if_words ds) marked parts.marked behind (if_behind ds) (sym whole ∙ e) in
    let same = if_words_once conditions ds (sym is ∙ cut.1) in
    none (subst (λ l. ArePartsShaped l conditions) (sym cut.0) (subst (λ l. ArePartsShaped cs l) (sym same) parts)))

-- and those that are
pub parts_words : (ws front rest conditions : List (List ℕ)) → ws ≡ front ++ rest → rest ≡ if_words conditions → codes "write" ∷ ws ≡ codes "write" ∷ front ++ if_words conditions
parts_words ws front rest conditions whole is = ap (λ l. codes "write" ∷ l) (whole ∙ ap (λ l. front ++ l) is)

pub no_changes : (words : List (Bor (List ℕ))) (conditions : List (List ℕ)) → eqb (length words) 0 ≡ true → ArePartsShaped (texts words) conditions → ⊥
no_changes words conditions none parts =
    let long = length-map words (λ (w : Bor (List ℕ)). w.now) in
    let some = parts.some in
    let empty : length words ≡ 0 = grind (arith, nat_tests) in
    omega arith

pub shaped : (changes conditions : List (Bor (List ℕ))) (none : Bool) → list_all is_marked (texts changes) ≡ true → none ≡ eqb (length changes) 0 → none ≡ false → All HasConditionShape (texts conditions)
    → ArePartsShaped (texts changes) (texts conditions)
shaped changes conditions none marked e was asked =
    let long = length-map changes (λ (w : Bor (List ℕ)). w.now) in
    let some : 1 ≤ length changes = grind (arith, nat_tests) in
    record { some = omega arith; marked = marked; asked = asked }

-- ---- its refusals

pub changes_misspelled : (cs ds : List (List ℕ)) (e : Refusal) → AreFew cs ds → IsMisspelled (AreChanges cs) e → WriteCause cs ds e
changes_misspelled cs ds e few (inl r) = subst (WriteCause cs ds) (sym r.0) (few, λ changes conditions are asked. r.1 changes are)
changes_misspelled cs ds e few (inr was) = subst (WriteCause cs ds) (sym was) tt

pub conditions_misspelled : (cs ds : List (List ℕ)) (e : Refusal) → AreFew cs ds → IsMisspelled (AreConditions ds) e → WriteCause cs ds e
conditions_misspelled cs ds e few (inl r) = subst (WriteCause cs ds) (sym r.0) (few, λ changes conditions are asked. r.1 conditions asked)
conditions_misspelled cs ds e few (inr was) = subst (WriteCause cs ds) (sym was) tt

-- what the write itself refuses
pub write_refused : (cs ds : List (List ℕ)) (changes : List Change) (conditions : List Condition) (e : Refusal) → AreFew cs ds → AreChanges cs changes → AreConditions ds conditions
    → (e ≡ BadRequest → ⊥) → (e ≡ TooLarge → ⊥) → (e ≡ Repeated → AreDistinct (changed changes) × AreDistinct (conditioned conditions) → ⊥) → (e ≡ BadRequest) ⊎ ((e ≡ TooLarge) ⊎ (e ≡ Repeated)) → WriteCause cs ds e
write_refused cs ds changes conditions e few are asked no_shape no_size repeated (inl was) = absurd (no_shape was)
write_refused cs ds changes conditions e few are asked no_shape no_size repeated (inr (inl was)) = absurd (no_size was)
write_refused cs ds changes conditions e few are asked no_shape no_size repeated (inr (inr was)) =
    subst (WriteCause cs ds) (sym was) (few, (changes, conditions, are, asked, λ a b. repeated was (a, b)))

-- tuplesets of which one is not valid
pub sets_misspelled : (store : ℕ) (sets : List (List ℕ)) (Has : (List ℕ → Type 0) → Type 0) (e : Refusal) → length sets ≤ 16 → IsMisspelled (AreSets sets) e → ListCause store (length sets) ((qs : List Tupleset) × AreSets sets qs) Has e
sets_misspelled store sets Has e few (inl r) = subst (ListCause store (length sets) ((qs : List Tupleset) × AreSets sets qs) Has) (sym r.0) (few, λ spelled. r.1 spelled.0 spelled.1)
sets_misspelled store sets Has e few (inr was) = subst (ListCause store (length sets) ((qs : List Tupleset) × AreSets sets qs) Has) (sym was) tt

-- ---- lines

no_shape_cause : (store : ℕ) (shape : Shape) → ShapeCause store shape BadRequest → ⊥
no_shape_cause store (write cs ds) h = h
no_shape_cause store (read f sets) h = h
no_shape_cause store (check f tuple) h = h
no_shape_cause store (watch from limit names) h = h

-- a request that is refused, whether it is begun under a name or not
pub asked_cause : (store shards : ℕ) (running words request : List (List ℕ)) (shape : Shape) (e : Refusal) → IsAsked running words request → HasShape request shape → ShapeCause store shape e → WordsCause store shards running words e
asked_cause store shards running words request shape BadRequest asked has h = absurd (no_shape_cause store shape h)
asked_cause store shards running words request shape NoMemory asked has h = tt
asked_cause store shards running words request shape _ asked has h = (request, shape, asked, has, h)

-- no order, and no request, whatever its texts are: so no command
no_shape : (store shards : ℕ) (running words : List (List ℕ)) → SpellNoOrder store shards running words → ((request : List (List ℕ)) (shape : Shape) → IsAsked running words request → HasShape request shape → ⊥) → HaveNoShape store shards running words
no_shape store shards running words none shapeless = record { nothing = λ c h. refuse c h; no_request = shapeless }
  where
    refuse : (c : Command) → SpellsWords store shards running words c → ⊥
    refuse command.Pass h = h
    refuse (command.Ask r) h = let s = spelled_shape store words r h in shapeless words s.0 (inl refl) s.1
    refuse (command.Start name r) h = let s = spelled_shape store h.0 r h.3 in shapeless h.0 s.0 (inr (name, h.2, h.1)) s.1
    refuse (command.Handle flow x) h = none (command.Handle flow x) tt h
    refuse (command.Care c) h = none (command.Care c) tt h
    refuse (command.Rows shard) h = none (command.Rows shard) tt h
    refuse (command.Restart node) h = none (command.Restart node) tt h
    refuse (command.Fail f) h = none (command.Fail f) tt h
    refuse (command.Reshard count) h = none (command.Reshard count) tt h

-- words after `start` that are not a free name and a request
pub start_refused : (store shards : ℕ) (running ws : List (List ℕ)) → ((name : List ℕ) (rest : List (List ℕ)) → ws ≡ name ∷ rest → IsFree running name → (shape : Shape) → HasShape rest shape → ⊥) → WordsCause store shards running (codes "start" ∷ ws) BadRequest
start_refused store shards running ws none = no_shape store shards running (codes "start" ∷ ws) (start_is_no_order store shards running ws) (λ request shape asked has. refuse request shape asked has)
  where
    refuse : (request : List (List ℕ)) (shape : Shape) → IsAsked running (codes "start" ∷ ws) request → HasShape request shape → ⊥
    refuse request shape (inl same) has = start_is_no_request ws shape (subst (λ l. HasShape l shape) (sym same) has)
    refuse request shape (inr (name, free, same)) has = none name request (tails (codes "start") (codes "start") ws (name ∷ request) same) free shape has

-- after `start` and its name there is no request
pub start_shapeless : (store shards : ℕ) (running : List (List ℕ)) (words rest : List (Bor (List ℕ))) (name : Bor (List ℕ)) → words ≡ name ∷ rest → ((shape : Shape) → HasShape (texts rest) shape → ⊥)
    → WordsCause store shards running (codes "start" ∷ texts words) BadRequest
start_shapeless store shards running words rest name cut none = start_refused store shards running (texts words)
    (λ other more e free shape has. none shape (subst (λ l. HasShape l shape) (sym (tails name.now other (texts rest) more (sym (ap texts cut) ∙ e))) has))

-- a request after `start` that is refused
pub start_cause : (store shards : ℕ) (running : List (List ℕ)) (words rest : List (Bor (List ℕ))) (name : Bor (List ℕ)) (shape : Shape) (e : Refusal) → words ≡ name ∷ rest → IsFree running name.now → HasShape (texts rest) shape → ShapeCause store shape e
    → WordsCause store shards running (codes "start" ∷ texts words) e
start_cause store shards running words rest name shape e cut free has h =
    asked_cause store shards running (codes "start" ∷ texts words) (texts rest) shape e (inr (name.now, free, ap (λ l. codes "start" ∷ texts l) cut)) has h

-- words that are not a command's
pub words_refused : (store shards : ℕ) (running words : List (List ℕ)) → SpellNoOrder store shards running words → ((shape : Shape) → HasShape words shape → ⊥) → ((rest : List (List ℕ)) → words ≡ codes "start" ∷ rest → ⊥) → WordsCause store shards running words BadRequest
words_refused store shards running words none shapeless no_start = no_shape store shards running words none (λ request shape asked has. refuse request shape asked has)
  where
    refuse : (request : List (List ℕ)) (shape : Shape) → IsAsked running words request → HasShape request shape → ⊥
    refuse request shape (inl same) has = shapeless shape (subst (λ l. HasShape l shape) (sym same) has)
    refuse request shape (inr (name, free, same)) has = no_start (name ∷ request) same
