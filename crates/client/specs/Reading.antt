-- What is read of words, and what is made of it.
use Rattle.std.specs.Prelude.{◌≡◌, ◌≤◌, ◌⊎◌, ℕ, true, List, [], ◌∷◌, ◌++◌, length, map, codes, All}
use Rattle.std.specs.Borrow.{Bor}
use Rattle.std.specs.List.{slice_split}
use Rattle.std.specs.Prelude.{◌==◌}
use Rattle.serde_json.specs.Data.{Members, put, no_members, string}
use Rattle.client.specs.declared.form.Change.{Change}
use Rattle.client.specs.declared.form.Change.TheVariants as change
use Rattle.client.specs.declared.form.Condition.{Condition}
use Rattle.client.specs.declared.form.Condition.TheVariants as condition
use Rattle.client.specs.declared.form.Freshness.{Freshness}
use Rattle.client.specs.declared.form.Freshness.TheVariants as freshness
use Rattle.client.specs.declared.mistake.Mistake.{Mistake}
use Rattle.client.specs.declared.mistake.Mistake.TheVariants.{NoMemory}
use Rattle.json_lines.specs.Shapes.{list_with, members_with}
use Rattle.json_lines.specs.Laws.{IsRequest}
use Rattle.json_lines.specs.Lines.{Spells}
use Rattle.refusal.specs.declared.refusal.Refusal.{Refusal}
use Rattle.refusal.specs.declared.refusal.Refusal.TheVariants as refusal
use Rattle.tuples.specs.declared.request.Request.{Request}
use Rattle.tuples.specs.Parsing.{has_byte}
use Rattle.client.specs.Forms.{Asked, Changed, Fresh, HasShort, IsAsked, IsOpened, Short, absent, asked_json, asked_word, at_least, changed_json, changed_word, deleted, exact, exists, fresh_words, if_words, latest, short_fields, since, touched, unsaid}

-- the texts of borrowed words
abbrev pub texts : List (Bor (List ℕ)) → List (List ℕ)
texts = map (λ (w : Bor (List ℕ)). w.now)

-- what stands between the spaces of a line
abbrev pub words_of : List ℕ → List (List ℕ)
words_of text = slice_split (λ b. b == 32) text

-- a line that goes through as it is
abbrev pub IsJson : List ℕ → Type 0
IsJson text = (rest : List ℕ) × (text ≡ 123 ∷ rest)

abbrev pub change_view : Change → Changed
change_view (change.Touch t) = touched t.now
change_view (change.Delete t) = deleted t.now

abbrev pub condition_view : Condition → Asked
condition_view (condition.Since t z) = since t.now z.now
condition_view (condition.Exists t) = exists t.now
condition_view (condition.Absent t) = absent t.now

abbrev pub fresh_view : Freshness → Fresh
fresh_view freshness.Unsaid = unsaid
fresh_view freshness.Latest = latest
fresh_view (freshness.AtLeast z) = at_least z.now
fresh_view (freshness.Exact z) = exact z.now

-- no short form has these words
abbrev pub SpellsNone : List (List ℕ) → Type 0
SpellsNone words = (s : Short) → HasShort words s → ⊥

-- why there is no value: memory, or the words
abbrev pub IsMistaken : Type 0 → Mistake → Type 0
IsMistaken Cause e = (e ≡ NoMemory) ⊎ Cause

-- the words are those of a freshness and what follows it
pub record IsOpening (words : List (List ℕ)) (f : Fresh) (rest : List (List ℕ)) : Type 0 where
  pub whole : words ≡ fresh_words f ++ rest
  pub opened : IsOpened f rest

-- a change does not stand first
abbrev pub BeginsNoChange : List (List ℕ) → Type 0
BeginsNoChange words = (c : Changed) (more : List (List ℕ)) → words ≡ changed_word c ∷ more → ⊥

-- the words are these conditions
abbrev pub AreAsked : List (List ℕ) → List Asked → Type 0
AreAsked words conditions = (words ≡ map asked_word conditions) × All IsAsked conditions

-- the members with those of the freshness
abbrev pub with_fresh : Fresh → Members → Members
with_fresh unsaid ms = ms
with_fresh latest ms = ms
with_fresh (at_least z) ms = put (codes "at_least") (string z) ms
with_fresh (exact z) ms = put (codes "exact") (string z) ms

-- the words are those of a short form, and an empty object has become one of its members
abbrev pub Fills : List (List ℕ) → Members → Members → Type 0
Fills words old new = (s : Short) × HasShort words s × (old ≡ no_members → new ≡ members_with (short_fields s))

-- the changes that stand first were put
abbrev pub PutsChanges : List (List ℕ) → List (List ℕ) → Members → Members → Type 0
PutsChanges words rest old new = (cs : List Changed) × (words ≡ map changed_word cs ++ rest) × (1 ≤ length cs) × BeginsNoChange rest × (new ≡ put (codes "changes") (list_with (map changed_json cs)) old)

-- an empty list of conditions is left out
abbrev pub with_conditions : List Asked → Members → Members
with_conditions [] ms = ms
with_conditions (c ∷ cs) ms = put (codes "conditions") (list_with (map asked_json (c ∷ cs))) ms

abbrev pub PutsConditions : List (List ℕ) → Members → Members → Type 0
PutsConditions words old new = (cs : List Asked) × (words ≡ if_words (map asked_word cs)) × All IsAsked cs × (new ≡ with_conditions cs old)

-- the request that the short form stands for at this store, if there is one, is refused for want of memory alone
abbrev pub IsRefusedForMemory : ℕ → Short → Refusal → Type 0
IsRefusedForMemory store s e = (r : Request) → IsRequest r → Spells store (short_fields s) r → e ≡ refusal.NoMemory

-- why no request is read of the line of a text: memory, a line feed, words of no short form, or those of one that stands for no request
abbrev pub IsUnread : ℕ → List ℕ → Refusal → Type 0
IsUnread store text e = (e ≡ refusal.NoMemory) ⊎ ((has_byte 10 text ≡ true) ⊎ (SpellsNone (words_of text) ⊎ ((s : Short) × HasShort (words_of text) s × IsRefusedForMemory store s e)))
