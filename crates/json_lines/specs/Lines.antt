-- Which line spells which request.
use Rattle.std.specs.Prelude.{◌≡◌, ◌≤◌, ◌⊎◌, ℕ, List, [], ◌∷◌, length, map, codes, Some, None, IsUtf8}
use Rattle.serde_json.specs.Data.{Data, string}
use Rattle.serde_json.specs.Read.{read}
use Rattle.tuples.specs.declared.change.Change.{Change}
use Rattle.tuples.specs.declared.change.Change.TheVariants as change
use Rattle.tuples.specs.declared.change.Condition.{Condition}
use Rattle.tuples.specs.declared.change.Want.{Want}
use Rattle.tuples.specs.declared.change.Want.TheVariants as want
use Rattle.tuples.specs.Texts.{tuple_text, tupleset_text}
use Rattle.zookie.specs.Zookies.{zookie_text}
use Rattle.tuples.specs.declared.freshness.Freshness.{Freshness}
use Rattle.tuples.specs.declared.freshness.Freshness.TheVariants.{Latest, AtLeast, Exact}
use Rattle.tuples.specs.declared.request.Request.{Request}
use Rattle.tuples.specs.declared.request.Request.TheVariants.{Write, Read, Check, Watch}
use Rattle.tuples.specs.Limits.{max_asked, max_watched}
use Rattle.json_lines.specs.Shapes.{Field, asks_sets, asks_tuple, change_with, object_with, question_with, since_with, texts_json, want_with, watch_with, write_with}

-- the line is the JSON of an object with these members
abbrev pub IsObject : List ℕ → List Field → Type 0
IsObject line fields = IsUtf8 line × (read line ≡ Some (object_with fields))

abbrev pub written_change : Change → Data
written_change (change.Touch t) = change_with (codes "touch") (tuple_text t)
written_change (change.Delete t) = change_with (codes "delete") (tuple_text t)

-- a place is written as the zookie of this store
abbrev pub written_want : ℕ → Want → List ℕ → Data
written_want store (want.NotAfter place) tuple = since_with (zookie_text store place) tuple
written_want store want.Exists tuple = want_with (codes "exists") tuple
written_want store want.Absent tuple = want_with (codes "absent") tuple

abbrev pub written_condition : ℕ → Condition → Data
written_condition store c = written_want store c.want (tuple_text c.tuple)

abbrev pub written_freshness : ℕ → Freshness → List Field
written_freshness store Latest = []
written_freshness store (AtLeast place) = (codes "at_least", string (zookie_text store place)) ∷ []
written_freshness store (Exact place) = (codes "exact", string (zookie_text store place)) ∷ []

-- an empty list of conditions may be left out
abbrev pub SpellsWrite : ℕ → List Field → List Change → List Condition → Type 0
SpellsWrite store fields changes conditions =
    (fields ≡ write_with (map written_change changes) (Some (map (written_condition store) conditions)))
    ⊎ ((conditions ≡ []) × (fields ≡ write_with (map written_change changes) None))

-- the members are those of the request at this store
abbrev pub Spells : ℕ → List Field → Request → Type 0
Spells store fields (Write w) = SpellsWrite store fields w.changes w.conditions
Spells store fields (Read freshness sets) = (fields ≡ question_with (written_freshness store freshness) (codes "read") (asks_sets (map tupleset_text sets.items))) × (1 ≤ length sets.items) × (length sets.items ≤ max_asked)
Spells store fields (Check freshness tuple) = fields ≡ question_with (written_freshness store freshness) (codes "check") (asks_tuple (tuple_text tuple))
Spells store fields (Watch from limit namespaces) = (fields ≡ watch_with (zookie_text store from) limit (texts_json namespaces.items)) × (1 ≤ limit) × (limit ≤ max_watched) × (1 ≤ length namespaces.items) × (length namespaces.items ≤ max_asked)
