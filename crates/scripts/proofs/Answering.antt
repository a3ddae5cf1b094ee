-- How a line is answered.
use Rattle.std.proofs.Common.{◌≡◌, ◌≤◌, ℕ, List, [], ◌∷◌, ◌++◌, length, Bool, true, false, sym, ap, ◌∙◌, subst, inl, refl, Option}
use Rattle.std.proofs.lemmas.Bool.{both_ways}
use Rattle.std.specs.Global.{Vec}
use Rattle.std.specs.Io.KnownBytes.{Appends}
use Rattle.std.specs.Prelude.{Result}
use Rattle.tuples.specs.Limits.{max_line}
use Rattle.names.specs.declared.node_name.NodeName.{NodeName}
use Rattle.names.specs.declared.call_name.CallName.{CallName}
use Rattle.cluster.specs.declared.event.What.{What}
use Rattle.cluster.specs.declared.step.Step.{Step}
use Rattle.device.specs.declared.tear.Tear.{Tear}
use Rattle.journal.specs.declared.refused.Bank.{Bank}
use Rattle.line_io.specs.Outputs.{HasBegun}
use Rattle.refusal.specs.declared.refusal.Refusal.{Refusal}
use Rattle.scripts.specs.Answering.{Answers}
use Rattle.scripts.specs.Scripts.{ScriptView}
use Rattle.tuples.specs.declared.version.Version.{Version}
use Rattle.scripts.specs.Runs.{EndsPart, EndsWith, RepliesTo, Tells, TellsPart}
use Rattle.scripts.proofs.RunLemmas.{prints_one}

module _ {S : Type 0} (takes : S → Step → Option What → S → Type 0) (nexts : S → ℕ → Option CallName → Type 0) (shows : S → ℕ → Result (Vec Version) Refusal → Type 0) (sets : S → NodeName → Bank → ℕ → Tear → S → Type 0) (reshards : S → ℕ → Result (Unit {0}) Refusal → S → S → Type 0) (shards_of : S → ℕ) (line : List ℕ) (a b : ScriptView S) (before after : Option (List ℕ)) where
  -- the script has put its answer after nothing
  module _ (cleared out bytes : List ℕ) (none : cleared ≡ []) (answered : (text : List ℕ) × Answers takes nexts shows sets reshards shards_of line a text b × (out ≡ cleared ++ text)) (same : bytes ≡ out) where
    replied : length line ≤ max_line → RepliesTo takes nexts shows sets reshards shards_of line a bytes b
    replied small =
        let is : bytes ≡ answered.0 = same ∙ answered.2 ∙ ap (λ (l : List ℕ). l ++ answered.0) none in
        inl (small, subst (λ (t : List ℕ). Answers takes nexts shows sets reshards shards_of line a t b) (sym is) answered.1)

    pub tells : Appends before after bytes → length line ≤ max_line → Tells takes nexts shows sets reshards shards_of line a b before after
    tells written small = record { text = bytes; replies = replied small; written = written }

    pub tells_part : HasBegun before after bytes → length line ≤ max_line → TellsPart takes nexts shows sets reshards shards_of line a b before after
    tells_part written small = record { text = bytes; replies = replied small; written = written }

  -- a line that has bytes ends the script
  pub ends : (line ≡ [] → ⊥) → Tells takes nexts shows sets reshards shards_of line a b before after → EndsWith takes nexts shows sets reshards shards_of line a b before after
  ends some h = by_line line some h
    where
      by_line : (l : List ℕ) → (l ≡ [] → ⊥) → Tells takes nexts shows sets reshards shards_of l a b before after → EndsWith takes nexts shows sets reshards shards_of l a b before after
      by_line [] some h = absurd (some refl)
      by_line (x ∷ xs) some h = record { text = h.text; prints = prints_one takes nexts shows sets reshards shards_of a (x ∷ xs) h.text b h.replies; written = h.written }

  pub ends_part : (line ≡ [] → ⊥) → TellsPart takes nexts shows sets reshards shards_of line a b before after → EndsPart takes nexts shows sets reshards shards_of line a b before after
  ends_part some h = by_line line some h
    where
      by_line : (l : List ℕ) → (l ≡ [] → ⊥) → TellsPart takes nexts shows sets reshards shards_of l a b before after → EndsPart takes nexts shows sets reshards shards_of l a b before after
      by_line [] some h = absurd (some refl)
      by_line (x ∷ xs) some h = record { text = h.text; prints = prints_one takes nexts shows sets reshards shards_of a (x ∷ xs) h.text b h.replies; written = h.written }

-- a line that was found to have bytes
pub has_bytes : (r : Bool) (line : List ℕ) → (line ≡ [] → r ≡ true) → r ≡ false → line ≡ [] → ⊥
has_bytes r line found isnt none = both_ways r isnt (found none)
