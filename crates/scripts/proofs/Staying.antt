-- A script none of whose lines carries the store over is one life of it.
use Rattle.std.proofs.Common.{◌≡◌, inl, inr, ℕ, List, [], ◌∷◌, ◌++◌, All, Option, Result, refl, subst, sym}
use Rattle.std.proofs.lemmas.List.Elements.{All-head, All-tail}
use Rattle.std.specs.Global.{Vec}
use Rattle.names.specs.declared.node_name.NodeName.{NodeName}
use Rattle.names.specs.declared.call_name.CallName.{CallName}
use Rattle.cluster.specs.declared.event.What.{What}
use Rattle.cluster.specs.declared.step.Step.{Step}
use Rattle.device.specs.declared.tear.Tear.{Tear}
use Rattle.journal.specs.declared.refused.Bank.{Bank}
use Rattle.script_text.specs.declared.command.Command.{Command}
use Rattle.script_text.specs.declared.command.Command.TheVariants.{Pass, Ask, Start, Handle, Care, Rows, Restart, Fail, Reshard}
use Rattle.script_text.specs.Lines.{Spells}
use Rattle.refusal.specs.declared.refusal.Refusal.{Refusal}
use Rattle.scripts.specs.Answering.{Tries}
use Rattle.scripts.specs.Runs.{Prints, RepliesTo}
use Rattle.scripts.specs.Scripts.{RunningView, ScriptView}
use Rattle.tuples.specs.declared.version.Version.{Version}
use Rattle.scripts.specs.Deeds.{Deed, Story, done_for, joined, one_life, reply_done, trying_done}
use Rattle.scripts.specs.Staying.{Stays}

-- it is the story of one life
abbrev IsOne : {S : Type 0} → Story S → Type 0
IsOne story = (deeds : List Deed) × (story ≡ one_life deeds)

joined_ones : {S : Type 0} (a b : Story S) → IsOne a → IsOne b → IsOne (joined a b)
joined_ones a b one other = (one.0 ++ other.0, subst (λ s. joined s b ≡ one_life (one.0 ++ other.0)) (sym one.1) (subst (λ s. joined (one_life one.0) s ≡ one_life (one.0 ++ other.0)) (sym other.1) refl))

module _ {S : Type 0} (takes : S → Step → Option What → S → Type 0) (nexts : S → ℕ → Option CallName → Type 0) (shows : S → ℕ → Result (Vec Version) Refusal → Type 0) (sets : S → NodeName → Bank → ℕ → Tear → S → Type 0) (reshards : S → ℕ → Result (Unit {0}) Refusal → S → S → Type 0) (shards_of : S → ℕ) where
  trying_one : (id shards : ℕ) (names : List (List ℕ)) (line : List ℕ) (c : Command) (old : RunningView S) (text : List ℕ) (new : RunningView S) → Stays line → Spells id shards names line c
      → (t : Tries takes nexts shows sets reshards shards_of id c old text new) → IsOne (trying_done takes nexts shows sets reshards shards_of id c old text new t)
  trying_one id shards names line c old text new stays spells (inr p) = (_, refl)
  trying_one id shards names line Pass old text new stays spells (inl p) = (_, refl)
  trying_one id shards names line (Ask request) old text new stays spells (inl p) = (_, refl)
  trying_one id shards names line (Care care) old text new stays spells (inl p) = (_, refl)
  trying_one id shards names line (Start name request) old text new stays spells (inl p) = (_, refl)
  trying_one id shards names line (Handle flow h) old text new stays spells (inl p) = (_, refl)
  trying_one id shards names line (Rows shard) old text new stays spells (inl p) = (_, refl)
  trying_one id shards names line (Restart node) old text new stays spells (inl p) = (_, refl)
  trying_one id shards names line (Fail f) old text new stays spells (inl p) = (_, refl)
  trying_one id shards names line (Reshard count) old text new stays spells (inl p) = absurd (stays count spells.0)

  reply_one : (line : List ℕ) (a : ScriptView S) (text : List ℕ) (b : ScriptView S) → Stays line → (r : RepliesTo takes nexts shows sets reshards shards_of line a text b)
      → IsOne (reply_done takes nexts shows sets reshards shards_of line a text b r)
  reply_one line a text b stays (inl (small, (id, inl p))) = trying_one a.id (shards_of a.running.store) a.running.names line p.0 a.running text b.running stays p.1 p.2
  reply_one line a text b stays (inl (small, (id, inr p))) = ([], refl)
  reply_one line a text b stays (inr p) = ([], refl)

  pub lines_one : (a : ScriptView S) (lines : List (List ℕ)) (text : List ℕ) (c : ScriptView S) (p : Prints takes nexts shows sets reshards shards_of a lines text c) → All Stays lines
      → IsOne (done_for takes nexts shows sets reshards shards_of a lines text c p)
  lines_one a [] text c p stay = ([], refl)
  lines_one a (line ∷ lines) text c p stay =
      joined_ones (reply_done takes nexts shows sets reshards shards_of line a p.1 p.0 p.3) (done_for takes nexts shows sets reshards shards_of p.0 lines p.2 c p.4)
      (reply_one line a p.1 p.0 (All-head Stays line lines stay) p.3) (lines_one p.0 lines p.2 c p.4 (All-tail Stays line lines stay))
