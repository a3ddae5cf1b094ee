-- Which command the first word of a line tells.
use Rattle.std.proofs.Common.{◌≡◌, ℕ, List, [], ◌∷◌, ◌++◌, codes, refl, sym, ◌∙◌}
use Rattle.names.specs.declared.care.Care.{Care}
use Rattle.names.specs.declared.care.Care.TheVariants as care
use Rattle.script_text.specs.declared.command.Command.TheVariants as command
use Rattle.journal.specs.declared.refused.Bank.{Bank}
use Rattle.names.specs.declared.call_name.CallName.{CallName}
use Rattle.script_text.specs.declared.fail.Failure.{Failure}
use Rattle.names.specs.declared.node_name.NodeName.{NodeName}
use Rattle.script_text.specs.declared.flow.Handling.{Handling}
use Rattle.script_text.specs.declared.flow.Handling.TheVariants as handling
use Rattle.script_text.specs.Lines.{SpellNoOrder, SpellsCare, SpellsFailure, SpellsHandling, SpellsReshard, SpellsRestart, SpellsRows}
use Rattle.script_text.specs.Shapes.{ArePartsShaped, HasShape, Shape, check, read, watch, write}
use Rattle.std.specs.Fmt.{decimal}
use Rattle.script_text.specs.Texts.{IsNode, bank_text, node_text}
use Rattle.script_text.specs.Words.{if_words}
use Rattle.tuples.proofs.Lists.{heads, tails, other_first}

-- no order is begun with `start`
pub start_is_no_order : (store shards : ℕ) (running ws : List (List ℕ)) → SpellNoOrder store shards running (codes "start" ∷ ws)
start_is_no_order store shards running ws command.Pass o h = h
start_is_no_order store shards running ws (command.Ask r) o h = o
start_is_no_order store shards running ws (command.Start name r) o h = o
start_is_no_order store shards running ws (command.Handle flow handling.Turn) o h = other_first 0 (codes "start") (codes "turn") ws _ refl h.2
start_is_no_order store shards running ws (command.Handle flow (handling.Until call)) o h = other_first 0 (codes "start") (codes "until") ws _ refl h.2
start_is_no_order store shards running ws (command.Handle flow handling.Run) o h = other_first 0 (codes "start") (codes "run") ws _ refl h.2
start_is_no_order store shards running ws (command.Handle flow handling.Cancel) o h = other_first 0 (codes "start") (codes "cancel") ws _ refl h.2
start_is_no_order store shards running ws (command.Care (care.Flush node)) o h = other_first 0 (codes "start") (codes "flush") ws _ refl h.0
start_is_no_order store shards running ws (command.Care (care.Checkpoint node)) o h = other_first 0 (codes "start") (codes "checkpoint") ws _ refl h.0
start_is_no_order store shards running ws (command.Care (care.Learn shard)) o h = other_first 0 (codes "start") (codes "learn") ws _ refl h.0
start_is_no_order store shards running ws (command.Care (care.Resolve shard)) o h = other_first 0 (codes "start") (codes "resolve") ws _ refl h.0
start_is_no_order store shards running ws (command.Care (care.Raise place)) o h = other_first 0 (codes "start") (codes "raise") ws _ refl h.0
start_is_no_order store shards running ws (command.Care (care.Collect shard)) o h = other_first 0 (codes "start") (codes "collect") ws _ refl h.0
start_is_no_order store shards running ws (command.Rows shard) o h = other_first 0 (codes "start") (codes "rows") ws _ refl h.0
start_is_no_order store shards running ws (command.Restart node) o h = other_first 0 (codes "start") (codes "restart") ws _ refl h.0
start_is_no_order store shards running ws (command.Fail f) o h = other_first 0 (codes "start") (codes "fail") ws _ refl h.0
start_is_no_order store shards running ws (command.Reshard count) o h = other_first 0 (codes "start") (codes "reshard") ws _ refl h.0

-- nor a request
pub start_is_no_request : (ws : List (List ℕ)) (shape : Shape) → HasShape (codes "start" ∷ ws) shape → ⊥
start_is_no_request ws (write changes conditions) h = other_first 0 (codes "start") (codes "write") ws _ refl h.0
start_is_no_request ws (read f sets) h = other_first 0 (codes "start") (codes "read") ws _ refl h.0
start_is_no_request ws (check f tuple) h = other_first 0 (codes "start") (codes "check") ws _ refl h.0
start_is_no_request ws (watch from limit names) h = other_first 0 (codes "start") (codes "watch") ws _ refl h.0

-- only a write is begun with `write`
pub write_only : (ws : List (List ℕ)) → ((changes conditions : List (List ℕ)) → ws ≡ changes ++ if_words conditions → ArePartsShaped changes conditions → ⊥) → (shape : Shape) → HasShape (codes "write" ∷ ws) shape → ⊥
write_only ws none (write changes conditions) h = none changes conditions (tails (codes "write") (codes "write") ws _ h.0) h.1
write_only ws none (read f sets) h = other_first 0 (codes "write") (codes "read") ws _ refl h.0
write_only ws none (check f tuple) h = other_first 0 (codes "write") (codes "check") ws _ refl h.0
write_only ws none (watch from limit names) h = other_first 1 (codes "write") (codes "watch") ws _ refl h.0

-- what is none of its kinds is no order
pub no_order : (store shards : ℕ) (running words : List (List ℕ)) → ((flow : ℕ) (h : Handling) → SpellsHandling running words flow h → ⊥) → ((c : Care) → SpellsCare shards words c → ⊥)
    → ((shard : ℕ) → SpellsRows shards words shard → ⊥) → ((node : _) → SpellsRestart shards words node → ⊥) → ((f : _) → SpellsFailure shards words f → ⊥)
    → ((count : ℕ) → SpellsReshard words count → ⊥) → SpellNoOrder store shards running words
no_order store shards running words handles cares rows restarts fails reshards command.Pass o h = h
no_order store shards running words handles cares rows restarts fails reshards (command.Ask r) o h = o
no_order store shards running words handles cares rows restarts fails reshards (command.Start name r) o h = o
no_order store shards running words handles cares rows restarts fails reshards (command.Handle flow x) o h = handles flow x h
no_order store shards running words handles cares rows restarts fails reshards (command.Care c) o h = cares c h
no_order store shards running words handles cares rows restarts fails reshards (command.Rows shard) o h = rows shard h
no_order store shards running words handles cares rows restarts fails reshards (command.Restart node) o h = restarts node h
no_order store shards running words handles cares rows restarts fails reshards (command.Fail f) o h = fails f h
no_order store shards running words handles cares rows restarts fails reshards (command.Reshard count) o h = reshards count h

-- words that do nothing of the four
pub no_handling : (running words : List (List ℕ)) → ((name : List ℕ) → words ≡ codes "turn" ∷ name ∷ [] → ⊥) → ((name : List ℕ) → words ≡ codes "run" ∷ name ∷ [] → ⊥) → ((name : List ℕ) → words ≡ codes "cancel" ∷ name ∷ [] → ⊥)
    → ((flow : ℕ) (call : CallName) → SpellsHandling running words flow (handling.Until call) → ⊥) → (flow : ℕ) (h : Handling) → SpellsHandling running words flow h → ⊥
no_handling running words turns runs cancels untils flow handling.Turn h = turns h.0 h.2
no_handling running words turns runs cancels untils flow (handling.Until call) h = untils flow call h
no_handling running words turns runs cancels untils flow handling.Run h = runs h.0 h.2
no_handling running words turns runs cancels untils flow handling.Cancel h = cancels h.0 h.2

-- a failure of no bank
pub no_bank : (shards : ℕ) (words : List (List ℕ)) (bank n tear : List ℕ) → words ≡ codes "fail" ∷ bank ∷ n ∷ tear ∷ [] → ((p : NodeName × Bank) → IsNode shards p.0 → bank ≡ bank_text p.0 p.1 → ⊥) → (f : Failure) → SpellsFailure shards words f → ⊥
no_bank shards words bank n tear whole none f h =
    none (f.node, f.bank) h.1 (heads bank (bank_text f.node f.bank) _ _ (tails (codes "fail") (codes "fail") _ _ (sym whole ∙ h.0)))

-- words that are those of no care
pub no_care : (shards : ℕ) (words : List (List ℕ)) → ((word : List ℕ) → words ≡ codes "flush" ∷ word ∷ [] → ⊥) → ((word : List ℕ) → words ≡ codes "checkpoint" ∷ word ∷ [] → ⊥)
    → ((word : List ℕ) → words ≡ codes "learn" ∷ word ∷ [] → ⊥) → ((word : List ℕ) → words ≡ codes "resolve" ∷ word ∷ [] → ⊥) → ((word : List ℕ) → words ≡ codes "raise" ∷ word ∷ [] → ⊥)
    → ((word : List ℕ) → words ≡ codes "collect" ∷ word ∷ [] → ⊥) → (c : Care) → SpellsCare shards words c → ⊥
no_care shards words flush checkpoint learn resolve raise collect (care.Flush node) h = flush (node_text node) h.0
no_care shards words flush checkpoint learn resolve raise collect (care.Checkpoint node) h = checkpoint (node_text node) h.0
no_care shards words flush checkpoint learn resolve raise collect (care.Learn shard) h = learn (decimal shard) h.0
no_care shards words flush checkpoint learn resolve raise collect (care.Resolve shard) h = resolve (decimal shard) h.0
no_care shards words flush checkpoint learn resolve raise collect (care.Raise place) h = raise (decimal place) h.0
no_care shards words flush checkpoint learn resolve raise collect (care.Collect shard) h = collect (decimal shard) h.0
