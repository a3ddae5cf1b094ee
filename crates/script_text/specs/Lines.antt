-- Which line spells which command.
use Rattle.std.specs.Prelude.{◌≡◌, ◌≤◌, ◌<◌, ◌^◌, ℕ, List, [], ◌∷◌, ◌++◌, length, map, codes, All, Some, slice_get}
use Rattle.std.specs.Fmt.{decimal}
use Rattle.tuples.specs.Changes.{IsWrite}
use Rattle.tuples.specs.Names.{IsName}
use Rattle.tuples.specs.Texts.{IsTuple, IsTupleset, tuple_text, tupleset_text}
use Rattle.zookie.specs.Zookies.{zookie_text}
use Rattle.tuples.specs.declared.request.Request.{Request}
use Rattle.tuples.specs.declared.request.Request.TheVariants.{Write, Read, Check, Watch}
use Rattle.tuples.specs.Limits.{max_asked}
use Rattle.names.specs.declared.care.Care.{Care}
use Rattle.names.specs.declared.care.Care.TheVariants as care
use Rattle.script_text.specs.declared.command.Command.{Command}
use Rattle.script_text.specs.declared.fail.Failure.{Failure}
use Rattle.script_text.specs.declared.flow.Handling.{Handling}
use Rattle.script_text.specs.declared.flow.Handling.TheVariants as handling
use Rattle.names.specs.declared.node_name.NodeName.{NodeName}
use Rattle.script_text.specs.declared.command.Command.TheVariants as command
use Rattle.names.specs.Names.{call_text}
use Rattle.script_text.specs.Texts.{IsCount, IsFlowName, IsFreshness, IsLimit, IsNode, IsPlace, IsShardCount, IsTear, bank_text, change_text, condition_text, fresh_text, node_text, tear_text}
use Rattle.script_text.specs.Words.{AreWanted, if_words, words_of}

-- the words of a request at this store
abbrev pub request_words : ℕ → Request → List (List ℕ)
request_words store (Write w) = codes "write" ∷ map change_text w.changes ++ if_words (map condition_text w.conditions)
request_words store (Read freshness sets) = codes "read" ∷ fresh_text store freshness ∷ map tupleset_text sets.items
request_words store (Check freshness tuple) = codes "check" ∷ fresh_text store freshness ∷ tuple_text tuple ∷ []
request_words store (Watch from limit namespaces) = codes "watch" ∷ zookie_text store from ∷ decimal limit ∷ namespaces.items

-- at least one, and at most as many as a request may have
abbrev pub AreSome : {A : Type 0} → List A → Type 0
AreSome xs = (1 ≤ length xs) × (length xs ≤ max_asked)

-- its parts are in their grammar and within their limits
abbrev pub IsRequest : Request → Type 0
IsRequest (Write w) = IsWrite w.changes w.conditions × AreWanted w.conditions
IsRequest (Read freshness sets) = IsFreshness freshness × AreSome sets.items × All IsTupleset sets.items
IsRequest (Check freshness tuple) = IsFreshness freshness × IsTuple tuple
IsRequest (Watch from limit namespaces) = (from < 2 ^ 64) × IsLimit limit × AreSome namespaces.items × All IsName namespaces.items

abbrev pub SpellsRequest : ℕ → List (List ℕ) → Request → Type 0
SpellsRequest store words r = (words ≡ request_words store r) × IsRequest r

-- a name that no running flow has
abbrev pub IsFree : List (List ℕ) → List ℕ → Type 0
IsFree running name = IsFlowName name × All (λ other. other ≡ name → ⊥) running

-- what is done with the flow of this name
abbrev pub handling_words : List ℕ → Handling → List (List ℕ)
handling_words name handling.Turn = codes "turn" ∷ name ∷ []
handling_words name (handling.Until call) = codes "until" ∷ name ∷ call_text call ∷ []
handling_words name handling.Run = codes "run" ∷ name ∷ []
handling_words name handling.Cancel = codes "cancel" ∷ name ∷ []

-- the flow is named by its number among those that run
abbrev pub SpellsHandling : List (List ℕ) → List (List ℕ) → ℕ → Handling → Type 0
SpellsHandling running words flow h = (name : List ℕ) × (slice_get running flow ≡ Some name) × (words ≡ handling_words name h)

abbrev pub care_words : Care → List (List ℕ)
care_words (care.Flush node) = codes "flush" ∷ node_text node ∷ []
care_words (care.Checkpoint node) = codes "checkpoint" ∷ node_text node ∷ []
care_words (care.Learn shard) = codes "learn" ∷ decimal shard ∷ []
care_words (care.Resolve shard) = codes "resolve" ∷ decimal shard ∷ []
care_words (care.Raise place) = codes "raise" ∷ decimal place ∷ []
care_words (care.Collect shard) = codes "collect" ∷ decimal shard ∷ []

abbrev pub IsCare : ℕ → Care → Type 0
IsCare shards (care.Flush node) = IsNode shards node
IsCare shards (care.Checkpoint node) = IsNode shards node
IsCare shards (care.Learn shard) = shard < shards
IsCare shards (care.Resolve shard) = shard < shards
IsCare shards (care.Raise place) = IsPlace place
IsCare shards (care.Collect shard) = shard < shards

abbrev pub SpellsCare : ℕ → List (List ℕ) → Care → Type 0
SpellsCare shards words c = (words ≡ care_words c) × IsCare shards c

abbrev pub SpellsRows : ℕ → List (List ℕ) → ℕ → Type 0
SpellsRows shards words shard = (words ≡ codes "rows" ∷ decimal shard ∷ []) × (shard < shards)

abbrev pub SpellsRestart : ℕ → List (List ℕ) → NodeName → Type 0
SpellsRestart shards words node = (words ≡ codes "restart" ∷ node_text node ∷ []) × IsNode shards node

abbrev pub SpellsFailure : ℕ → List (List ℕ) → Failure → Type 0
SpellsFailure shards words f = (words ≡ codes "fail" ∷ bank_text f.node f.bank ∷ decimal f.n ∷ tear_text f.tear ∷ []) × IsNode shards f.node × IsCount f.n × IsTear f.tear

-- the number of shards that the store is to have, whatever it has
abbrev pub SpellsReshard : List (List ℕ) → ℕ → Type 0
SpellsReshard words count = (words ≡ codes "reshard" ∷ decimal count ∷ []) × IsShardCount count

-- the words of a line spell the command, at a store of this many shards if flows of these names run; a line that is passed has none
abbrev pub SpellsWords : ℕ → ℕ → List (List ℕ) → List (List ℕ) → Command → Type 0
SpellsWords store shards running words command.Pass = ⊥
SpellsWords store shards running words (command.Ask r) = SpellsRequest store words r
SpellsWords store shards running words (command.Start name r) = (rest : List (List ℕ)) × (words ≡ codes "start" ∷ name ∷ rest) × IsFree running name × SpellsRequest store rest r
SpellsWords store shards running words (command.Handle flow h) = SpellsHandling running words flow h
SpellsWords store shards running words (command.Care c) = SpellsCare shards words c
SpellsWords store shards running words (command.Rows shard) = SpellsRows shards words shard
SpellsWords store shards running words (command.Restart node) = SpellsRestart shards words node
SpellsWords store shards running words (command.Fail f) = SpellsFailure shards words f
SpellsWords store shards running words (command.Reshard count) = SpellsReshard words count

-- a command that is not a request
abbrev pub IsOrder : Command → Type 0
IsOrder (command.Ask r) = ⊥
IsOrder (command.Start name r) = ⊥
IsOrder _ = Unit {0}

-- the words are no such command's
abbrev pub SpellNoOrder : ℕ → ℕ → List (List ℕ) → List (List ℕ) → Type 0
SpellNoOrder store shards running words = (c : Command) → IsOrder c → SpellsWords store shards running words c → ⊥

-- a line that nothing is done for: an empty one, or one that begins with a semicolon
abbrev pub IsPassed : List ℕ → Type 0
IsPassed [] = Unit {0}
IsPassed (b ∷ line) = b ≡ 59

-- the line spells the command
abbrev pub Spells : ℕ → ℕ → List (List ℕ) → List ℕ → Command → Type 0
Spells store shards running line command.Pass = IsPassed line
Spells store shards running line c = SpellsWords store shards running (words_of line) c
