-- A shard under its lock, as its callers see it, and what each of its calls leaves of it.
use Rattle.std.specs.Prelude.{◌≡◌, ◌≤◌, ℕ, max, Bool, true, false, List, [], length, Option, Some, None, Result, Ok}
use mathlib.Core.List.{IsPrefix}
use Rattle.atomic_table.specs.Seated.{TableId}
use Rattle.tuples.specs.declared.entry.Entry.{Entry}
use Rattle.tuples.specs.Reads.{IsSelection}
use Rattle.tuples.specs.Walking.{IsCheckSelection}
use Rattle.device.specs.Device.{State}
use Rattle.published.specs.Known.{Known}
use Rattle.refusal.specs.declared.refusal.Refusal.{Refusal}
use Rattle.shard.specs.declared.replies.ReadReply.{ReadReply}
use Rattle.shard.specs.declared.replies.ReadReply.TheVariants.{Rows}
use Rattle.calls.specs.declared.call.NodeCall.TheVariants.{Shard}
use Rattle.calls.specs.declared.call.ShardCall.{ShardCall}
use Rattle.calls.specs.declared.call.ShardCall.TheVariants.{Checkpoint, Collect, Flush, Learn, Read, ReadForCheck}
use Rattle.calls.specs.declared.reply.Reply.{Reply}
use Rattle.calls.specs.Asking.{Answered, MayAsk}
use Rattle.calls.specs.Belonging.{IsReplyTo}
use Rattle.calls.specs.Views.{NodeView, bank_len_of, coordinator, refused, shard}
use Rattle.laws.specs.Shards.{there_of}
use Rattle.laws.specs.Worlds.{shard_node}
use Rattle.ties.specs.ShardTies.{IsShardTied}
use Rattle.ties.specs.TellingLaws.{IsBatchOf}

-- the words of no store
abbrev pub no_table : TableId
no_table = record { words = 0; slots = 0; views_name = 0; atom = 0; block = 0; offset = 0; slot_names = [] }

-- The node, its number among the shards, and what the pass beside it knows. The node is always there; only while it is opened again it is away.
pub record Side (D : Type 0) : Type 0 where
  pub node : Option (NodeView D)
  pub number : ℕ
  pub pass : Known Entry

-- a pass of the same words knows what this one knew
pub record IsLater (old new : Known Entry) : Type 0 where
  pub table : new.table ≡ old.table
  pub seen : IsPrefix old.seen new.seen
  pub horizon : old.horizon ≤ new.horizon

-- a pass knows what either of two knew
pub record KnowsBoth (one other new : Known Entry) : Type 0 where
  pub first : IsLater one new
  pub second : IsLater other new

-- a pass knows just what either of two knew
pub record KnowsOf (one other new : Known Entry) : Type 0 where
  pub seen_one : IsPrefix one.seen new.seen
  pub seen_other : IsPrefix other.seen new.seen
  pub horizon : new.horizon ≡ max one.horizon other.horizon

-- the node is there, and tied to what the pass beside it knows
abbrev pub IsTiedIn : {D : Type 0} → (D → State) → (D → Type 0) → ℕ → ℕ → ℕ → Option (NodeView D) → Known Entry → Type 0
IsTiedIn state honest store shards s (Some node) pass = IsShardTied state honest store shards s node pass.seen pass.horizon
IsTiedIn state honest store shards s None pass = ⊥

-- the node is there, and it is that of shard s, or its opening was refused
abbrev pub IsOfShard : {D : Type 0} → ℕ → ℕ → ℕ → Option (NodeView D) → Type 0
IsOfShard store shards s (Some (shard v)) = v.me ≡ shard_node store shards s
IsOfShard store shards s (Some (refused e a b)) = Unit {0}
IsOfShard store shards s (Some (coordinator v)) = ⊥
IsOfShard store shards s None = ⊥

-- how many bytes the current bank of the node has
abbrev pub bank_len_in : {D : Type 0} → Option (NodeView D) → ℕ
bank_len_in (Some node) = bank_len_of node
bank_len_in None = 0

-- a call that needs the devices
abbrev pub is_flush : ShardCall → Bool
is_flush Flush = true
is_flush Checkpoint = true
is_flush call = false

-- a call that hands a shard something of the list: a batch, or a horizon
abbrev pub hands_over : ShardCall → Bool
hands_over (Learn batch) = true
hands_over (Collect heads) = true
hands_over call = false

-- what a call hands a shard is of the list, or of the horizon, that a pass has seen
abbrev pub HandsSeen : Known Entry → ShardCall → Type 0
HandsSeen pass (Learn batch) = IsBatchOf pass.seen batch
HandsSeen pass (Collect heads) = heads.horizon ≤ pass.horizon
HandsSeen pass call = Unit {0}

-- What a shard's pass and its caller's know after a call. If it hands something over, both know what either knew; else they are as they were.
abbrev pub MeetFor : Bool → Known Entry → Known Entry → Known Entry → Known Entry → Type 0
MeetFor true one other now_one now_other = KnowsBoth one other now_one × KnowsBoth one other now_other
MeetFor false one other now_one now_other = (now_one ≡ one) × (now_other ≡ other)

-- the node of shard s is there, and may be asked this
abbrev pub MayAskIn : {D : Type 0} → ℕ → Option (NodeView D) → ShardCall → Type 0
MayAskIn s (Some node) call = MayAsk node (Shard s call)
MayAskIn s None call = ⊥

module _ {D : Type 0} (state : D → State) (honest : D → Type 0) (moment : D → ℕ) (left_since : D → ℕ → List ℕ → Type 0) where
  -- the node of shard s was there, and has answered the call
  abbrev pub AnsweredIn : ℕ → Option (NodeView D) → ShardCall → Reply → Option (NodeView D) → Type 0
  AnsweredIn s (Some old) call reply (Some new) = Answered state honest moment left_since old (Shard s call) reply new
  AnsweredIn s old call reply new = ⊥

  -- the node has answered the call, and is the same shard
  pub record SideAnswers (old : Side D) (call : ShardCall) (reply : Reply) (new : Side D) : Type 0 where
    pub answered : AnsweredIn old.number old.node call reply new.node
    pub belongs : IsReplyTo (Shard old.number call) reply
    pub number : new.number ≡ old.number

-- Rows that a read tells at a place are those that its tupleset selects of the list there, of the tuples of this shard, or what its check asks of a userset,
-- about a user; the place is one of the list.
abbrev pub TellsRows : ℕ → ℕ → List Entry → ShardCall → Result ReadReply Refusal → Type 0
TellsRows shards s seen (Read place set) (Ok (Rows rows)) = (place ≤ length seen) × IsSelection (there_of shards s seen place) set rows.items
TellsRows shards s seen (ReadForCheck place x u) (Ok (Rows rows)) = (place ≤ length seen) × IsCheckSelection (there_of shards s seen place) x u rows.items
TellsRows shards s seen call answer = Unit {0}
