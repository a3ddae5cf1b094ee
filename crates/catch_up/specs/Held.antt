-- What is held on the way of a shard to a place.
use Rattle.std.specs.Prelude.{ℕ, Bool, Option}
use Rattle.decisions.specs.Values.{BatchValue}
use Rattle.names.specs.declared.call_name.CallName.{CallName}

-- between two calls: the shard, the place to which it is brought, the decisions on their way to it, and the name of the call that comes next; if
-- that one fetches decisions, the place after which; and whether the shard was flushed for those that it is handed next
pub record CatchUpValue : Type 0 where
  pub shard : ℕ
  pub to : ℕ
  pub batch : Option BatchValue
  pub next : CallName
  pub from : Option ℕ
  pub flushed : Bool

-- The call that is out: how far has the shard learned; the decisions after a place; that the shard learn, for the first time or again after a flush;
-- that flush.
pub data Awaited : Type 0 where
  learned : Awaited
  decisions : Awaited
  learning : Bool → Awaited
  flushing : Awaited

-- while a call is out: what is held then, with that call's name, and which call it is
pub record CatchUpCallValue : Type 0 where
  pub held : CatchUpValue
  pub awaited : Awaited
