-- What a shard's contract says of a batch, as one fact for an answer and one for a refusal; and of the rows of a read.
use Rattle.std.proofs.Common.{◌≡◌, ◌↔◌, ◌≤◌, ◌<◌, ◌+◌, ℕ, Bool, true, false, length, ap, refl, Result, Ok, Err, IfOk, IfErr, IsErr, OnOk, IsErrOf}
use Rattle.std.specs.Global.{Vec}
use Rattle.tuples.specs.declared.tuple.Tuple.{Tuple}
use Rattle.tuples.specs.declared.tupleset.Tupleset.{Tupleset}
use Rattle.tuples.specs.declared.object.Userset.{Userset}
use Rattle.tuples.specs.declared.user.User.{User}
use Rattle.tuples.specs.Reads.{IsSelection}
use Rattle.tuples.specs.Walking.{IsCheckSelection}
use Rattle.tuples.specs.Versions.{there_at}
use Rattle.refusal.specs.declared.refusal.Refusal.{Refusal}
use Rattle.refusal.specs.declared.refusal.Refusal.TheVariants.{Damaged, Full}
use Rattle.device.specs.Device.{State}
use Rattle.journal.specs.Records.{HasNoRoom}
use Rattle.decisions.specs.Values.{BatchValue}
use Rattle.shard.specs.declared.replies.ReadReply.{ReadReply}
use Rattle.shard.specs.declared.replies.ReadReply.TheVariants.{Rows}
use Rattle.shard.specs.Shards.{AreLearnable, IsUp, ShardView, Stages, learning, memory, unlearned}
use Rattle.shard.specs.Calls.{LearnRefused, LearnsAt, ReadsAt, ReadsForCheckAt}

same_error : (r : Result Bool Refusal) (d e : Refusal) → r ≡ Err d → r ≡ Err e → d ≡ e
same_error r d e p q = cc

module _ {D : Type 0} (state : D → State) (honest : D → Type 0) (old new : ShardView D) (b : BatchValue) where
  pub learns : (r : Result Bool Refusal)
      → (b.from + length b.writes ≤ (memory old).learned → IfOk r (λ k. (k ≡ true) × (new ≡ old)) × (IsErr r → ⊥))
      → ((memory old).learned < b.from → IfOk r (λ k. (k ≡ false) × (new ≡ old)) × (IsErr r → ⊥))
      → (b.from ≤ (memory old).learned → (memory old).learned < b.from + length b.writes → IfOk r (λ k. (k ≡ true) × Stages old (learning old.me (memory old) b.from b.writes) new × IsUp state honest new))
      → (b.from ≤ (memory old).learned → (memory old).learned < b.from + length b.writes → OnOk r (AreLearnable old.me (memory old) (unlearned (memory old) b.from b.writes)))
      → IfOk r (λ k. LearnsAt state honest old b k new)
  learns (Ok k) known ahead more learnable = record {
    known = λ le. (known le).0;
    ahead = λ lt. (ahead lt).0;
    more = λ g. let m = more g.from g.to in (m.0, m.1, m.2, learnable g.from g.to);
  }
  learns (Err e) known ahead more learnable = tt

  pub learn_refused : (r : Result Bool Refusal)
      → (b.from + length b.writes ≤ (memory old).learned → IfOk r (λ k. (k ≡ true) × (new ≡ old)) × (IsErr r → ⊥))
      → ((memory old).learned < b.from → IfOk r (λ k. (k ≡ false) × (new ≡ old)) × (IsErr r → ⊥))
      → (b.from ≤ (memory old).learned → (memory old).learned < b.from + length b.writes → IsErrOf r Damaged ↔ (AreLearnable old.me (memory old) (unlearned (memory old) b.from b.writes) → ⊥))
      → (IsErrOf r Full → HasNoRoom old.staged (learning old.me (memory old) b.from b.writes))
      → IfErr r (LearnRefused old b)
  learn_refused (Ok k) known ahead damaged full = tt
  learn_refused (Err e) known ahead damaged full = record {
    unknown = λ le. (known le).1 refl;
    not_ahead = λ lt. (ahead lt).1 refl;
    damaged = λ g. let d = damaged g.from g.to in (λ is. d.0 (ap Err is), λ no. same_error (Err e) e Damaged refl (d.1 no));
    full = λ is. full (ap Err is);
  }

module _ {D : Type 0} (v : ShardView D) (place : ℕ) (set : Tupleset) where
  pub reads : (ts : Vec Tuple) (r : Result ReadReply Refusal)
      → IfOk r (λ reply. reply ≡ Rows ts → (place ≤ (memory v).learned) × ((memory v).horizon ≤ place) × IsSelection (there_at (memory v).rows place) set ts.items)
      → IfOk r (λ reply. reply ≡ Rows ts → ReadsAt v place set ts.items)
  reads ts (Ok reply) rows = λ is. let f = rows is in record { learned = f.0; above = f.1; rows_are = f.2 }
  reads ts (Err e) rows = tt

module _ {D : Type 0} (v : ShardView D) (place : ℕ) (x : Userset) (u : User) where
  pub reads_for_check : (ts : Vec Tuple) (r : Result ReadReply Refusal)
      → IfOk r (λ reply. reply ≡ Rows ts → (place ≤ (memory v).learned) × ((memory v).horizon ≤ place) × IsCheckSelection (there_at (memory v).rows place) x u ts.items)
      → IfOk r (λ reply. reply ≡ Rows ts → ReadsForCheckAt v place x u ts.items)
  reads_for_check ts (Ok reply) rows = λ is. let f = rows is in record { learned = f.0; above = f.1; rows_are = f.2 }
  reads_for_check ts (Err e) rows = tt
