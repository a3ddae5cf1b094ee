-- How a run goes on.
use Rattle.std.proofs.Common.{ℕ, List, [], ◌∷◌, ◌++◌, refl, sym, ap, ◌∙◌, subst, append_assoc, append-nil, inl, inr, Option}
use Rattle.std.proofs.KnownBytes.{Appends-nil, Appends-trans, Consumes-nil, Consumes-trans}
use Rattle.std.proofs.lemmas.List.Elements.{All-nil, All-push}
use Rattle.std.specs.Global.{Vec}
use Rattle.std.specs.Io.KnownBytes.{Appends, Consumes}
use Rattle.std.specs.Prelude.{Result}
use Rattle.names.specs.declared.node_name.NodeName.{NodeName}
use Rattle.names.specs.declared.call_name.CallName.{CallName}
use Rattle.cluster.specs.declared.event.What.{What}
use Rattle.cluster.specs.declared.step.Step.{Step}
use Rattle.device.specs.declared.tear.Tear.{Tear}
use Rattle.journal.specs.declared.refused.Bank.{Bank}
use Rattle.line_io.specs.Blocks.{HasRead, HasTaken}
use Rattle.line_io.specs.Lines.{HasNoFeed}
use Rattle.line_io.specs.Outputs.{HasBegun}
use Rattle.line_io.specs.declared.input.Ending.TheVariants.{Feed, Input}
use Rattle.line_io.specs.declared.line.Line.{Line}
use Rattle.line_io.proofs.Writing.{begun_all}
use Rattle.line_io.proofs.Gathering.{read_more}
use Rattle.refusal.specs.declared.refusal.Refusal.{Refusal}
use Rattle.scripts.specs.Scripts.{ScriptView}
use Rattle.tuples.specs.declared.version.Version.{Version}
use Rattle.scripts.specs.Runs.{Broke, EndsPart, EndsWith, Prints, Ran, RepliesTo, BetweenLines, Tells, TellsPart, joined, last_line}

-- ---- what is written

begun_more : (before mid after : Option (List ℕ)) (text bytes : List ℕ) → Appends before mid text → HasBegun mid after bytes → HasBegun before after (text ++ bytes)
begun_more before mid after text bytes first h = record {
  sent = text ++ h.sent;
  unsent = h.unsent;
  whole = ap (λ (l : List ℕ). text ++ l) h.whole ∙ sym (append_assoc text h.sent h.unsent);
  written = Appends-trans before mid after text h.sent first h.written;
}

-- ---- one more line

module _ {S : Type 0} (takes : S → Step → Option What → S → Type 0) (nexts : S → ℕ → Option CallName → Type 0) (shows : S → ℕ → Result (Vec Version) Refusal → Type 0) (sets : S → NodeName → Bank → ℕ → Tear → S → Type 0) (reshards : S → ℕ → Result (Unit {0}) Refusal → S → S → Type 0) (shards_of : S → ℕ) where
  prints_more : (a : ScriptView S) (lines : List (List ℕ)) (text : List ℕ) (b : ScriptView S) (more : List (List ℕ)) (rest : List ℕ) (c : ScriptView S)
      → Prints takes nexts shows sets reshards shards_of a lines text b → Prints takes nexts shows sets reshards shards_of b more rest c → Prints takes nexts shows sets reshards shards_of a (lines ++ more) (text ++ rest) c
  prints_more a [] text b more rest c p q =
      subst (λ (t : List ℕ). Prints takes nexts shows sets reshards shards_of a more (t ++ rest) c) (sym p.0) (subst (λ (x : ScriptView S). Prints takes nexts shows sets reshards shards_of x more rest c) p.1 q)
  prints_more a (line ∷ lines) text b more rest c p q =
      (p.0, p.1, p.2 ++ rest, p.3, prints_more p.0 lines p.2 b more rest c p.4 q, ap (λ (t : List ℕ). t ++ rest) p.5 ∙ append_assoc p.1 p.2 rest)

  pub prints_one : (a : ScriptView S) (line text : List ℕ) (b : ScriptView S) → RepliesTo takes nexts shows sets reshards shards_of line a text b → Prints takes nexts shows sets reshards shards_of a (line ∷ []) text b
  prints_one a line text b r = (b, text, [], r, (refl, refl), sym (append-nil text))

  module _ (in0 in1 in2 out0 out1 out2 : Option (List ℕ)) (a b c : ScriptView S) (unread new : List ℕ) (line : Line) where
    pub run_more : BetweenLines takes nexts shows sets reshards shards_of in0 in1 out0 out1 a b unread → (t : HasTaken Feed in1 in2 unread new line) → Tells takes nexts shows sets reshards shards_of t.bytes b c out1 out2
        → BetweenLines takes nexts shows sets reshards shards_of in0 in2 out0 out2 a c new
    run_more s t h = record {
      lines = s.lines ++ t.bytes ∷ [];
      text = s.text ++ h.text;
      read = subst (Consumes in0 in2) (read_more s.lines unread t.read t.bytes new t.ends) (Consumes-trans in0 in1 in2 (joined s.lines ++ unread) t.read s.read t.consumed);
      ended = All-push HasNoFeed s.lines t.bytes s.ended t.no_feed;
      prints = prints_more a s.lines s.text b (t.bytes ∷ []) h.text c s.prints (prints_one b t.bytes h.text c h.replies);
      written = Appends-trans out0 out1 out2 s.text h.text s.written h.written;
    }

    read_to_end : (s : BetweenLines takes nexts shows sets reshards shards_of in0 in1 out0 out1 a b unread) (t : HasTaken Input in1 in2 unread new line) → Consumes in0 in2 (joined s.lines ++ t.bytes)
    read_to_end s t = subst (Consumes in0 in2) (append_assoc (joined s.lines) unread t.read ∙ ap (λ (l : List ℕ). joined s.lines ++ l) t.ends.1)
        (Consumes-trans in0 in1 in2 (joined s.lines ++ unread) t.read s.read t.consumed)

    pub ran : BetweenLines takes nexts shows sets reshards shards_of in0 in1 out0 out1 a b unread → (t : HasTaken Input in1 in2 unread new line) → EndsWith takes nexts shows sets reshards shards_of t.bytes b c out1 out2
        → Ran takes nexts shows sets reshards shards_of in0 in2 out0 out2 a c
    ran s t h = record {
      lines = s.lines;
      last = t.bytes;
      text = s.text ++ h.text;
      read = read_to_end s t;
      at_end = t.ends.0;
      ended = s.ended;
      unended = t.no_feed;
      prints = prints_more a s.lines s.text b (last_line t.bytes) h.text c s.prints h.prints;
      written = Appends-trans out0 out1 out2 s.text h.text s.written h.written;
    }

    -- a read failed
    pub broke_reading : BetweenLines takes nexts shows sets reshards shards_of in0 in1 out0 out1 a b unread → HasRead in1 in2 → Broke takes nexts shows sets reshards shards_of in0 in2 out0 out1 a b
    broke_reading s r = record {
      lines = s.lines;
      rest = unread ++ r.0;
      answered = s.lines;
      text = s.text;
      read = subst (Consumes in0 in2) (append_assoc (joined s.lines) unread r.0) (Consumes-trans in0 in1 in2 (joined s.lines ++ unread) r.0 s.read r.1);
      ended = s.ended;
      which = inl refl;
      prints = s.prints;
      written = begun_all out0 out1 s.text s.written;
    }

    -- the write of an answer failed
    pub broke_telling : BetweenLines takes nexts shows sets reshards shards_of in0 in1 out0 out1 a b unread → (t : HasTaken Feed in1 in2 unread new line) → TellsPart takes nexts shows sets reshards shards_of t.bytes b c out1 out2
        → Broke takes nexts shows sets reshards shards_of in0 in2 out0 out2 a c
    broke_telling s t h = record {
      lines = s.lines ++ t.bytes ∷ [];
      rest = new;
      answered = s.lines ++ t.bytes ∷ [];
      text = s.text ++ h.text;
      read = subst (Consumes in0 in2) (read_more s.lines unread t.read t.bytes new t.ends) (Consumes-trans in0 in1 in2 (joined s.lines ++ unread) t.read s.read t.consumed);
      ended = All-push HasNoFeed s.lines t.bytes s.ended t.no_feed;
      which = inl refl;
      prints = prints_more a s.lines s.text b (t.bytes ∷ []) h.text c s.prints (prints_one b t.bytes h.text c h.replies);
      written = begun_more out0 out1 out2 s.text h.text s.written h.written;
    }

    -- that of the last answer failed
    pub broke_ending : BetweenLines takes nexts shows sets reshards shards_of in0 in1 out0 out1 a b unread → (t : HasTaken Input in1 in2 unread new line) → EndsPart takes nexts shows sets reshards shards_of t.bytes b c out1 out2
        → Broke takes nexts shows sets reshards shards_of in0 in2 out0 out2 a c
    broke_ending s t h = record {
      lines = s.lines;
      rest = t.bytes;
      answered = s.lines ++ last_line t.bytes;
      text = s.text ++ h.text;
      read = read_to_end s t;
      ended = s.ended;
      which = inr (t.ends.0, t.no_feed, refl);
      prints = prints_more a s.lines s.text b (last_line t.bytes) h.text c s.prints h.prints;
      written = begun_more out0 out1 out2 s.text h.text s.written h.written;
    }

  module _ (in0 in1 out0 out1 : Option (List ℕ)) (a b : ScriptView S) (unread : List ℕ) where
    -- it ended between two lines
    pub broke_here : BetweenLines takes nexts shows sets reshards shards_of in0 in1 out0 out1 a b unread → Broke takes nexts shows sets reshards shards_of in0 in1 out0 out1 a b
    broke_here s = record {
      lines = s.lines;
      rest = unread;
      answered = s.lines;
      text = s.text;
      read = s.read;
      ended = s.ended;
      which = inl refl;
      prints = s.prints;
      written = begun_all out0 out1 s.text s.written;
    }

    -- memory for the run was refused
    pub broke_first : Broke takes nexts shows sets reshards shards_of in0 in0 out0 out0 a a
    broke_first = record {
      lines = [];
      rest = [];
      answered = [];
      text = [];
      read = Consumes-nil in0;
      ended = All-nil HasNoFeed;
      which = inl refl;
      prints = (refl, refl);
      written = begun_all out0 out0 [] (Appends-nil out0);
    }
