-- How a session goes on.
use Rattle.std.proofs.Common.{◌≡◌, ℕ, true, false, List, [], ◌∷◌, ◌++◌, refl, sym, ap, ◌∙◌, subst, append_assoc, append-nil, inl, inr, Option}
use Rattle.std.proofs.KnownBytes.{Appends-trans}
use Rattle.std.proofs.lemmas.List.Elements.{All-nil, All-push}
use Rattle.std.specs.Io.KnownBytes.{Appends, Consumes, IsAtEnd}
use Rattle.std.specs.Prelude.{◌⊎◌, ◌≢◌, Result}
use Rattle.refusal.specs.declared.refusal.Refusal.{Refusal}
use Rattle.json_lines.specs.declared.answer.Answer.{Answer}
use Rattle.line_io.specs.Blocks.{TakesPart}
use Rattle.line_io.specs.declared.line.Line.{Line}
use Rattle.line_io.specs.Lines.{HasNoFeed, Holds}
use Rattle.line_io.specs.Outputs.{HasBegun}
use Rattle.line_io.proofs.Feeds.{no_feed_in}
use Rattle.line_io.proofs.Gathering.{read_more}
use Rattle.sessions.specs.Machines.{AnswersLine, IsSession, OfPhase, Standing, phase_after}
use Rattle.sessions.specs.Sessions.{Broke, Giving, RepliesTo, Served, Session, end_text, joined, reply_line}
use Rattle.sessions.specs.declared.machine.Phase.{Phase}
use Rattle.sessions.specs.declared.machine.Phase.TheVariants.{Open, Ended, Broken}
use Rattle.sessions.specs.declared.machine.Turn.{Turn}
use Rattle.sessions.specs.declared.machine.Turn.TheVariants as turn

-- ---- one line more

session_more : {A : Type 0} (store : ℕ) (gives : Giving A) (a : A) (lines : List (List ℕ)) (text : List ℕ) (b : A) (line : List ℕ) (reply : Result Answer Refusal) (c : A)
    → Session store gives a lines text b → RepliesTo store gives b line reply c → Session store gives a (lines ++ line ∷ []) (text ++ reply_line store reply) c
session_more {A} store gives a [] text b line reply c s r =
    (reply, c, [], subst (λ (x : A). RepliesTo store gives x line reply c) s.1 r, (refl, refl), ap (λ (l : List ℕ). l ++ reply_line store reply) s.0 ∙ sym (append-nil (reply_line store reply)))
session_more store gives a (first ∷ lines) text b line reply c s r = (
  s.0,
  s.1,
  s.2 ++ reply_line store reply,
  s.3,
  session_more store gives s.1 lines s.2 b line reply c s.4 r,
  ap (λ (l : List ℕ). l ++ reply_line store reply) s.5 ∙ append_assoc (reply_line store s.0) s.2 (reply_line store reply),
)

module _ {A : Type 0} (store : ℕ) (gives : Giving A) (first : A) where
  pub at_first : (line : Line) (left waiting : List ℕ) (p : Phase) → Holds line [] → left ≡ [] → waiting ≡ [] → p ≡ Open → Standing store gives first [] [] line left waiting p first
  at_first line left waiting p held none empty is_open = record {
    lines = [];
    front = [];
    text = [];
    end = [];
    lost = [];
    read = sym none;
    ended = All-nil HasNoFeed;
    begun = All-nil (λ b. b ≢ 10);
    held = held;
    session = (refl, refl);
    whole = sym empty ∙ sym (append-nil waiting);
    of_phase = subst (λ (q : Phase). OfPhase q [] left [] []) (sym is_open) (refl, refl);
  }

module _ {A : Type 0} (store : ℕ) (gives : Giving A) (first : A) (got written : List ℕ) (line : Line) (left waiting : List ℕ) (now : A) where
  abbrev Stood : Phase → Type 0
  Stood p = Standing store gives first got written line left waiting p now

  -- while lines are answered no text is lost
  settled : (s : Stood Open) → s.text ≡ written ++ waiting
  settled s =
      sym (append-nil s.text)
      ∙ ap (λ (l : List ℕ). s.text ++ l) (sym s.of_phase.0)
      ∙ s.whole
      ∙ ap (λ (l : List ℕ). written ++ (waiting ++ l)) s.of_phase.1
      ∙ ap (λ (l : List ℕ). written ++ l) (append-nil waiting)

  pub part_more : (new : List ℕ) (then_line : Line) → (s : Stood Open) → TakesPart false left new s.front then_line → Standing store gives first got written then_line new waiting Open now
  part_more new then_line s t = record {
    lines = s.lines;
    front = s.front ++ t.part;
    text = s.text;
    end = s.end;
    lost = s.lost;
    read = s.read
        ∙ ap (λ (l : List ℕ). joined s.lines ++ l)
        (ap (λ (l : List ℕ). s.front ++ l) (t.all refl).0 ∙ sym (append-nil (s.front ++ t.part)) ∙ ap (λ (l : List ℕ). (s.front ++ t.part) ++ l) (sym (t.all refl).1));
    ended = s.ended;
    begun = no_feed_in s.front t.part s.begun t.no_feed;
    held = t.held;
    session = s.session;
    whole = s.whole;
    of_phase = s.of_phase;
  }

  -- the bytes of the lines with one more
  read_line : (new : List ℕ) (then_line : Line) → (s : Stood Open) → (t : TakesPart true left new s.front then_line) → got ≡ joined (s.lines ++ (s.front ++ t.part) ∷ []) ++ new
  read_line new then_line s t =
      s.read
      ∙ sym (append_assoc (joined s.lines) s.front left)
      ∙ read_more s.lines s.front left (s.front ++ t.part) new (ap (λ (l : List ℕ). s.front ++ l) (t.feed refl) ∙ sym (append_assoc s.front t.part (10 ∷ new)))

  pub line_more : (new then_waiting : List ℕ) (taken then_line : Line) (b : A) → (s : Stood Open) → (t : TakesPart true left new s.front taken)
      → AnswersLine true store gives now (s.front ++ t.part) waiting then_waiting b → Holds then_line [] → Standing store gives first got written then_line new then_waiting Open b
  line_more new then_waiting taken then_line b s t r held = record {
    lines = s.lines ++ (s.front ++ t.part) ∷ [];
    front = [];
    text = s.text ++ reply_line store r.reply;
    end = [];
    lost = [];
    read = read_line new taken s t;
    ended = All-push HasNoFeed s.lines (s.front ++ t.part) s.ended (no_feed_in s.front t.part s.begun t.no_feed);
    begun = All-nil (λ b. b ≢ 10);
    held = held;
    session = session_more store gives first s.lines s.text now (s.front ++ t.part) r.reply b s.session r.replies;
    whole = append-nil (s.text ++ reply_line store r.reply)
        ∙ ap (λ (l : List ℕ). l ++ reply_line store r.reply) (settled s)
        ∙ append_assoc written waiting (reply_line store r.reply)
        ∙ ap (λ (l : List ℕ). written ++ l) (sym (r.text refl) ∙ sym (append-nil then_waiting));
    of_phase = (refl, refl);
  }

  -- there was no memory for the text of an answer
  pub line_lost : (new then_waiting : List ℕ) (taken then_line : Line) (b : A) → (s : Stood Open) → (t : TakesPart true left new s.front taken)
      → AnswersLine false store gives now (s.front ++ t.part) waiting then_waiting b → Holds then_line [] → Standing store gives first got written then_line new then_waiting Broken b
  line_lost new then_waiting taken then_line b s t r held = record {
    lines = s.lines ++ (s.front ++ t.part) ∷ [];
    front = [];
    text = s.text ++ reply_line store r.reply;
    end = [];
    lost = reply_line store r.reply;
    read = read_line new taken s t;
    ended = All-push HasNoFeed s.lines (s.front ++ t.part) s.ended (no_feed_in s.front t.part s.begun t.no_feed);
    begun = All-nil (λ b. b ≢ 10);
    held = held;
    session = session_more store gives first s.lines s.text now (s.front ++ t.part) r.reply b s.session r.replies;
    whole = append-nil (s.text ++ reply_line store r.reply)
        ∙ ap (λ (l : List ℕ). l ++ reply_line store r.reply) (settled s)
        ∙ append_assoc written waiting (reply_line store r.reply)
        ∙ ap (λ (l : List ℕ). written ++ (l ++ reply_line store r.reply)) (sym (r.none refl));
    of_phase = refl;
  }

  -- the input has ended, and what stands after the last line feed is answered
  pub ended_with : (then_waiting : List ℕ) → (s : Stood Open) → left ≡ [] → then_waiting ≡ waiting ++ end_text s.front → Standing store gives first got written line left then_waiting Ended now
  ended_with then_waiting s none e = record {
    lines = s.lines;
    front = s.front;
    text = s.text;
    end = end_text s.front;
    lost = [];
    read = s.read;
    ended = s.ended;
    begun = s.begun;
    held = s.held;
    session = s.session;
    whole = ap (λ (l : List ℕ). l ++ end_text s.front) (settled s) ∙ append_assoc written waiting (end_text s.front) ∙ ap (λ (l : List ℕ). written ++ l) (sym e ∙ sym (append-nil then_waiting));
    of_phase = (none, refl, refl);
  }

  -- more bytes came
  pub more_came : (more new : List ℕ) → (s : Stood Open) → left ++ more ≡ new → Standing store gives first (got ++ more) written line new waiting Open now
  more_came more new s e = record {
    lines = s.lines;
    front = s.front;
    text = s.text;
    end = s.end;
    lost = s.lost;
    read = ap (λ (l : List ℕ). l ++ more) s.read
        ∙ append_assoc (joined s.lines) (s.front ++ left) more
        ∙ ap (λ (l : List ℕ). joined s.lines ++ l) (append_assoc s.front left more ∙ ap (λ (l : List ℕ). s.front ++ l) e);
    ended = s.ended;
    begun = s.begun;
    held = s.held;
    session = s.session;
    whole = s.whole;
    of_phase = s.of_phase;
  }

  -- of what waited a part was written
  pub part_sent : (p : Phase) (sent new : List ℕ) → Stood p → waiting ≡ sent ++ new → Standing store gives first got (written ++ sent) line left new p now
  part_sent p sent new s e = record {
    lines = s.lines;
    front = s.front;
    text = s.text;
    end = s.end;
    lost = s.lost;
    read = s.read;
    ended = s.ended;
    begun = s.begun;
    held = s.held;
    session = s.session;
    whole = s.whole
        ∙ ap (λ (l : List ℕ). written ++ (l ++ s.lost)) e
        ∙ ap (λ (l : List ℕ). written ++ l) (append_assoc sent new s.lost)
        ∙ sym (append_assoc written sent (new ++ s.lost));
    of_phase = s.of_phase;
  }

  -- all that waited was written
  pub all_sent : (p : Phase) (new : List ℕ) → Stood p → new ≡ [] → Standing store gives first got (written ++ waiting) line left new p now
  all_sent p new s none = part_sent p waiting new s (sym (append-nil waiting) ∙ ap (λ (l : List ℕ). waiting ++ l) (sym none))

  -- a machine that holds the same
  pub held_by : (p : Phase) (that_line : Line) (that_waiting : List ℕ) (that_phase : Phase) → Stood p → that_line ≡ line → that_waiting ≡ waiting → that_phase ≡ p
      → Standing store gives first got written that_line left that_waiting that_phase now
  held_by p that_line that_waiting that_phase s is_line is_waiting is_phase =
      subst (λ (l : Line). Standing store gives first got written l left that_waiting that_phase now) (sym is_line)
      (subst (λ (w : List ℕ). Standing store gives first got written line left w that_phase now) (sym is_waiting)
      (subst (λ (q : Phase). Standing store gives first got written line left waiting q now) (sym is_phase) s))

  -- while lines are answered, or the text of one is lost, there is no text for the end
  pub no_end : (t : Turn) (p : Phase) → p ≡ phase_after t → (s : Stood p) → s.end ≡ []
  no_end turn.Idle p is s = (subst (λ (q : Phase). OfPhase q s.front left s.end s.lost) is s.of_phase).0
  no_end turn.More p is s = (subst (λ (q : Phase). OfPhase q s.front left s.end s.lost) is s.of_phase).0
  no_end turn.Full p is s = (subst (λ (q : Phase). OfPhase q s.front left s.end s.lost) is s.of_phase).0
  no_end turn.Broken p is s = subst (λ (q : Phase). OfPhase q s.front left s.end s.lost) is s.of_phase

-- ---- over a reader and a writer

module _ {A : Type 0} (store : ℕ) (gives : Giving A) (first : A) (got written : List ℕ) (line : Line) (left waiting : List ℕ) (now : A) (in0 in1 out0 out1 out2 : Option (List ℕ)) where
  -- what is written if a beginning of what waited was
  begun_of : (p : Phase) → (s : Standing store gives first got written line left waiting p now) → Appends out0 out1 written → HasBegun out1 out2 waiting → HasBegun out0 out2 (s.text ++ s.end)
  begun_of p s before h = record {
    sent = written ++ h.sent;
    unsent = h.unsent ++ s.lost;
    whole = s.whole
        ∙ ap (λ (l : List ℕ). written ++ (l ++ s.lost)) h.whole
        ∙ ap (λ (l : List ℕ). written ++ l) (append_assoc h.sent h.unsent s.lost)
        ∙ sym (append_assoc written h.sent (h.unsent ++ s.lost));
    written = Appends-trans out0 out1 out2 written h.sent before h.written;
  }

  broke : (p : Phase) → (s : Standing store gives first got written line left waiting p now) → Consumes in0 in1 got → Appends out0 out1 written → HasBegun out1 out2 waiting
      → ((s.end ≡ []) ⊎ (IsAtEnd in1 × HasNoFeed (s.front ++ left) × (s.end ≡ end_text (s.front ++ left)))) → Broke store gives in0 in1 out0 out2 first now
  broke p s came before h of_end = record {
    lines = s.lines;
    rest = s.front ++ left;
    text = s.text;
    end = s.end;
    read = subst (Consumes in0 in1) s.read came;
    ended = s.ended;
    session = s.session;
    of_end = of_end;
    written = begun_of p s before h;
  }

  -- a read or a write failed, or there was no memory
  pub broke_off : (t : Turn) (p : Phase) → p ≡ phase_after t → Standing store gives first got written line left waiting p now → Consumes in0 in1 got → Appends out0 out1 written
      → HasBegun out1 out2 waiting → Broke store gives in0 in1 out0 out2 first now
  broke_off t p is s came before h = broke p s came before h (inl (no_end store gives first got written line left waiting now t p is s))

  -- the write of the end failed
  pub broke_ended : Standing store gives first got written line left waiting Ended now → Consumes in0 in1 got → IsAtEnd in1 → Appends out0 out1 written → HasBegun out1 out2 waiting → Broke store gives in0 in1 out0 out2 first now
  broke_ended s came at_end before h =
      let is : s.front ++ left ≡ s.front = ap (λ (l : List ℕ). s.front ++ l) s.of_phase.0 ∙ append-nil s.front in
      broke Ended s came before h (inr (at_end, subst HasNoFeed (sym is) s.begun, s.of_phase.1 ∙ ap end_text (sym is)))

  pub served : Standing store gives first got written line left waiting Ended now → Consumes in0 in1 got → IsAtEnd in1 → Appends out0 out1 written → Appends out1 out2 waiting → Served store gives in0 in1 out0 out2 first now
  served s came at_end before h = record {
    lines = s.lines;
    last = s.front;
    text = s.text;
    read = subst (Consumes in0 in1) (s.read ∙ ap (λ (l : List ℕ). joined s.lines ++ l) (ap (λ (l : List ℕ). s.front ++ l) s.of_phase.0 ∙ append-nil s.front)) came;
    at_end = at_end;
    ended = s.ended;
    unended = s.begun;
    session = s.session;
    written = subst (Appends out0 out2)
        (ap (λ (l : List ℕ). written ++ l) (sym (append-nil waiting) ∙ ap (λ (l : List ℕ). waiting ++ l) (sym s.of_phase.2)) ∙ sym s.whole ∙ ap (λ (l : List ℕ). s.text ++ l) s.of_phase.1)
        (Appends-trans out0 out1 out2 written waiting before h);
  }

-- ---- what a session says of its connection

module _ {A : Type 0} (store : ℕ) (gives : Giving A) (first : A) (got written : List ℕ) (line : Line) (left waiting : List ℕ) (now : A) where
  goes_on : (p : Phase) → (s : Standing store gives first got written line left waiting p now) → s.end ≡ [] → (p ≡ Ended → ⊥) → IsSession store gives first got written waiting p now
  goes_on p s no_end going = record {
    lines = s.lines;
    rest = s.front ++ left;
    text = s.text;
    end = s.end;
    unwritten = waiting ++ s.lost;
    read = s.read;
    ended = s.ended;
    session = s.session;
    of_end = inl no_end;
    begun = s.whole;
    whole = λ is. absurd (going is);
  }

  pub session_of : (p : Phase) → Standing store gives first got written line left waiting p now → IsSession store gives first got written waiting p now
  session_of Open s = goes_on Open s s.of_phase.0 (λ is. cc)
  session_of Broken s = goes_on Broken s s.of_phase (λ is. cc)
  session_of Ended s =
      let is : s.front ++ left ≡ s.front = ap (λ (l : List ℕ). s.front ++ l) s.of_phase.0 ∙ append-nil s.front in
      let unended : HasNoFeed (s.front ++ left) = subst HasNoFeed (sym is) s.begun in
      let end : s.end ≡ end_text (s.front ++ left) = s.of_phase.1 ∙ ap end_text (sym is) in
      record {
        lines = s.lines;
        rest = s.front ++ left;
        text = s.text;
        end = s.end;
        unwritten = waiting ++ s.lost;
        read = s.read;
        ended = s.ended;
        session = s.session;
        of_end = inr (unended, end);
        begun = s.whole;
        whole = λ _ none. (ap (λ (l : List ℕ). l ++ s.lost) none ∙ s.of_phase.2, unended, end);
      }
