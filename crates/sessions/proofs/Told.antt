-- What a session's histories say after one more call.
use Rattle.std.proofs.Common.{◌≡◌, ℕ, List, [], ◌∷◌, ◌++◌, take, drop, Result, Ok, Err, OnOk, OnErr, refl, ap, ◌∙◌, sym, subst, Option, take-append-drop}
use Rattle.std.proofs.lemmas.List.{flat_map_more}
use Rattle.line_io.specs.declared.held.Block.{Block}
use Rattle.line_io.specs.declared.line.Line.{Line}
use Rattle.line_io.specs.Lines.{Holds}
use Rattle.sessions.specs.Machines.{Standing, all_read, all_written, left_of}
use Rattle.sessions.specs.Sessions.{Giving, end_text}
use Rattle.sessions.specs.Unsent.{unsent}
use Rattle.sessions.specs.declared.machine.Phase.{Phase}
use Rattle.sessions.specs.declared.machine.Phase.TheVariants.{Open, Ended}
use Rattle.sessions.specs.declared.waiting.Waiting.{Waiting}
use Rattle.sessions.proofs.Going.{at_first, ended_with, held_by, more_came, part_sent}

pub written_more : (items new : List (Waiting × ℕ)) (w : Waiting) (count : ℕ) → new ≡ items ++ (w, count) ∷ [] → all_written new ≡ all_written items ++ take count (unsent w)
written_more items new w count e = ap all_written e ∙ sym (flat_map_more (λ (p : Waiting × ℕ). take p.1 (unsent p.0)) [] items (w, count))

pub read_one : (items new : List (Option Block × Unit {0})) (b : Option Block) → new ≡ items ++ (b, tt) ∷ [] → all_read new ≡ all_read items ++ left_of b
read_one items new b e = ap all_read e ∙ sym (flat_map_more (λ (p : Option Block × Unit {0}). left_of p.0) [] items (b, tt))

module _ {A : Type 0} (store : ℕ) (gives : Giving A) (first : A) (line : Line) (waiting : List ℕ) (now : A) where
  pub begins : (got written left : List ℕ) (p : Phase) → got ≡ [] → written ≡ [] → Holds line [] → left ≡ [] → waiting ≡ [] → p ≡ Open → Standing store gives first got written line left waiting p first
  begins got written left p no_got no_written held none empty going =
      subst (λ (l : List ℕ). Standing store gives first l written line left waiting p first) (sym no_got)
      (subst (λ (l : List ℕ). Standing store gives first [] l line left waiting p first) (sym no_written) (at_first store gives first line left waiting p held none empty going))

  -- if all was looked at, a block came
  pub block_came : (items new : List (Option Block × Unit {0})) (written left : List ℕ) (b : Option Block) (p : Phase) → p ≡ Open → Standing store gives first (all_read items) written line left waiting p now
      → left ≡ [] → new ≡ items ++ (b, tt) ∷ [] → Standing store gives first (all_read new) written line (left_of b) waiting Open now
  block_came items new written left b p is s none e =
      let going = held_by store gives first (all_read items) written line left waiting now p line waiting Open s refl refl (sym is) in
      subst (λ (l : List ℕ). Standing store gives first l written line (left_of b) waiting Open now) (sym (read_one items new b e))
      (more_came store gives first (all_read items) written line left waiting now (left_of b) (left_of b) going (ap (λ (l : List ℕ). l ++ left_of b) none))

module _ {A : Type 0} (store : ℕ) (gives : Giving A) (first : A) (got : List ℕ) (line : Line) (left : List ℕ) (p : Phase) (now : A) where
  pub bytes_went : (items new : List (Waiting × ℕ)) (w then_w : Waiting) (count : ℕ) → Standing store gives first got (all_written items) line left (unsent w) p now → new ≡ items ++ (w, count) ∷ []
      → unsent then_w ≡ drop count (unsent w) → Standing store gives first got (all_written new) line left (unsent then_w) p now
  bytes_went items new w then_w count s e is =
      subst (λ (l : List ℕ). Standing store gives first got l line left (unsent then_w) p now) (sym (written_more items new w count e))
      (part_sent store gives first got (all_written items) line left (unsent w) now p (take count (unsent w)) (unsent then_w) s
      (sym (take-append-drop count (unsent w)) ∙ ap (λ (l : List ℕ). take count (unsent w) ++ l) (sym is)))

module _ {A : Type 0} (store : ℕ) (gives : Giving A) (first : A) (got written : List ℕ) (line : Line) (left waiting : List ℕ) (p : Phase) (now : A) (that_line : Line) (that_left that_waiting : List ℕ) (that_phase : Phase) where
  pub kept_by : Standing store gives first got written line left waiting p now → that_line ≡ line → that_left ≡ left → that_waiting ≡ waiting → that_phase ≡ p
      → Standing store gives first got written that_line that_left that_waiting that_phase now
  kept_by s is_line is_left is_waiting is_phase =
      subst (λ (l : List ℕ). Standing store gives first got written that_line l that_waiting that_phase now) (sym is_left)
      (held_by store gives first got written line left waiting now p that_line that_waiting that_phase s is_line is_waiting is_phase)

  -- the input has ended, and memory for what stands after the last line feed was refused or not
  pub ended_or_not : {T E : Type 0} (r : Result T E) → Standing store gives first got written line left waiting p now → p ≡ Open → left ≡ [] → that_line ≡ line → that_left ≡ left
      → OnOk r ((last : List ℕ) → Holds line last → that_waiting ≡ waiting ++ end_text last) → OnOk r (that_phase ≡ Ended) → OnErr r (that_waiting ≡ waiting) → OnErr r (that_phase ≡ p)
      → Standing store gives first got written that_line that_left that_waiting that_phase now
  ended_or_not (Ok x) s is_open none is_line is_left text ended same going_on =
      let going = held_by store gives first got written line left waiting now p line waiting Open s refl refl (sym is_open) in
      let over = ended_with store gives first got written line left waiting now that_waiting going none (text going.front going.held) in
      subst (λ (l : List ℕ). Standing store gives first got written that_line l that_waiting that_phase now) (sym is_left)
      (held_by store gives first got written line left that_waiting now Ended that_line that_waiting that_phase over is_line refl ended)
  ended_or_not (Err e) s is_open none is_line is_left text ended same going_on = kept_by s is_line is_left same going_on
