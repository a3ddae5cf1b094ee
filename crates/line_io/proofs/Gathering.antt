-- How a line is gathered.
use Rattle.std.proofs.Common.{◌≡◌, ℕ, Bool, true, false, List, [], ◌∷◌, ◌++◌, refl, sym, ap, ◌∙◌, append_assoc, append-nil, Option}
use Rattle.std.proofs.KnownBytes.{Consumes-trans}
use Rattle.std.proofs.lemmas.Grind.{flat_map-append}
use Rattle.std.specs.Io.KnownBytes.{IsAtEnd}
use Rattle.std.specs.List.{flat_map}
use Rattle.line_io.specs.Blocks.{Gathers, HasTaken, Refills, TakesPart}
use Rattle.line_io.specs.declared.input.Ending.TheVariants.{Feed, Input}
use Rattle.line_io.specs.declared.line.Line.{Line}
use Rattle.line_io.proofs.Feeds.{no_feed_in}

module _ (before now after : Option (List ℕ)) (first left : List ℕ) (line : Line) where
  pub refilled : (has : Bool) (new : List ℕ) → Gathers before now first left line → Refills has now after left new → Gathers before after first new line
  refilled has new g r = record {
    read = g.read ++ r.read;
    front = g.front;
    consumed = Consumes-trans before now after g.read r.read g.consumed r.consumed;
    whole = sym (append_assoc first g.read r.read) ∙ ap (λ (l : List ℕ). l ++ r.read) g.whole ∙ append_assoc g.front left r.read ∙ ap (λ (l : List ℕ). g.front ++ l) r.bytes;
    no_feed = g.no_feed;
    held = g.held;
  }

  pub part_more : (new : List ℕ) (then_line : Line) → (g : Gathers before now first left line) → TakesPart false left new g.front then_line → Gathers before now first new then_line
  part_more new then_line g t = record {
    read = g.read;
    front = g.front ++ t.part;
    consumed = g.consumed;
    whole = g.whole ∙ ap (λ (l : List ℕ). g.front ++ l) (t.all refl).0 ∙ sym (append-nil (g.front ++ t.part)) ∙ ap (λ (l : List ℕ). (g.front ++ t.part) ++ l) (sym (t.all refl).1);
    no_feed = no_feed_in g.front t.part g.no_feed t.no_feed;
    held = t.held;
  }

  pub taken_at_feed : (new : List ℕ) (then_line : Line) → (g : Gathers before now first left line) → TakesPart true left new g.front then_line → HasTaken Feed before now first new then_line
  taken_at_feed new then_line g t = record {
    read = g.read;
    bytes = g.front ++ t.part;
    consumed = g.consumed;
    no_feed = no_feed_in g.front t.part g.no_feed t.no_feed;
    held = t.held;
    ends = g.whole ∙ ap (λ (l : List ℕ). g.front ++ l) (t.feed refl) ∙ sym (append_assoc g.front t.part (10 ∷ new));
  }

  pub taken_at_end : Gathers before now first left line → left ≡ [] → IsAtEnd now → HasTaken Input before now first left line
  taken_at_end g none end = record {
    read = g.read;
    bytes = g.front;
    consumed = g.consumed;
    no_feed = g.no_feed;
    held = g.held;
    ends = (end, g.whole ∙ ap (λ (l : List ℕ). g.front ++ l) none ∙ append-nil g.front, none);
  }

-- lines with one more, whose line feed was read
pub read_more : (lines : List (List ℕ)) (old read line new : List ℕ) → old ++ read ≡ line ++ 10 ∷ new
    → (flat_map (λ (l : List ℕ). l ++ 10 ∷ []) lines ++ old) ++ read ≡ flat_map (λ (l : List ℕ). l ++ 10 ∷ []) (lines ++ line ∷ []) ++ new
read_more lines old read line new e =
    let ended : List ℕ → List ℕ = λ l. l ++ 10 ∷ [] in
    let before : List ℕ = flat_map ended lines in
    let more : flat_map ended (lines ++ line ∷ []) ≡ before ++ (line ++ 10 ∷ []) = flat_map-append ended lines (line ∷ []) ∙ ap (λ (l : List ℕ). before ++ l) (append-nil (line ++ 10 ∷ [])) in
    append_assoc before old read
    ∙ ap (λ (l : List ℕ). before ++ l) (e ∙ sym (append_assoc line (10 ∷ []) new))
    ∙ sym (append_assoc before (line ++ 10 ∷ []) new)
    ∙ ap (λ (l : List ℕ). l ++ new) (sym more)
