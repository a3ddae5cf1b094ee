-- Which refusal each thing that is wrong with a request has.
use Rattle.std.proofs.Common.{◌≡◌, ℕ, zero, suc, ◌+◌, ◌<◌, ◌≤◌, List, [], ◌∷◌, ◌++◌, map, take, drop, length, get_or, sym, subst, ap, ◌∙◌, ◌⊎◌, inl, inr, arith, refl, append_assoc, Some, None}
use Rattle.std.proofs.lemmas.List.{length-map, map-append, take_more}
use Rattle.std.proofs.lemmas.List.Elements.{All-push}
use Rattle.serde_json.specs.Data.{Data}
use Rattle.serde_json.specs.Read.{read}
use Rattle.tuples.specs.declared.change.Want.{Want}
use Rattle.tuples.specs.Texts.{tuple_text}
use Rattle.json_lines.proofs.Values.{map_more, objects_once}
use Rattle.std.proofs.Math.Seq.{split_at}
use Rattle.tuples.specs.declared.change.Change.{Change}
use Rattle.tuples.specs.declared.change.Condition.{Condition}
use Rattle.tuples.specs.declared.tuple.Tuple.{Tuple}
use Rattle.tuples.specs.Changes.{AreDistinct, conditioned}
use Rattle.refusal.specs.declared.refusal.Refusal.{Refusal}
use Rattle.refusal.specs.declared.refusal.Refusal.TheVariants.{BadRequest, TooLarge, Repeated, BadZookie, WrongStore, NoMemory}
use Rattle.json_lines.specs.declared.shape.ChangeShape.{ChangeShape}
use Rattle.json_lines.specs.declared.shape.ConditionShape.{ConditionShape}
use Rattle.json_lines.specs.Causes.{AreFew, ArePlaced, AreSpelled, AreTuples, Cause, IsMisplaced, IsOfStore, IsPlaced, WriteCause, changed_text, conditioned_text}
use Rattle.json_lines.specs.Lines.{IsObject, SpellsWrite, written_change, written_condition, written_want}
use Rattle.json_lines.specs.Shapes.{Field, Form, HasForm, IsMisshapen, change_json, condition_json, object_with, write_with}
use Rattle.json_lines.specs.Spelling.{IsMisspelled, IsUnplaced, IsUnread, ReadsWant}

-- the condition at a place is the first whose zookie is bad
pub unplaced : (store : ℕ) (shapes : List ConditionShape) (n : ℕ) (d : ConditionShape) (e : Refusal) → n < length shapes → ArePlaced store (take n shapes) → IsUnread store (λ IsBad. IsMisplaced IsBad (get_or shapes n d).want) e → IsUnplaced store shapes e
unplaced store shapes n d BadZookie h placed bad = record { front = take n shapes; first = get_or shapes n d; back = drop (suc n) shapes; whole = split_at shapes n d h; placed = placed; bad = bad }
unplaced store shapes n d WrongStore h placed bad = record { front = take n shapes; first = get_or shapes n d; back = drop (suc n) shapes; whole = split_at shapes n d h; placed = placed; bad = bad }
unplaced store shapes n d _ h placed bad = absurd bad

pub changes_misspelled : (store : ℕ) (cs : List ChangeShape) (ds : List ConditionShape) (e : Refusal) → AreFew cs ds → IsMisspelled (AreTuples (map changed_text cs)) e → WriteCause store cs ds e
changes_misspelled store cs ds e few (inl r) = subst (WriteCause store cs ds) (sym r.0) (few, λ spelled. r.1 spelled.0 spelled.2)
changes_misspelled store cs ds e few (inr was) = subst (WriteCause store cs ds) (sym was) tt

pub conditions_misspelled : (store : ℕ) (cs : List ChangeShape) (ds : List ConditionShape) (e : Refusal) → AreFew cs ds → IsMisspelled (AreTuples (map conditioned_text ds)) e → WriteCause store cs ds e
conditions_misspelled store cs ds e few (inl r) = subst (WriteCause store cs ds) (sym r.0) (few, λ spelled. r.1 spelled.1 spelled.3)
conditions_misspelled store cs ds e few (inr was) = subst (WriteCause store cs ds) (sym was) tt

pub conditions_unplaced : (store : ℕ) (cs : List ChangeShape) (ds : List ConditionShape) (e : Refusal) → AreFew cs ds → AreSpelled cs ds → IsUnplaced store ds e → WriteCause store cs ds e
conditions_unplaced store cs ds BadZookie few spelled h = (few, spelled, h)
conditions_unplaced store cs ds WrongStore few spelled h = (few, spelled, h)
conditions_unplaced store cs ds NoMemory few spelled h = tt
conditions_unplaced store cs ds _ few spelled h = absurd h

-- what the write itself refuses
pub write_refused : (store : ℕ) (cs : List ChangeShape) (ds : List ConditionShape) (ts us : List Tuple) (e : Refusal) → AreFew cs ds → ArePlaced store ds → AreTuples (map changed_text cs) ts → AreTuples (map conditioned_text ds) us
    → (e ≡ BadRequest → ⊥) → (e ≡ TooLarge → ⊥) → (e ≡ Repeated → AreDistinct ts × AreDistinct us → ⊥) → (e ≡ BadRequest) ⊎ ((e ≡ TooLarge) ⊎ (e ≡ Repeated)) → WriteCause store cs ds e
write_refused store cs ds ts us e few placed spelled asked no_shape no_size repeated (inl was) = absurd (no_shape was)
write_refused store cs ds ts us e few placed spelled asked no_shape no_size repeated (inr (inl was)) = absurd (no_size was)
write_refused store cs ds ts us e few placed spelled asked no_shape no_size repeated (inr (inr was)) =
    subst (WriteCause store cs ds) (sym was) (few, placed, (ts, us, spelled, asked, λ a b. repeated was (a, b)))

-- ---- lines

-- a line that is nothing of a kind, or no memory
pub line_refused : {A : Type 0} (store : ℕ) (line : List ℕ) (e : Refusal) (Is : A → Type 0) → ((fields : List Field) (form : Form) → IsObject line fields → HasForm fields form → (a : A) × Is a) → IsMisshapen Is e → Cause store line e
line_refused store line e Is of (inl r) = subst (Cause store line) (sym r.0) (λ fields form is has. let one = of fields form is has in r.1 one.0 one.1)
line_refused store line e Is of (inr was) = subst (Cause store line) (sym was) tt

text_at : {A B C : Type 0} (f : A → C) (g : B → C) (xs : List A) (front : List B) (y : B) (back : List B) (n : ℕ) (d : A) → map f xs ≡ map g (front ++ y ∷ back) → n ≡ length front → f (get_or xs n d) ≡ g y
text_at f g [] [] y back n d e is = absurd cc
text_at f g [] (z ∷ front) y back n d e is = absurd cc
text_at f g (x ∷ xs) [] y back zero d e is = cc
text_at f g (x ∷ xs) [] y back (suc n) d e is = absurd (omega arith)
text_at f g (x ∷ xs) (z ∷ front) y back zero d e is = absurd (omega arith)
text_at f g (x ∷ xs) (z ∷ front) y back (suc n) d e is =
    let more : map f xs ≡ map g (front ++ y ∷ back) = cc in
    text_at f g xs front y back n d more (omega arith)

-- one more condition
pub conditions_more : (store : ℕ) (shapes : List ConditionShape) (cs zs : List Condition) (tuples rest more : List Tuple) (n m : ℕ) (d : ConditionShape) (t : Tuple) (w : Want) → n < length shapes → n ≡ length cs
    → map conditioned_text shapes ≡ map tuple_text tuples → conditioned cs ++ rest ≡ tuples → rest ≡ t ∷ more
    → map condition_json (take n shapes) ≡ map (written_condition store) cs → ArePlaced store (take n shapes) → ReadsWant store (get_or shapes n d).want w
    → zs ≡ cs ++ record { tuple = t; want = w } ∷ [] → m ≡ n + 1
    → (conditioned zs ++ more ≡ tuples) × (map condition_json (take m shapes) ≡ map (written_condition store) zs) × ArePlaced store (take m shapes)
conditions_more store shapes cs zs tuples rest more n m d t w h long texts taken next made placed reads pushed one =
    let c : Condition = record { tuple = t; want = w } in
    let x = get_or shapes n d in
    let whole : tuples ≡ conditioned cs ++ t ∷ more = sym taken ∙ ap (λ (l : List Tuple). conditioned cs ++ l) next in
    let text : conditioned_text x ≡ tuple_text t = text_at conditioned_text tuple_text shapes (conditioned cs) t more n d (texts ∙ ap (map tuple_text) whole) (long ∙ sym (length-map cs (λ (y : Condition). y.tuple))) in
    let json : condition_json x ≡ written_condition store c = reads.json x.tuple.now ∙ ap (λ (l : List ℕ). written_want store w l) text in
    let all : conditioned zs ≡ conditioned cs ++ t ∷ [] = ap conditioned pushed ∙ map-append (λ (y : Condition). y.tuple) cs (c ∷ []) in
    let fewer : map condition_json (take (n + 1) shapes) ≡ map (written_condition store) (cs ++ c ∷ []) = map_more condition_json (written_condition store) shapes cs n d c h made json in (
      ap (λ (l : List Tuple). l ++ more) all ∙ append_assoc (conditioned cs) (t ∷ []) more ∙ sym whole,
      ap (λ (k : ℕ). map condition_json (take k shapes)) one ∙ fewer ∙ ap (map (written_condition store)) (sym pushed),
      subst (λ (k : ℕ). ArePlaced store (take k shapes)) (sym one) (subst (λ (l : List ConditionShape). ArePlaced store l) (sym (take_more shapes n d h)) (All-push (λ (y : ConditionShape). IsPlaced (IsOfStore store) y.want) (take n shapes) x placed reads.placed)),
    )

pub spells_listed : (store : ℕ) (cs : List ChangeShape) (ds : List ConditionShape) (ws : List Change) (us : List Condition) → map change_json cs ≡ map written_change ws → map condition_json ds ≡ map (written_condition store) us
    → SpellsWrite store (write_with (map change_json cs) (Some (map condition_json ds))) ws us
spells_listed store cs ds ws us changes conditions = inl (ap (λ (l : List Data). write_with l (Some (map condition_json ds))) changes ∙ ap (λ (l : List Data). write_with (map written_change ws) (Some l)) conditions)

pub spells_unlisted : (store : ℕ) (cs : List ChangeShape) (ws : List Change) (us : List Condition) → map change_json cs ≡ map written_change ws → map condition_json [] ≡ map (written_condition store) us
    → SpellsWrite store (write_with (map change_json cs) None) ws us
spells_unlisted store cs ws [] changes conditions = inr (refl, ap (λ (l : List Data). write_with l None) changes)
spells_unlisted store cs ws (u ∷ us) changes conditions = absurd cc

pub in_limits : (n m : ℕ) → n ≤ 64 → m ≤ 16 → (64 < n) ⊎ (16 < m) → ⊥
in_limits n m few fewer (inl h) = omega arith
in_limits n m few fewer (inr h) = omega arith

-- the members of a line are those that were read of it
pub same_fields : (line : List ℕ) (d : Data) (fields own : List Field) → read line ≡ Some d → d ≡ object_with own → IsObject line fields → fields ≡ own
same_fields line d fields own was is told =
    let same : d ≡ object_with fields = cc (was, told.1) in
    objects_once fields own (sym same ∙ is)

pub fields_refused : (store : ℕ) (line : List ℕ) (e : Refusal) (d : Data) (own : List Field) → read line ≡ Some d → d ≡ object_with own → IsMisshapen (HasForm own) e → Cause store line e
fields_refused store line e d own was is h = line_refused store line e (HasForm own) (λ fields form told has. (form, subst (λ (f : List Field). HasForm f form) (same_fields line d fields own was is told) has)) h
