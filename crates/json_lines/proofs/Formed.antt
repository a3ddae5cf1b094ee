-- The form of a request, for each line that spells it.
use Rattle.std.proofs.Common.{◌≡◌, ℕ, ◌≤◌, List, [], ◌∷◌, map, length, sym, subst, ap, ◌∙◌, inl, inr, refl, codes, Bor, Some, None}
use Rattle.std.specs.List.{All}
use Rattle.std.proofs.lemmas.List.{length-map}
use Rattle.std.proofs.lemmas.List.Elements.{All-nil, All-cons, All-head, All-tail}
use Rattle.serde_json.specs.Data.{Data}
use Rattle.tuples.specs.declared.change.Change.{Change}
use Rattle.tuples.specs.declared.change.Change.TheVariants as change
use Rattle.tuples.specs.declared.change.Condition.{Condition}
use Rattle.tuples.specs.declared.change.Want.{Want}
use Rattle.tuples.specs.declared.change.Want.TheVariants as want
use Rattle.tuples.specs.declared.tupleset.Tupleset.{Tupleset}
use Rattle.tuples.specs.Changes.{IsWrite, changed, conditioned, tuple_of}
use Rattle.tuples.specs.Names.{IsName}
use Rattle.tuples.specs.Texts.{tuple_text, tupleset_text}
use Rattle.zookie.specs.Zookies.{zookie_text}
use Rattle.tuples.specs.declared.freshness.Freshness.{Freshness}
use Rattle.tuples.specs.declared.freshness.Freshness.TheVariants as freshness
use Rattle.tuples.specs.declared.request.Request.{Request}
use Rattle.tuples.specs.declared.request.Request.TheVariants.{Write, Read, Check, Watch}
use Rattle.json_lines.specs.declared.shape.ChangeShape.{ChangeShape}
use Rattle.json_lines.specs.declared.shape.ChangeShape.TheVariants.{Touch, Delete}
use Rattle.json_lines.specs.declared.shape.ConditionShape.{ConditionShape}
use Rattle.json_lines.specs.declared.shape.WantShape.{WantShape}
use Rattle.json_lines.specs.declared.shape.WantShape.TheVariants.{Since, Exists, Absent}
use Rattle.json_lines.specs.declared.shape.FreshnessShape.{FreshnessShape}
use Rattle.json_lines.specs.declared.shape.FreshnessShape.TheVariants.{Latest, AtLeast, Exact}
use Rattle.json_lines.specs.Causes.{ArePlaced, IsOfStore, IsPlaced, changed_text, conditioned_text}
use Rattle.json_lines.specs.Laws.{IsFreshness, IsRequest, IsWant}
use Rattle.json_lines.specs.Lines.{Spells, SpellsWrite, written_change, written_condition, written_freshness, written_want}
use Rattle.json_lines.specs.Shapes.{Field, Form, Writes, Reads, Checks, Watches, HasForm, asks_sets, asks_tuple, change_json, condition_json, freshness_fields, question_with, texts_json, wanted_json, watch_with, write_with}
use Rattle.json_lines.proofs.Alike.{borrowed_texts}
use Rattle.json_lines.proofs.Sound.{IsFreshPlaced, IsSound, IsSoundWrite}

abbrev lent : List ℕ → Bor (List ℕ)
lent t = record { ref_ptr = (0, 0); now = t }

lent_texts : (ts : List (List ℕ)) → borrowed_texts (map lent ts) ≡ ts
lent_texts [] = refl
lent_texts (t ∷ ts) = ap (λ (l : List (List ℕ)). t ∷ l) (lent_texts ts)

abbrev change_form : Change → ChangeShape
change_form (change.Touch t) = Touch (lent (tuple_text t))
change_form (change.Delete t) = Delete (lent (tuple_text t))

abbrev want_form : ℕ → Want → WantShape
want_form store (want.NotAfter place) = Since (lent (zookie_text store place))
want_form store want.Exists = Exists
want_form store want.Absent = Absent

abbrev condition_form : ℕ → Condition → ConditionShape
condition_form store c = record { tuple = lent (tuple_text c.tuple); want = want_form store c.want }

abbrev freshness_form : ℕ → Freshness → FreshnessShape
freshness_form store freshness.Latest = Latest
freshness_form store (freshness.AtLeast place) = AtLeast (lent (zookie_text store place))
freshness_form store (freshness.Exact place) = Exact (lent (zookie_text store place))

-- ---- their JSON

change_formed : (c : Change) → change_json (change_form c) ≡ written_change c
change_formed (change.Touch t) = refl
change_formed (change.Delete t) = refl

changes_formed : (cs : List Change) → map change_json (map change_form cs) ≡ map written_change cs
changes_formed [] = refl
changes_formed (c ∷ cs) = ap (λ (d : Data). d ∷ map change_json (map change_form cs)) (change_formed c) ∙ ap (λ (ds : List Data). written_change c ∷ ds) (changes_formed cs)

want_formed : (store : ℕ) (w : Want) (t : List ℕ) → wanted_json (want_form store w) t ≡ written_want store w t
want_formed store (want.NotAfter place) t = refl
want_formed store want.Exists t = refl
want_formed store want.Absent t = refl

conditions_formed : (store : ℕ) (cs : List Condition) → map condition_json (map (condition_form store) cs) ≡ map (written_condition store) cs
conditions_formed store [] = refl
conditions_formed store (c ∷ cs) =
    ap (λ (d : Data). d ∷ map condition_json (map (condition_form store) cs)) (want_formed store c.want (tuple_text c.tuple)) ∙ ap (λ (ds : List Data). written_condition store c ∷ ds) (conditions_formed store cs)

freshness_formed : (store : ℕ) (f : Freshness) → freshness_fields (freshness_form store f) ≡ written_freshness store f
freshness_formed store freshness.Latest = refl
freshness_formed store (freshness.AtLeast place) = refl
freshness_formed store (freshness.Exact place) = refl

-- ---- their texts and places

changed_text_formed : (c : Change) → changed_text (change_form c) ≡ tuple_text (tuple_of c)
changed_text_formed (change.Touch t) = refl
changed_text_formed (change.Delete t) = refl

changed_formed : (cs : List Change) → map changed_text (map change_form cs) ≡ map tuple_text (changed cs)
changed_formed [] = refl
changed_formed (c ∷ cs) = ap (λ (t : List ℕ). t ∷ map changed_text (map change_form cs)) (changed_text_formed c) ∙ ap (λ (ts : List (List ℕ)). tuple_text (tuple_of c) ∷ ts) (changed_formed cs)

conditioned_formed : (store : ℕ) (cs : List Condition) → map conditioned_text (map (condition_form store) cs) ≡ map tuple_text (conditioned cs)
conditioned_formed store [] = refl
conditioned_formed store (c ∷ cs) = ap (λ (ts : List (List ℕ)). tuple_text c.tuple ∷ ts) (conditioned_formed store cs)

want_placed : (store : ℕ) (w : Want) → IsWant w → IsPlaced (IsOfStore store) (want_form store w)
want_placed store (want.NotAfter place) h = (place, h, refl)
want_placed store want.Exists h = tt
want_placed store want.Absent h = tt

conditions_placed : (store : ℕ) (cs : List Condition) → All (λ (c : Condition). IsWant c.want) cs → ArePlaced store (map (condition_form store) cs)
conditions_placed store [] h = All-nil (λ (c : ConditionShape). IsPlaced (IsOfStore store) c.want)
conditions_placed store (c ∷ cs) h =
    let P = λ (d : Condition). IsWant d.want in
    All-cons (λ (d : ConditionShape). IsPlaced (IsOfStore store) d.want) (condition_form store c) (map (condition_form store) cs) (want_placed store c.want (All-head P c cs h)) (conditions_placed store cs (All-tail P c cs h))

freshness_placed : (store : ℕ) (f : Freshness) → IsFreshness f → IsFreshPlaced store (freshness_form store f)
freshness_placed store freshness.Latest h = tt
freshness_placed store (freshness.AtLeast place) h = (place, h, refl)
freshness_placed store (freshness.Exact place) h = (place, h, refl)

-- ---- the whole

sound_write : (store : ℕ) (cs : List Change) (ds : List Condition) → IsWrite cs ds → All (λ (c : Condition). IsWant c.want) ds → IsSoundWrite store (map change_form cs) (map (condition_form store) ds)
sound_write store cs ds is wants =
    let few : length cs ≤ 64 = is.part.few_changes in
    let fewer : length ds ≤ 16 = is.part.few_conditions in
    record {
      few = (subst (λ (n : ℕ). n ≤ 64) (sym (length-map cs change_form)) few, subst (λ (n : ℕ). n ≤ 16) (sym (length-map ds (condition_form store))) fewer);
      changes = changed cs;
      conditions = conditioned ds;
      changes_spelled = (changed_formed cs, is.part.changes_spelled);
      conditions_spelled = (conditioned_formed store ds, is.part.conditions_spelled);
      distinct_changes = is.part.distinct_changes;
      distinct_conditions = is.part.distinct_conditions;
      placed = conditions_placed store ds wants;
    }

-- a form of these members with which nothing is wrong
abbrev pub HasSoundForm : ℕ → List Field → Type 0
HasSoundForm store fields = (form : Form) × HasForm fields form × IsSound store form

some_changes : (cs : List Change) → 1 ≤ length cs → 1 ≤ length (map change_form cs)
some_changes cs h = subst (λ (n : ℕ). 1 ≤ n) (sym (length-map cs change_form)) h

write_formed : (store : ℕ) (fields : List Field) (cs : List Change) (ds : List Condition) → IsWrite cs ds → All (λ (c : Condition). IsWant c.want) ds → SpellsWrite store fields cs ds → HasSoundForm store fields
write_formed store fields cs ds is wants (inl e) = (
  Writes (map change_form cs) (Some (map (condition_form store) ds)),
  (e ∙ ap (λ (l : List Data). write_with l (Some (map (written_condition store) ds))) (sym (changes_formed cs)) ∙ ap (λ (l : List Data). write_with (map change_json (map change_form cs)) (Some l)) (sym (conditions_formed store ds)), some_changes cs is.some),
  sound_write store cs ds is wants,
)
write_formed store fields cs ds is wants (inr e) = (
  Writes (map change_form cs) None,
  (e.1 ∙ ap (λ (l : List Data). write_with l None) (sym (changes_formed cs)), some_changes cs is.some),
  subst (λ (l : List Condition). IsSoundWrite store (map change_form cs) (map (condition_form store) l)) e.0 (sound_write store cs ds is wants),
)

lent_length : (ts : List (List ℕ)) → length (map lent ts) ≡ length ts
lent_length ts = length-map ts lent

set_texts : (qs : List Tupleset) → borrowed_texts (map lent (map tupleset_text qs)) ≡ map tupleset_text qs
set_texts qs = lent_texts (map tupleset_text qs)

sets_long : (qs : List Tupleset) → length (map lent (map tupleset_text qs)) ≡ length qs
sets_long qs = lent_length (map tupleset_text qs) ∙ length-map qs tupleset_text

pub formed : (store : ℕ) (fields : List Field) (r : Request) → Spells store fields r → IsRequest r → HasSoundForm store fields
formed store fields (Write w) spells is = write_formed store fields w.changes w.conditions is.0 is.1 spells
formed store fields (Read f sets) spells is = (
  Reads (freshness_form store f) (map lent (map tupleset_text sets.items)),
  (
    spells.0 ∙ ap (λ (l : List Field). question_with l (codes "read") (asks_sets (map tupleset_text sets.items))) (sym (freshness_formed store f)) ∙ ap (λ (l : List (List ℕ)). question_with (freshness_fields (freshness_form store f)) (codes "read") (asks_sets l)) (sym (set_texts sets.items)),
    subst (λ (n : ℕ). 1 ≤ n) (sym (sets_long sets.items)) spells.1,
  ),
  (subst (λ (n : ℕ). n ≤ 16) (sym (sets_long sets.items)) spells.2, (sets.items, (set_texts sets.items, is.1)), freshness_placed store f is.0),
)
formed store fields (Check f tuple) spells is = (
  Checks (freshness_form store f) (lent (tuple_text tuple)),
  (spells ∙ ap (λ (l : List Field). question_with l (codes "check") (asks_tuple (tuple_text tuple))) (sym (freshness_formed store f)), tt),
  ((tuple, is.1, refl), freshness_placed store f is.0),
)
formed store fields (Watch from limit names) spells is = (
  Watches (lent (zookie_text store from)) limit (map lent names.items),
  (
    spells.0 ∙ ap (λ (l : List (List ℕ)). watch_with (zookie_text store from) limit (texts_json l)) (sym (lent_texts names.items)),
    (spells.1, spells.2, subst (λ (n : ℕ). 1 ≤ n) (sym (lent_length names.items)) spells.3),
  ),
  (subst (λ (n : ℕ). n ≤ 16) (sym (lent_length names.items)) spells.4, subst (All IsName) (sym (lent_texts names.items)) is.1, (from, is.0, refl)),
)
