-- What the server's reader makes of the line of a short form.
use Rattle.std.proofs.Common.{◌≡◌, ℕ, ◌<◌, ◌^◌, List, Some, sym, subst, ◌∙◌, inr}
use Rattle.serde_json.specs.Data.{Data}
use Rattle.refusal.specs.declared.refusal.Refusal.{Refusal}
use Rattle.tuples.specs.declared.request.Request.{Request}
use Rattle.json_lines.specs.Causes.{Cause}
use Rattle.json_lines.specs.Laws.{NoneIsSpelledAndRefused}
use Rattle.json_lines.specs.Lines.{IsObject, Spells}
use Rattle.json_lines.specs.Shapes.{Field, object_with}
use Rattle.json_lines.proofs.Values.{objects_once}
use Rattle.client.specs.Forms.{HasShort, Short, short_fields}
use Rattle.client.specs.Reading.{IsJson, IsUnread, words_of}

some_once : (a b : Data) → Some a ≡ Some b → a ≡ b
some_once a b e = cc

abbrev IsLineOf : List ℕ → List ℕ → Type 0
IsLineOf text line = (IsJson text → ⊥) → (s : Short) × HasShort (words_of text) s × IsObject line (short_fields s)

pub means : (store : ℕ) (text line bytes : List ℕ) (r : Request) → bytes ≡ line → IsLineOf text line → (fields : List Field) × IsObject bytes fields × Spells store fields r
    → (IsJson text → ⊥) → (s : Short) × HasShort (words_of text) s × Spells store (short_fields s) r
means store text line bytes r same short found plain =
    let s = short plain in
    let here = subst (λ (l : List ℕ). IsObject l (short_fields s.0)) (sym same) s.2 in
    let once = objects_once found.0 (short_fields s.0) (some_once (object_with found.0) (object_with (short_fields s.0)) (sym found.1.1 ∙ here.1)) in
    (s.0, s.1, subst (λ (fs : List Field). Spells store fs r) once found.2)

pub unread : (store : ℕ) (text line bytes : List ℕ) (e : Refusal) → store < 2 ^ 64 → NoneIsSpelledAndRefused → bytes ≡ line → IsLineOf text line → Cause store bytes e → (IsJson text → ⊥) → IsUnread store text e
unread store text line bytes e small law same short cause plain =
    let s = short plain in
    let here = subst (λ (l : List ℕ). IsObject l (short_fields s.0)) (sym same) s.2 in
    inr (inr (inr (s.0, s.1, λ r q spelled. law store bytes r e small (short_fields s.0, here, spelled, q) cause)))
