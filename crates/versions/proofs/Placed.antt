-- The changes of a write as rows.
use Rattle.std.proofs.Common.{◌≡◌, ℕ, ◌+◌, ◌<◌, List, [], ◌∷◌, ◌++◌, length, take, get_or, append-nil, refl, sym, ap, ◌∙◌}
use Rattle.std.proofs.lemmas.List.Concat.{flat_map-append}
use Rattle.std.proofs.lemmas.List.{map-append, take_more}
use Rattle.tuples.specs.declared.change.Change.{Change}
use Rattle.tuples.specs.declared.change.Change.TheVariants.{Touch, Delete}
use Rattle.tuples.specs.Changes.{tuple_of}
use Rattle.tuples.specs.Versions.{is_touch, placed}
use Rattle.tuples.specs.declared.version.Version.{Version}
use Rattle.versions.specs.Placed.{all_placed}
use Rattle.versions.specs.Rows.{versions_of}
use Rattle.versions.specs.declared.decided.PlacedChanges.{PlacedChanges}
use Rattle.versions.specs.declared.history.Row.{Row}

-- the row of a change
pub row_of : ℕ → Change → Row
row_of place c = record { place = place; is_touch = is_touch c }

pub row_is : (place : ℕ) (c : Change) → versions_of (tuple_of c) (row_of place c ∷ []) ≡ placed place (c ∷ [])
unfolding row_of
row_is place (Touch t) = refl
row_is place (Delete t) = refl

-- one change more
pub placed_more : (place : ℕ) (cs : List Change) (n : ℕ) (c : Change) → n < length cs → c ≡ get_or cs n c → placed place (take (n + 1) cs) ≡ placed place (take n cs) ++ placed place (c ∷ [])
placed_more place cs n c within at =
    ap (placed place) (take_more cs n c within ∙ ap (λ (d : Change). take n cs ++ d ∷ []) (sym at)) ∙ map-append _ (take n cs) (c ∷ [])

-- one write more
pub all_placed_more : (ws : List PlacedChanges) (n : ℕ) (w : PlacedChanges) → n < length ws → w ≡ get_or ws n w → all_placed (take (n + 1) ws) ≡ all_placed (take n ws) ++ placed w.place w.changes.now
all_placed_more ws n w within at =
    ap all_placed (take_more ws n w within ∙ ap (λ (v : PlacedChanges). take n ws ++ v ∷ []) (sym at))
    ∙ flat_map-append (λ (v : PlacedChanges). placed v.place v.changes.now) (take n ws) (w ∷ [])
    ∙ ap (λ (l : List Version). all_placed (take n ws) ++ l) (append-nil (placed w.place w.changes.now))
