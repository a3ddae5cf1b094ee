-- A text that grows for as long as its vector has room.
use Rattle.std.specs.Prelude.{◌≡◌, ◌≤◌, ◌<◌, ◌+◌, ℕ, true, false, List, ◌++◌, length, take, vec_capacity}
use Rattle.json_lines.specs.declared.text.Text.{Text}

-- The part was appended to a text that was whole before; or there was no room for it, and what was there stands in front. A
-- text that had no room before stays as it is.
pub record Grown (old new : Text) (part : List ℕ) : Type 0 where
  pub same_reference : new.out.ghost_name ≡ old.out.ghost_name
  pub start : new.start ≡ old.start
  pub appended : new.is_full ≡ false → (old.is_full ≡ false) × (new.out.now.items ≡ old.out.now.items ++ part)
  pub front : new.is_full ≡ true → old.is_full ≡ false → take (length old.out.now.items) new.out.now.items ≡ old.out.now.items
  pub lacked : new.is_full ≡ true → old.is_full ≡ false → vec_capacity old.out.now < length old.out.now.items + length part
  pub stays : old.is_full ≡ true → (new.is_full ≡ true) × (new.out.now.items ≡ old.out.now.items)
  pub capacity : vec_capacity old.out.now ≤ vec_capacity new.out.now
