-- Lemmas on writes in doubt, which stand with the holds.
pub use Rattle.holds.proofs.Doubts.{HasPlacedId, cases_id, find_learned, find_not_learned, find_without_other, find_without_same, found_id, none_stays, none_without, same_id_other, same_id_refl, same_id_true, without_filter}
pub use Rattle.holds.proofs.Put.{find_put, find_put_same}
pub use Rattle.holds.proofs.Named.{without_put}
