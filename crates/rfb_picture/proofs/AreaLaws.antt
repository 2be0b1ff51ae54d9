-- What crates above cite of the lemmas in `AreaLemmas`.
pub use Rattle.rfb_picture.proofs.AreaLemmas.{area-added, area-no_places, whole_at-no_places}
