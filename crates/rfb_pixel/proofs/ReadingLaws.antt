-- What crates above cite of the lemmas in `ReadingLemmas`.
pub use Rattle.rfb_pixel.proofs.ReadingLemmas.{spells-accepted, spells-same, spells_written}
