-- What crates above cite of the lemmas in `TakenWordLemmas`.
pub use Rattle.rfb_picture.proofs.TakenWordLemmas.{has_bit-without}
