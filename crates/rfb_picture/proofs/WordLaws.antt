-- What crates above cite of the lemmas in `WordLemmas`.
pub use Rattle.rfb_picture.proofs.WordLemmas.{has_bit-and, has_bit-or}
