-- What crates above cite of the lemmas in `GatherLemmas`.
pub use Rattle.rfb_picture.proofs.GatherLemmas.{first_bit, last_bit}
