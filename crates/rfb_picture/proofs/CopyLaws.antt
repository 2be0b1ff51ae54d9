-- What crates above cite of the lemmas in `CopyLemmas`.
pub use Rattle.rfb_picture.proofs.CopyLemmas.{at-copied, row_fits}
