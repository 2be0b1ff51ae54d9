-- What crates above cite of the lemmas in `LoanLemmas`.
pub use Rattle.rfb_picture.proofs.LoanLemmas.{run_in_row}
