-- What crates above cite of the lemmas in `WrittenLemmas`.
pub use Rattle.rfb_session.proofs.WrittenLemmas.{empty_rest, no_beginning, on_err, rest_is, whole_beginning}
