-- What crates above cite of the lemmas in `RunLemmas`.
pub use Rattle.rfb_session.proofs.RunLemmas.{Any, neither_failed, reached_more, run_more, run_none}
