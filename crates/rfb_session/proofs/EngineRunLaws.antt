-- What crates above cite of the lemmas in `EngineRunLemmas`.
pub use Rattle.rfb_session.proofs.EngineRunLemmas.{ran_fed, ran_none, ran_then}
