-- What crates above cite of the lemmas in `ServeLemmas` and `WireLemmas`.
pub use Rattle.rfb_session.proofs.WireLemmas.{begun_after}
pub use Rattle.rfb_session.proofs.ServeLemmas.{Heard, call_ended, call_heard, heard_all, heard_more}
pub use Rattle.rfb_session.proofs.ServeLemmas.{heard_none, hearing_stops}
