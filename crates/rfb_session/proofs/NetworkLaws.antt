-- What crates above cite of the lemmas in `NetworkLemmas`.
pub use Rattle.rfb_session.proofs.NetworkLemmas.{first_reached, headline_holds}
