-- What crates above cite of the lemmas in `HeadLemmas`.
pub use Rattle.rfb_wire.proofs.stream_laws.HeadLemmas.{misses_rest}
