-- What crates above cite of the lemmas in `ServerLemmas`.
pub use Rattle.rfb_wire.proofs.ServerLemmas.{server-sizes, server-spelled}
