-- What crates above cite of the lemmas in `ServerHelloLemmas`.
pub use Rattle.rfb_hello.proofs.ServerHelloLemmas.{none_told, some_told}
