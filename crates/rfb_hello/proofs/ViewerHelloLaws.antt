-- What crates above cite of the lemmas in `ViewerHelloLemmas`.
pub use Rattle.rfb_hello.proofs.ViewerHelloLemmas.{viewer_starts}
