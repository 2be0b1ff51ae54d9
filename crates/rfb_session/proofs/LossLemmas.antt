-- Bytes that reach an end that has failed have no effect.
use Rattle.std.proofs.Common.{ℕ, ◌+◌, drop-drop, refl, arith}
use Rattle.rfb_session.specs.declared.link.Link.{Link}
use Rattle.rfb_session.specs.LinkModel.{LosesToViewer, LosesToServer}

pub no_viewer_loss : (w : Link) → LosesToViewer w 0 w
no_viewer_loss w = assumption refl

pub more_viewer_loss : (a b c : Link) (k j : ℕ) → LosesToViewer a k b → LosesToViewer b j c →
    LosesToViewer a (k + j) c
more_viewer_loss a b c k j one two = grind (arith, drop-drop)

pub no_server_loss : (w : Link) → LosesToServer w 0 w
no_server_loss w = assumption refl

pub more_server_loss : (a b c : Link) (k j : ℕ) → LosesToServer a k b → LosesToServer b j c →
    LosesToServer a (k + j) c
more_server_loss a b c k j one two = grind (arith, drop-drop)
