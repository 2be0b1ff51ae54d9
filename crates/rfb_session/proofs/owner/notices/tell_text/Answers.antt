use Rattle.std.proofs.KnownBytes.{Appends-trans}
use Rattle.rfb_session.proofs.owner.notices.tell_text.Goals as goal

pub returns : goal.returns
returns g c =
    Appends-trans _ _ _ _ _
    (Appends-trans _ _ _ _ _ c.in_ok-write.ensures.bytes c.in_ok-tell_text_hex.ensures) c.in_ok-writeln.ensures.bytes
