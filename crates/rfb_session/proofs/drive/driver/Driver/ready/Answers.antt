use Rattle.std.proofs.Common.{sym, subst, false}
use Rattle.rfb_picture.specs.declared.rect.Rect.{Rect}
use Rattle.rfb_session.specs.drive.driver.Driver.{Asks, BadSize, ReadyNow}
use Rattle.rfb_session.proofs.drive.driver.Driver.ready.Goals as goal

pub returns-then-not-is_shown_size : goal.returns-then-not-is_shown_size
returns-then-not-is_shown_size g c =
    BadSize (sym c.if-not-is_shown_size.ensures) c.send.new.self c.send.ensures c.lose_server.ensures

pub returns : goal.returns
returns g c =
    ReadyNow (sym c.if-not-is_shown_size.ensures) c.send.new.self c.send.ensures
    (subst (λ (r : Rect). Asks false r c.send.new.self c.ask.new.self) c.whole.ensures c.ask.ensures)
