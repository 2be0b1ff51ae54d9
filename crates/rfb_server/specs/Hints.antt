-- The hints that a session keeps: copies that its owner spoke of, and a viewer may be sent.
use Rattle.std.specs.Prelude.{ℤ, List, [], ◌∷◌, ◌++◌}
use Rattle.circular_buffer.specs.Buffer.{keep_last}
use Rattle.rfb_picture.specs.declared.rect.Rect.{Rect}
use Rattle.rfb_picture.specs.Rect.{scrolled_to, scrolled_from}
use Rattle.rfb_server.specs.declared.hint.Hint.{Hint}
use Rattle.rfb_server.specs.declared.session.Session.{Session}
use Rattle.rfb_server.specs.declared.server.Server.{Server}

-- the hints that a session keeps, the oldest first
abbrev pub hints_in : Session → List Hint
hints_in session = session.hints.items

-- and a server
abbrev pub hints_of : Server → List Hint
hints_of server = hints_in server.session

-- one hint more, of at most sixteen: the oldest of seventeen is dropped
abbrev pub with_hint : Hint → List Hint → List Hint
with_hint hint hints = keep_last 16 (hints ++ hint ∷ [])

-- the hint of a scroll: what stays of the rectangle looks as it did where it lay
abbrev pub scroll_hint : Rect → ℤ → ℤ → Hint
scroll_hint r dx dy = record {
  to = scrolled_to dx dy r;
  sx = (scrolled_from dx dy r).x;
  sy = (scrolled_from dx dy r).y;
}
