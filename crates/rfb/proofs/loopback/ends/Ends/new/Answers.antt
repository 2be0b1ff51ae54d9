use Rattle.std.proofs.Common.{◌∙◌}
use Rattle.rfb.proofs.loopback.ends.Ends.new.Goals as goal

pub returns-clause-viewer : goal.returns-clause-viewer
returns-clause-viewer c =
    rw (c.wishes-format.ensures.format, c.wishes-format.ensures.encodings) at c.fresh_viewer.ensures

pub returns-clause-to_viewer : goal.returns-clause-to_viewer
returns-clause-to_viewer c =
    c.in-Ok.ensures ∙ c.greeting.ensures _ _ _ c.in_ok-server.ensures
