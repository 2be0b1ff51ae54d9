-- What a relay was made with.
use Rattle.std.specs.Prelude.{ℕ, List, cond}
use Rattle.rfb_viewer.specs.declared.setup.ViewerSetup.{ViewerSetup}
use Rattle.rfb_viewer.specs.Model.{viewing_with}
use Rattle.rfb_viewer.specs.Viewer.{Viewing}
use Rattle.rfb_session.specs.declared.relay.setup.Given.{Given}

-- the name that viewers get: what was given, or what the server told
abbrev pub name_by : Given → List ℕ → List ℕ
name_by given told = cond given.is_named given.name.items told

-- how the server's viewers see
abbrev pub viewing_by : ViewerSetup → Viewing
viewing_by setup =
    viewing_with setup.format setup.encodings.items setup.limit setup.shared setup.max_places setup.text_limit
