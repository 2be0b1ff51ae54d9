use Rattle.std.proofs.Common.{◌≡◌, true, List, [], ◌∷◌, ◌++◌, ap, ◌∙◌, subst}
use Rattle.rfb_pixel.specs.Format.{PixelFormat, rgb888}
use Rattle.rfb_picture.specs.Grid.{uniform}
use Rattle.rfb_wire.specs.declared.encoding.Encoding.{Encoding}
use Rattle.rfb_wire.specs.declared.encoding.Encoding.TheVariants.{Raw}
use Rattle.rfb_hello.specs.declared.version.Version.TheVariants.{V38}
use Rattle.rfb_server.specs.Server.{black}
use Rattle.rfb_viewer.specs.Viewer.{first_viewer}
use Rattle.rfb_viewer.specs.Model.{StandsFor, viewing_with}
use Rattle.rfb_session.specs.Played.{ends_for}
use Rattle.rfb_session.proofs.PlayedLemmas.{fresh_for}
use Rattle.rfb_session.proofs.world.World.made.Goals as goal

pub returns : goal.returns
returns c =
    let list : c.push.new.self.items ≡ Raw ∷ [] =
    c.push.ensures.items ∙ ap (λ (q : List Encoding). q ++ Raw ∷ []) c.new-encodings.ensures in
    let viewer_is = subst (λ (xs : List Encoding). StandsFor
    (viewing_with rgb888 xs V38 true 16777216 1024) c.of-viewer.result first_viewer []) list
    (subst (λ (f : PixelFormat). StandsFor
    (viewing_with f c.push.new.self.items V38 true 16777216 1024) c.of-viewer.result first_viewer
    []) c.rgb888.ensures.value c.of-viewer.ensures.stands) in
    let fresh = fresh_for c.args.width c.args.height c.in_ok-server.server c.of-viewer.result
    c.in_ok-server.ensures.stands viewer_is in
    c.in_ok-world.ensures (ends_for c.args.width c.args.height)
    (uniform c.args.width c.args.height black) fresh
