use Rattle.std.proofs.Common.{◌≡◌, sym, refl, subst, OnOk, OnErr, Result, Ok, Err}
use Rattle.rfb_pixel.specs.declared.colour.Colour.{Colour}
use Rattle.rfb_picture.specs.Grid.{Grid}
use Rattle.rfb_picture.proofs.GridLaws.{width-changed, height-changed}
use Rattle.rfb_codec.specs.Effect.{IsAlike}
use Rattle.rfb_server.specs.declared.server.Server.{Server}
use Rattle.rfb_server.specs.declared.fault.Outside.{Outside}
use Rattle.rfb_server.specs.Model.{Draws, screen_of}
use Rattle.rfb_session.proofs.engine.tests.devices.RecolouringScene.draw.Goals as goal

-- a drawing that was refused, or has this screen, leaves the size
size_after : (old new : Server) (screen : Grid Colour) (result : Result (Unit {0}) Outside) →
    OnErr result (new ≡ old) → OnOk result (Draws screen old new) →
    IsAlike screen (screen_of old) → IsAlike (screen_of new) (screen_of old)
size_after old new screen (Err fault) kept drawn alike =
    subst (λ (s : Server). IsAlike (screen_of s) (screen_of old)) (sym kept)
    (record { columns = refl; rows = refl })
size_after old new screen (Ok done) kept drawn alike =
    subst (λ (g : Grid Colour). IsAlike g (screen_of old)) (sym drawn.screen_is) alike

pub returns-clause-size : goal.returns-clause-size
returns-clause-size c =
    size_after c.args.server.now c.fill.new.self _ c.fill.result c.fill.ensures.kept
    c.fill.ensures.drawn (record {
      columns = width-changed _ (screen_of c.args.server.now);
      rows = height-changed _ (screen_of c.args.server.now);
    })
