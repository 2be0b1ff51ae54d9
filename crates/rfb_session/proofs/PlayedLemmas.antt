-- A world that makes its ends itself needs no premise of them.
use Rattle.std.proofs.Common.{ℕ, ◌*◌, ◌≤◌, List, [], arith}
use Rattle.std.proofs.lemmas.Nat.{mul-le}
use Rattle.rfb_pixel.proofs.FormatLaws.{rgb888-is_format}
use Rattle.rfb_picture.specs.Grid.{uniform}
use Rattle.rfb_picture.proofs.GridLaws.{width-uniform, height-uniform}
use Rattle.rfb_server.specs.declared.server.Server.{Server}
use Rattle.rfb_server.specs.Server.{black, first_server}
use Rattle.rfb_server.specs.Model.{StandsFor as ServerStandsFor}
use Rattle.rfb_viewer.specs.declared.viewer.Viewer.{Viewer}
use Rattle.rfb_viewer.specs.Viewer.{first_viewer}
use Rattle.rfb_viewer.specs.Model.{StandsFor as ViewerStandsFor}
use Rattle.rfb_session.specs.declared.event.Event.{Event}
use Rattle.rfb_session.specs.declared.world.World.{World}
use Rattle.rfb_session.specs.Headline.{IsHeadline}
use Rattle.rfb_session.specs.InFlight.{AreMade}
use Rattle.rfb_session.specs.World.{StandsFor, AreFresh, Reaches, NeitherFailed, first_network}
use Rattle.rfb_session.specs.Played.{ends_for, Played}
use Rattle.rfb_session.proofs.NetworkLemmas.{first_reached}

made_for : (width height : ℕ) → 1 ≤ width → width ≤ 4096 → 1 ≤ height → height ≤ 4096 →
    AreMade (ends_for width height)
made_for width height wide narrow high low =
    let all : width * height ≤ 4096 * 4096 = mul-le width height 4096 4096 narrow low in
    record {
      setup = record {
        admitted = (omega arith, omega arith, all);
        width_fits = omega arith;
        height_fits = omega arith;
        name_fits = omega arith;
      };
      form = rgb888-is_format;
      few = omega arith;
    }

pub fresh_for : (width height : ℕ) (server : Server) (viewer : Viewer) →
    ServerStandsFor (ends_for width height).serving server
    (first_server (ends_for width height).serving) [] →
    ViewerStandsFor (ends_for width height).viewing viewer first_viewer [] →
    AreFresh (ends_for width height) server viewer (uniform width height black)
fresh_for width height server viewer server_is viewer_is = record {
  width = width-uniform width height black;
  height = height-uniform width height black;
  server_is = server_is;
  viewer_is = viewer_is;
}

pub played : (width height : ℕ) (events : List Event) (old new : World) → 1 ≤ width →
    width ≤ 4096 → 1 ≤ height → height ≤ 4096 →
    StandsFor (ends_for width height) old
    (first_network (ends_for width height) (uniform width height black)) →
    Reaches old events new (λ e n. NeitherFailed new × IsHeadline e n.link) →
    Played width height events new
played width height events old new wide narrow high low fresh runs =
    let e = ends_for width height in
    let screen = uniform width height black in
    let one = runs e (first_network e screen) (made_for width height wide narrow high low)
    (first_reached e screen (width-uniform width height black) (height-uniform width height black))
    fresh in
    (one.0, one.1, one.2, one.3.0, one.3.1)
