-- Laws of what a share shows.
use Rattle.std.proofs.Common.{◌≡◌, ◌≢◌, ℕ, List, Option, Some, None, refl, sym, ◌∙◌}
use Rattle.std.proofs.Math.Logic.{∥∥₁_map}
use Rattle.rfb_wire.specs.stream.End.{FedBy}
use Rattle.rfb_viewer.specs.declared.fault.ViewerFault.{ViewerFault}
use Rattle.rfb_viewer.specs.declared.viewer.Viewer.{Viewer}
use Rattle.rfb_viewer.specs.Model.{StandsFor, fault_of}
use Rattle.rfb_viewer.specs.Told.{ViewerTold}
use Rattle.rfb_viewer.specs.Viewer.{Viewing, ViewerState, viewer as viewer_end}
use Rattle.rfb_session.specs.declared.share.screen.Screen.{Screen}
use Rattle.rfb_session.specs.declared.share.screen.Screen.TheVariants.{Drawn, Seen}
use Rattle.rfb_session.specs.Mirrors.{StandsOrFailed}
use Rattle.rfb_session.specs.ShareScreen.{shown_on, canvas_on, viewer_on}

-- ---- viewers that may be shown

pub one_stands : (viewing : Viewing) (viewer : Viewer) (s : ViewerState) (prefix : List ℕ) →
    StandsFor viewing viewer s prefix → ∥ StandsOrFailed viewer ∥₁
one_stands viewing viewer s prefix stands = ∣ one ∣₁
  where
    one : StandsOrFailed viewer
    one going = record { viewing = viewing; state = s; prefix = prefix; stands = stands }

pub one_failed : (viewer : Viewer) (fault : ViewerFault) → fault_of viewer ≡ Some fault →
    ∥ StandsOrFailed viewer ∥₁
one_failed viewer fault fails = ∣ one ∣₁
  where
    one : StandsOrFailed viewer
    one going = absurd (let e = sym fails ∙ going in cc)

pub fed_stands : (old new : Viewer) (bytes : List ℕ) (event : Option ViewerTold) → ((viewing : Viewing) →
    FedBy (viewer_end viewing) (StandsFor viewing) old bytes event new) → fault_of old ≡ None →
    ∥ StandsOrFailed old ∥₁ → ∥ StandsOrFailed new ∥₁
fed_stands old new bytes event fed going stands = ∥∥₁_map stands (λ has later.
    let one = has going in
    let two = fed one.viewing one.state one.prefix one.stands in
    record { viewing = one.viewing; state = two.0; prefix = two.1; stands = two.2 })

-- a screen is drawn, or it is a viewer's picture
pub drawn_only : (x : Screen) → viewer_on x ≡ None → canvas_on x ≡ Some (shown_on x)
drawn_only (Drawn picture) none = refl
drawn_only (Seen mirror) none = absurd (let e = none in cc)

pub seen_only : (x : Screen) → viewer_on x ≢ None → canvas_on x ≡ None
seen_only (Drawn picture) some = absurd (some refl)
seen_only (Seen mirror) some = refl
