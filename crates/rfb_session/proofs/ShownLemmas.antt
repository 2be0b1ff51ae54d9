-- Where nothing is in flight to a viewer it shows what is due.
use Rattle.std.proofs.Common.{◌≡◌, ℕ, List, [], ◌∷◌, ◌++◌, length, length-append, Option, inl, inr, refl, sym, ap, ◌∙◌}
use Rattle.std.proofs.Common.{subst, arith}
use Rattle.rfb_pixel.specs.declared.colour.Colour.{Colour}
use Rattle.rfb_picture.specs.Grid.{Grid}
use Rattle.rfb_wire.specs.stream.Grammar.{IsWithinFirst}
use Rattle.rfb_wire.specs.stream.End.{acts}
use Rattle.rfb_wire.specs.stream.Sequel.{First, Second}
use Rattle.rfb_viewer.specs.ServerBytes.{ServerAt, FromServer}
use Rattle.rfb_viewer.specs.Viewer.{Viewing, ViewerState, viewer}
use Rattle.rfb_viewer.specs.ShownPieces.{Shows, ShowsAt}
use Rattle.rfb_viewer.specs.Model.{StandsFor as ViewerStandsFor}
use Rattle.rfb_session.specs.declared.link.Link.{Link}
use Rattle.rfb_session.specs.Link.{Ends, LinkState, viewer_stream}
use Rattle.rfb_session.specs.Headline.{due_picture}
use Rattle.rfb_session.specs.LinkModel.{LinkStandsFor}

-- with no byte of the next item it shows the picture
pub shown_whole : (at : ServerAt) (picture stored : Option (Grid Colour)) →
    ShowsAt at picture [] stored → stored ≡ picture
shown_whole (First point) picture stored is = is
shown_whole (Second p) picture stored (inl whole) = whole.1
shown_whole (Second p) picture stored (inr (before, now, was, is, pieces)) =
    let all : 0 ≡ length (pieces.front ++ pieces.body) =
    ap (λ (b : List ℕ). length b) pieces.prefix_is in
    absurd (omega (arith, all, length-append pieces.front pieces.body, pieces.awaits.head_is.size))

pub no_bytes : (bytes : List ℕ) → length bytes ≡ 0 → bytes ≡ []
no_bytes [] none = refl
no_bytes (byte ∷ bytes) none = absurd (omega (arith, none))

pub shown_due : (e : Ends) (screen : Grid Colour) (w : Link) (l : LinkState) (stored : Option (Grid Colour)) →
    LinkStandsFor e screen w l → l.to_viewer ≡ [] →
    ((viewing : Viewing) (s : ViewerState) (prefix : List ℕ) →
    ViewerStandsFor viewing w.viewer s prefix → Shows s prefix stored) →
    stored ≡ due_picture e l
shown_due e screen w l stored stands none shows =
    let c = stands.carries in
    let start : l.at_viewer ≡ 0 =
    subst (λ (q : List FromServer). IsWithinFirst (viewer_stream e) l.at_viewer q) none
    c.flies.viewer_within in
    let bare : c.viewer_has ≡ [] = no_bytes c.viewer_has (c.flies.at_viewer ∙ start) in
    let here : Shows l.viewer [] stored =
    subst (λ (bytes : List ℕ). Shows l.viewer bytes stored) bare
    (shows e.viewing l.viewer c.viewer_has c.viewer_is) in
    shown_whole l.viewer.point l.viewer.picture stored here
    ∙ sym (ap (λ (q : List FromServer). (acts (viewer e.viewing) l.viewer q).picture) none)
