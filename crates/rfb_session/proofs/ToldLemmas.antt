-- An event that is refused changes nothing.
use Rattle.std.proofs.Common.{◌≡◌, Option, Some, None, inl, inr, refl, sym, ap, ◌∙◌}
use Rattle.rfb_picture.specs.Grid.{Grid}
use Rattle.rfb_pixel.specs.declared.colour.Colour.{Colour}
use Rattle.rfb_wire.specs.ClientMessage.{ClientMessage}
use Rattle.rfb_viewer.specs.declared.fault.CallFault.{CallFault}
use Rattle.rfb_viewer.specs.Viewer.{ViewerState}
use Rattle.rfb_session.specs.declared.event.Event.{Event}
use Rattle.rfb_session.specs.declared.event.Event.TheVariants.{Fill, Put, Copy, Hint, Request, SetFormat, SetEncodings}
use Rattle.rfb_session.specs.declared.event.Event.TheVariants.{Key, Pointer, CutText, Compose, ToServer, ToViewer}
use Rattle.rfb_session.specs.declared.told.Refused.{Refused}
use Rattle.rfb_session.specs.Link.{Ends, LinkState}
use Rattle.rfb_session.specs.LinkSteps.{calls}
use Rattle.rfb_session.specs.Network.{Network, Draws, Steps}
use Rattle.rfb_session.specs.Told.{refused_as, RefusesUnless, RefusesAs}

none_some : (o : Option Refused) (r : Refused) → o ≡ None → o ≡ Some r → ⊥
none_some o r none some = cc

same_network : (old new : Network) → new.screen ≡ old.screen → new.link ≡ old.link → new ≡ old
same_network old new screens links =
    let network : (screen : Grid Colour) (l : LinkState) → Network =
    λ screen l. record { screen = screen; link = l } in
    let first : network new.screen new.link ≡ network old.screen new.link =
    ap (λ (screen : Grid Colour). network screen new.link) screens in
    let second : network old.screen new.link ≡ network old.screen old.link =
    ap (λ (l : LinkState). network old.screen l) links in
    first ∙ second

calls_nothing : (o : Option CallFault) (r : Refused) (l : LinkState) (v : ViewerState)
    (message : ClientMessage) → refused_as o ≡ Some r → calls o l v message ≡ l
calls_nothing None r l v message some = absurd (none_some None r refl some)
calls_nothing (Some fault) r l v message some = refl

draws_nothing : (Inside : Type 0) (screen : Grid Colour) (old new : Network) (o : Option Refused)
    (r : Refused) → Draws Inside screen old new → RefusesUnless Inside o → o ≡ Some r → new ≡ old
draws_nothing Inside screen old new o r (inr (outside, is)) refused some = is
draws_nothing Inside screen old new o r (inl (inside, is)) (inl (here, none)) some =
    absurd (none_some o r none some)
draws_nothing Inside screen old new o r (inl (inside, is)) (inr (outside, told)) some =
    absurd (outside inside)

pub refused_nothing : (e : Ends) (old new : Network) (event : Event) (o : Option Refused)
    (r : Refused) → Steps e old event new → RefusesAs old event o → o ≡ Some r → new ≡ old
refused_nothing e old new (Fill rect colour) o r step refused some =
    draws_nothing _ _ old new o r step refused some
refused_nothing e old new (Put x y row) o r step refused some =
    draws_nothing _ _ old new o r step refused some
refused_nothing e old new (Copy rect sx sy) o r step refused some =
    draws_nothing _ _ old new o r step refused some
refused_nothing e old new (Hint rect sx sy) o r step refused some = step
refused_nothing e old new (Request incremental rect) o r step refused some =
    same_network old new step.0 (step.1 ∙ calls_nothing _ r _ _ _ (sym refused ∙ some))
refused_nothing e old new (SetFormat form) o r step refused some =
    same_network old new step.0 (step.1 ∙ calls_nothing _ r _ _ _ (sym refused ∙ some))
refused_nothing e old new (SetEncodings encodings) o r step refused some =
    same_network old new step.0 (step.1 ∙ calls_nothing _ r _ _ _ (sym refused ∙ some))
refused_nothing e old new (Key down key) o r step refused some =
    same_network old new step.0 (step.1 ∙ calls_nothing _ r _ _ _ (sym refused ∙ some))
refused_nothing e old new (Pointer buttons x y) o r step refused some =
    same_network old new step.0 (step.1 ∙ calls_nothing _ r _ _ _ (sym refused ∙ some))
refused_nothing e old new (CutText text) o r step refused some =
    same_network old new step.0 (step.1 ∙ calls_nothing _ r _ _ _ (sym refused ∙ some))
refused_nothing e old new Compose o r step refused some = absurd (none_some o r refused some)
refused_nothing e old new (ToServer count) o r step refused some =
    absurd (none_some o r refused some)
refused_nothing e old new (ToViewer count) o r step refused some =
    absurd (none_some o r refused some)
