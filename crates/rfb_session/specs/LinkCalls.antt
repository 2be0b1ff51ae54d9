-- What a call of its viewer's makes of a link, whichever call it is.
use Rattle.std.specs.Prelude.{◌≡◌, false, Option, Some}
use Rattle.rfb_viewer.specs.declared.call.Call.{Call}
use Rattle.rfb_viewer.specs.declared.fault.CallFault.{CallFault}
use Rattle.rfb_viewer.specs.Call.{message_of, message_bytes, refusal_for, refused_by, called}
use Rattle.rfb_viewer.specs.Call.{is_noted}
use Rattle.rfb_session.specs.declared.link.Link.{Link}
use Rattle.rfb_session.specs.declared.told.Refused.{Refused}
use Rattle.rfb_session.specs.declared.told.Told.{Told}
use Rattle.rfb_session.specs.InFlight.{AreMade}
use Rattle.rfb_session.specs.Link.{Ends, LinkState}
use Rattle.rfb_session.specs.LinkBytes.{SendsMessage}
use Rattle.rfb_session.specs.LinkModel.{LinkStandsFor}
use Rattle.rfb_session.specs.LinkSteps.{begun, calls}
use Rattle.rfb_session.specs.Network.{Network, IsReached}
use Rattle.rfb_session.specs.Told.{refused_as}

-- why the viewer refuses the call, if it does
abbrev pub refusal_at : LinkState → Call → Option CallFault
refusal_at l call = refusal_for l.viewer (begun l.at_viewer l.to_viewer) call

-- it is refused, and changes nothing; or it changes the viewer, and its message is in flight
abbrev pub StepsByCall : Network → Call → Network → Type 0
StepsByCall old call new =
    (new.screen ≡ old.screen) × (new.link ≡ calls (refusal_at old.link call) old.link
    (called call old.link.viewer) (message_of call))

-- that is its step, whatever the link stood for over whatever screen, and the answer reports it
abbrev pub DoesCall : Link → Call → Told → Link → Type 0
DoesCall old call told new =
    (e : Ends) (n : Network) → AreMade e → IsReached e n → LinkStandsFor e n.screen old n.link →
    (m : Network) × StepsByCall n call m × (told.refused ≡ refused_as (refusal_at n.link call))
    × LinkStandsFor e n.screen new m.link

-- what it does to the bytes of a link; most calls change nothing of the viewer
pub record CallsOnBytes (old : Link) (call : Call) (told : Told) (new : Link) : Type 0 where
  pub sends : SendsMessage (message_of call) (message_bytes call) (λ s. called call s)
      (refused_by old.viewer call) old told new
  pub same : is_noted call ≡ false → new.viewer ≡ old.viewer

-- it is refused in a state of the link over a screen, reached from a fresh one
pub record IsRefusedCall (link : Link) (call : Call) : Type 0 where
  pub e : Ends
  pub n : Network
  pub refused : Refused
  pub reached : IsReached e n
  pub stands : LinkStandsFor e n.screen link n.link
  pub refuses : Some refused ≡ refused_as (refusal_at n.link call)

-- why the viewer refuses it, by the viewer alone
abbrev pub call_refusal_on : Link → Call → Option CallFault
call_refusal_on link call = refused_by link.viewer call
