-- A desk whose share has the picture of a server's viewer: what is done there for the server.
use Rattle.std.specs.Prelude.{◌≡◌, ◌<◌, ℕ, Bool, true, false, List, ◌++◌, Option, Some}
use Rattle.std.specs.Prelude.{None, Result, Ok, Err}
use Rattle.rfb_picture.specs.Places.{has_bit}
use Rattle.rfb_picture.specs.Rect.{rect}
use Rattle.rfb_picture.specs.declared.rect.Rect.{Rect}
use Rattle.rfb_hello.specs.declared.fed.Fed.{Fed}
use Rattle.rfb_hello.specs.declared.version.Version.TheVariants.{V38}
use Rattle.rfb_server.specs.Model.{serving_with}
use Rattle.rfb_viewer.specs.declared.event.ViewerEvent.{ViewerEvent}
use Rattle.rfb_viewer.specs.declared.event.ViewerEvent.TheVariants.{Reply, Ready, UpdateDone, Bell, CutText}
use Rattle.rfb_viewer.specs.declared.event.ViewerEvent.TheVariants.{ColourMapSkipped}
use Rattle.rfb_viewer.specs.declared.fault.ViewerFault.{ViewerFault}
use Rattle.rfb_viewer.specs.declared.viewer.Viewer.{Viewer}
use Rattle.rfb_viewer.specs.declared.call.Call.{Call}
use Rattle.rfb_viewer.specs.declared.call.Call.TheVariants.{Request}
use Rattle.rfb_viewer.specs.declared.fault.AppendFault.{AppendFault}
use Rattle.rfb_viewer.specs.declared.fault.AppendFault.TheVariants.{Refused}
use Rattle.rfb_viewer.specs.declared.fault.CallFault.TheVariants.{NotReady}
use Rattle.rfb_viewer.specs.ServerBytes.{is_between}
use Rattle.rfb_viewer.specs.Model.{StandsFor}
use Rattle.rfb_viewer.specs.Viewer.{Viewing, ViewerState}
use Rattle.rfb_session.specs.declared.console.desk.Desk.{Desk}
use Rattle.rfb_session.specs.declared.console.desk.Hold.{Hold}
use Rattle.rfb_session.specs.declared.console.desk.Hold.TheVariants.{Shown, Begins, Since}
use Rattle.rfb_session.specs.declared.console.plan.Rules.{Rules}
use Rattle.rfb_session.specs.declared.relay.gone.Gone.{Gone}
use Rattle.rfb_session.specs.declared.share.Share.{Share}
use Rattle.rfb_session.specs.Share.{IsEmptyShare, screen_of, serving_in, viewer_of}
use Rattle.rfb_session.specs.ShareMirrors.{FeedsOn, FailsOn, MakesOn, ShowsOther}
use Rattle.rfb_session.specs.ShareWaiters.{SomeAsked}
use Rattle.rfb_session.specs.console.Desk.{nobody, guest_at, lines_of}
use Rattle.rfb_session.specs.console.Viewers.{LetsAllGo}
use Rattle.rfb_session.specs.relay.ServerLines.{up_line, IsDownLine, bell_line, server_text_line}

-- a share of the picture that a viewer has: nobody has come, and viewers get this name
pub record IsShareOf (viewer : Viewer) (name : List ℕ) (text_limit : ℕ) (share : Share) : Type 0 where
  pub viewer_is : viewer_of share ≡ Some viewer
  pub empty : IsEmptyShare share
  pub made : serving_in share
      ≡ serving_with V38 (screen_of share).width (screen_of share).height name text_limit

-- a desk of a share whose picture is a server's: nobody has come, and a line says that the server is there
pub record IsOver (share : Share) (rules : Rules) (name : List ℕ) (desk : Desk) : Type 0 where
  pub share_is : desk.share ≡ share
  pub guests : (k : ℕ) → guest_at desk k ≡ nobody
  pub lines : lines_of desk ≡ up_line (screen_of share).width (screen_of share).height name
  pub rules_are : desk.rules ≡ rules
  pub hold : desk.hold ≡ Shown
  pub first : desk.first ≡ 0
  pub large : desk.large ≡ None

-- a line says that a share's picture is shown, and the server's name
abbrev pub up_of : Share → List ℕ → List ℕ
up_of share name = up_line (screen_of share).width (screen_of share).height name

-- what is known of viewers is as it was, and so are the rules and the seat that is first
pub record KeepsGuests (old new : Desk) : Type 0 where
  pub guests : (k : ℕ) → guest_at new k ≡ guest_at old k
  pub rules : new.rules ≡ old.rules
  pub first : new.first ≡ old.first
  pub large : new.large ≡ old.large

-- ---- bytes of the server's

-- while a message of the server's comes updates are held back, from its first bytes on
abbrev pub hold_within : Bool → Hold → Hold
hold_within true hold = Shown
hold_within false Shown = Begins
hold_within false Begins = Begins
hold_within false (Since since) = Since since

-- whether the server's bytes end between two messages
abbrev pub IsBetween : Share → Bool → Type 0
IsBetween share between =
    (viewer : Viewer) → viewer_of share ≡ Some viewer →
    (viewing : Viewing) (s : ViewerState) (prefix : List ℕ) → StandsFor viewing viewer s prefix →
    between ≡ is_between s.point prefix

-- they are held back so, and nothing else has changed
pub record HoldsWithin (old new : Desk) : Type 0 where
  pub share : new.share ≡ old.share
  pub between : Bool
  pub between_is : IsBetween old.share between
  pub hold : new.hold ≡ hold_within between old.hold
  pub lines : lines_of new ≡ lines_of old
  pub keeps : KeepsGuests old new

-- the server's viewer took bytes, and the sessions were told what changed; no line says so
pub record FeedsDesk (old : Desk) (bytes : List ℕ) (fed : Fed ViewerEvent) (new : Desk) : Type 0 where
  pub feeds : FeedsOn old.share bytes fed new.share
  pub between : Bool
  pub between_is : IsBetween new.share between
  pub hold : new.hold ≡ hold_within between old.hold
  pub lines : lines_of new ≡ lines_of old
  pub keeps : KeepsGuests old new

-- it has failed at them
pub record FailsDesk (old : Desk) (bytes : List ℕ) (fault : ViewerFault) (new : Desk) : Type 0 where
  pub fails : FailsOn old.share bytes fault new.share
  pub lines : lines_of new ≡ lines_of old
  pub keeps : KeepsGuests old new

-- ---- calls of the server's viewer

-- a viewer makes a call, or refuses it, or there is no memory for its message; a share that its owner draws has none
pub data CallsShare (old : Share) (call : Call) (before : List ℕ) (result : Result (Unit {0}) AppendFault)
    (after : List ℕ) (new : Share) : Type 0 where
  NoViewer : viewer_of old ≡ None → result ≡ Err (Refused NotReady) → after ≡ before → new ≡ old →
      CallsShare old call before result after new
  Calls : (was : Viewer) → viewer_of old ≡ Some was → MakesOn old was call before result after new →
      CallsShare old call before result after new

-- so it is at a desk, and nothing else has changed
pub record CallsDesk (old : Desk) (call : Call) (before : List ℕ) (result : Result (Unit {0}) AppendFault)
    (after : List ℕ) (new : Desk) : Type 0 where
  pub share : CallsShare old.share call before result after new.share
  pub hold : new.hold ≡ old.hold
  pub lines : lines_of new ≡ lines_of old
  pub keeps : KeepsGuests old new

-- the request for what has changed of the whole screen, RFC 6143 section 7.5.3
abbrev pub whole_of : Share → Rect
whole_of share = rect 0 0 (screen_of share).width (screen_of share).height

abbrev pub ask_call : Share → Call
ask_call share = Request true (whole_of share)

-- nobody waits for an update, and nothing is asked; or somebody does, and it is asked once, unless a request is
-- outstanding
pub data AsksFrom (old : Desk) (asked : Result (Unit {0}) AppendFault) (before after : List ℕ) (new : Desk) : Type 0
  where
    NobodyWaits : (SomeAsked old.share → ⊥) → asked ≡ Ok tt → after ≡ before → new ≡ old →
        AsksFrom old asked before after new
    SomeWait : SomeAsked old.share → CallsDesk old (ask_call old.share) before asked after new →
        AsksFrom old asked before after new

-- ---- what is reported of the server

pub record TellsServer (old : Desk) (line : List ℕ) (new : Desk) : Type 0 where
  pub share : new.share ≡ old.share
  pub hold : new.hold ≡ old.hold
  pub lines : lines_of new ≡ lines_of old ++ line
  pub keeps : KeepsGuests old new

-- a bell and a text are reported
abbrev pub told_of_server : Option ViewerEvent → Option (List ℕ)
told_of_server None = None
told_of_server (Some (Reply reply)) = None
told_of_server (Some (Ready reply width height name name_length)) = None
told_of_server (Some UpdateDone) = None
told_of_server (Some Bell) = Some bell_line
told_of_server (Some (CutText kept text_length)) = Some (server_text_line kept.items)
told_of_server (Some ColourMapSkipped) = None

abbrev pub TellsSome : Desk → Option (List ℕ) → Desk → Type 0
TellsSome old None new = new ≡ old
TellsSome old (Some line) new = TellsServer old line new

-- it has gone away, and a line says so; nothing is held back for it, and the share is as it was
pub record LosesDesk (old : Desk) (gone : Gone) (new : Desk) : Type 0 where
  pub share : new.share ≡ old.share
  pub hold : new.hold ≡ Shown
  pub line : List ℕ
  pub line_is : IsDownLine gone line
  pub lines : lines_of new ≡ lines_of old ++ line
  pub keeps : KeepsGuests old new

-- ---- a server that came back

-- the picture of another viewer of the server's is shown in place of the one that was
pub record ShowsAgain (old : Desk) (viewer : Viewer) (new : Desk) : Type 0 where
  pub share : ShowsOther old.share viewer new.share
  pub hold : new.hold ≡ Shown
  pub lines : lines_of new ≡ lines_of old
  pub keeps : KeepsGuests old new

-- a share of another size is: all viewers are disconnected, and a line reports each
pub record BeginsAnew (old : Desk) (share : Share) (new : Desk) : Type 0 where
  pub set : ℕ
  pub all : (k : ℕ) → k < 8 → has_bit set k ≡ true
  pub left : Desk
  pub leaves : LetsAllGo old set left
  pub share_is : new.share ≡ share
  pub came : new.came ≡ false
  pub hold : new.hold ≡ Shown
  pub lines : lines_of new ≡ lines_of left
  pub keeps : KeepsGuests left new
