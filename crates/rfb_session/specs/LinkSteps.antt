-- The steps of a link, over the screen that its session borrows: calls of the viewer, composings, and deliveries of any
-- number of bytes either way.
use Rattle.std.specs.Prelude.{◌≡◌, ℕ, zero, suc, ◌+◌, min, Bool, List, [], ◌∷◌, ◌++◌, map, Option}
use Rattle.std.specs.Prelude.{Some, None, ◌⊎◌, ◌-◌}
use Rattle.rfb_pixel.specs.declared.colour.Colour.{Colour}
use Rattle.rfb_pixel.specs.Format.{PixelFormat}
use Rattle.rfb_picture.specs.declared.rect.Rect.{Rect}
use Rattle.rfb_picture.specs.Grid.{Grid}
use Rattle.rfb_wire.specs.declared.encoding.Encoding.{Encoding}
use Rattle.rfb_wire.specs.Encoding.{number_of}
use Rattle.rfb_wire.specs.ClientMessage.{ClientMessage, SetPixelFormat}
use Rattle.rfb_wire.specs.ClientMessage.{SetEncodings as EncodingsMessage, FramebufferUpdateRequest}
use Rattle.rfb_wire.specs.ClientMessage.{KeyEvent, PointerEvent, ClientCutText}
use Rattle.rfb_wire.specs.ServerMessage.{FramebufferUpdate}
use Rattle.rfb_wire.specs.stream.Grammar.{Grammar, sizes, IsWithinFirst}
use Rattle.rfb_wire.specs.stream.Sequel.{First, Second}
use Rattle.rfb_wire.specs.stream.End.{acts}
use Rattle.rfb_codec.specs.UpdateStream.{Message}
use Rattle.rfb_codec.specs.WholeUpdate.{update_of}
use Rattle.rfb_server.specs.Server.{server}
use Rattle.rfb_server.specs.Composition.{Part, sent_as, Composes, IsDue}
use Rattle.rfb_viewer.specs.declared.fault.CallFault.{CallFault}
use Rattle.rfb_viewer.specs.ServerBytes.{FromServer}
use Rattle.rfb_viewer.specs.Viewer.{ViewerState, viewer}
use Rattle.rfb_viewer.specs.Calls.{call_refusal, request_refusal, format_refusal, requested}
use Rattle.rfb_viewer.specs.Calls.{formatted}
use Rattle.rfb_session.specs.Link.{Ends, server_stream, viewer_stream, SessionState, server_of}
use Rattle.rfb_session.specs.Link.{session_of, LinkState}
use Rattle.rfb_session.specs.Answers.{viewer_replies, server_replies}

-- what happens on a link: the viewer's calls, a composing, and deliveries of at most a number of
-- bytes
pub data LinkEvent : Type 0 where
  Request : (incremental : Bool) → (rect : Rect) → LinkEvent
  SetFormat : (form : PixelFormat) → LinkEvent
  SetEncodings : (encodings : List Encoding) → LinkEvent
  Key : (down : Bool) → (key : ℕ) → LinkEvent
  Pointer : (buttons : ℕ) → (x : ℕ) → (y : ℕ) → LinkEvent
  CutText : (text : List ℕ) → LinkEvent
  Compose : LinkEvent
  ToServer : (count : ℕ) → LinkEvent
  ToViewer : (count : ℕ) → LinkEvent

-- ---- calls of the viewer

-- the first byte of the item under way, where this many bytes of it came: 0 of an update, another
-- of any other item
abbrev pub begun : ℕ → List FromServer → List ℕ
begun zero queue = []
begun (suc n) [] = []
begun (suc n) (First step ∷ queue) = 1 ∷ []
begun (suc n) (Second (Message (FramebufferUpdate rectangles)) ∷ queue) = 0 ∷ []
begun (suc n) (Second item ∷ queue) = 1 ∷ []

-- a call that is refused changes nothing; any other changes the viewer, and its message joins those
-- in flight to the server
abbrev pub calls : Option CallFault → LinkState → ViewerState → ClientMessage → LinkState
calls (Some fault) l viewer message = l
calls None l viewer message =
    record l { viewer = viewer; to_server = l.to_server ++ Second message ∷ [] }

-- a message that waits for the end of the handshake alone, and changes nothing of the viewer
abbrev pub sends : LinkState → ClientMessage → LinkState
sends l message = calls (call_refusal l.viewer) l l.viewer message

-- ---- composing

-- the items of an update with these rectangles
abbrev pub update_items : List Part → List Part → List FromServer
update_items copies blocks =
    map (λ item. Second item) (update_of (map sent_as (copies ++ blocks)))

-- an update is due: it joins the items in flight to the viewer, and is noted as the latest
pub record ComposesOn (screen : Grid Colour) (old new : LinkState) : Type 0 where
  pub due : IsDue (server_of screen old.session)
  pub session : SessionState
  pub bytes : List ℕ
  pub copies : List Part
  pub blocks : List Part
  pub composed :
      Composes (server_of screen old.session) (server_of screen session) bytes copies blocks
  pub result : new ≡ record old {
    session = session;
    to_viewer = old.to_viewer ++ update_items copies blocks;
    latest = Some (record { screen = screen; area = old.session.area; form = old.session.form });
  }

-- ---- deliveries

-- how many bytes are in flight to the viewer: those of the items but for what has been moved
abbrev pub flight_to_viewer : Ends → LinkState → ℕ
flight_to_viewer e l = sizes (viewer_stream e) l.to_viewer - l.at_viewer

-- and to the server
abbrev pub flight_to_server : Ends → LinkState → ℕ
flight_to_server e l = sizes (server_stream e) l.to_server - l.at_server

module _ {P I F : Type 0} where
  -- `n` bytes of a queue reach their end; `moved` bytes of its first item had before. The items that are whole with
  -- them are done, and `at` bytes of the next one have reached the end. The link becomes what is made of these
  pub record MovesBy (stream : Grammar P I F) (waiting : List I) (moved n : ℕ)
      (becomes : List I → List I → ℕ → LinkState) (new : LinkState) : Type 0 where
    pub done : List I
    pub left : List I
    pub at : ℕ
    pub queue : waiting ≡ done ++ left
    pub count : moved + n ≡ sizes stream done + at
    pub within : IsWithinFirst stream at left
    pub result : new ≡ becomes done left at

-- `n` bytes reach the viewer. The items that are whole act, one after another, and their answers join those in flight
-- to the server; the rest is a part of the next item
abbrev pub MovesToViewer : Ends → LinkState → ℕ → LinkState → Type 0
MovesToViewer e old n new =
    MovesBy (viewer_stream e) old.to_viewer old.at_viewer n (λ done left at. record old {
      viewer = acts (viewer e.viewing) old.viewer done;
      to_viewer = left;
      at_viewer = at;
      to_server = old.to_server ++ viewer_replies e.viewing old.viewer done;
    }) new

-- `n` bytes reach the server
abbrev pub MovesToServer : Ends → Grid Colour → LinkState → ℕ → LinkState → Type 0
MovesToServer e screen old n new =
    MovesBy (server_stream e) old.to_server old.at_server n (λ done left at. record old {
      session = session_of (acts (server e.serving) (server_of screen old.session) done);
      to_server = left;
      at_server = at;
      to_viewer = old.to_viewer ++ server_replies e.serving (server_of screen old.session) done;
    }) new

-- ---- one step

abbrev pub LinkSteps : Ends → Grid Colour → LinkState → LinkEvent → LinkState → Type 0
LinkSteps e screen old (Request incremental rect) new =
    new ≡ calls (request_refusal old.viewer rect) old (requested old.viewer)
    (FramebufferUpdateRequest incremental rect)
LinkSteps e screen old (SetFormat form) new =
    new ≡ calls (format_refusal old.viewer (begun old.at_viewer old.to_viewer)) old
    (formatted form old.viewer) (SetPixelFormat form)
LinkSteps e screen old (SetEncodings encodings) new =
    new ≡ sends old (EncodingsMessage (map (λ encoding. number_of encoding) encodings))
LinkSteps e screen old (Key down key) new = new ≡ sends old (KeyEvent down key)
LinkSteps e screen old (Pointer buttons x y) new = new ≡ sends old (PointerEvent buttons x y)
LinkSteps e screen old (CutText text) new = new ≡ sends old (ClientCutText text)
LinkSteps e screen old Compose new =
    ComposesOn screen old new ⊎ ((IsDue (server_of screen old.session) → ⊥) × (new ≡ old))
LinkSteps e screen old (ToServer count) new =
    MovesToServer e screen old (min count (flight_to_server e old)) new
LinkSteps e screen old (ToViewer count) new =
    MovesToViewer e old (min count (flight_to_viewer e old)) new
