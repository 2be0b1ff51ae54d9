-- Calls of a viewer at a share's seat are those of its link; and what the viewer shows.
use Rattle.std.proofs.Common.{◌-◌, ◌∷◌, map}
use Rattle.std.proofs.Common.{◌≡◌, ℕ, Bool, List, [], ◌++◌, length}
use Rattle.std.proofs.Common.{Option, Some}
use Rattle.std.proofs.Common.{None, inl, inr, refl, sym, ap, ◌∙◌, subst, arith}
use Rattle.rfb_pixel.specs.declared.colour.Colour.{Colour}
use Rattle.rfb_pixel.specs.Format.{PixelFormat}
use Rattle.rfb_picture.specs.declared.rect.Rect.{Rect}
use Rattle.rfb_picture.specs.Grid.{Grid}
use Rattle.rfb_wire.specs.ClientMessage.{ClientMessage, SetPixelFormat, FramebufferUpdateRequest}
use Rattle.rfb_wire.specs.ClientMessage.{SpellsClientMessage, SetEncodings as EncodingsMessage}
use Rattle.rfb_wire.specs.ClientMessage.{KeyEvent, PointerEvent, ClientCutText}
use Rattle.rfb_wire.specs.Encoding.{number_of}
use Rattle.rfb_wire.specs.stream.Grammar.{sizes, IsWithinFirst}
use Rattle.rfb_wire.specs.stream.End.{acts}
use Rattle.rfb_server.proofs.ServerLaws.{session_going}
use Rattle.rfb_viewer.specs.declared.viewer.Viewer.{Viewer}
use Rattle.rfb_viewer.specs.Calls.{call_refusal, requested, formatted}
use Rattle.rfb_viewer.specs.ServerBytes.{FromServer}
use Rattle.rfb_viewer.specs.ShownPieces.{Shows}
use Rattle.rfb_viewer.specs.Model.{StandsFor as ViewerStandsFor, fault_of}
use Rattle.rfb_viewer.proofs.ViewerLaws.{viewer_going}
use Rattle.rfb_viewer.specs.Viewer.{Viewing, ViewerState, viewer as viewer_end}
use Rattle.rfb_session.specs.declared.event.Event.{Event}
use Rattle.rfb_session.specs.declared.event.Event.TheVariants.{Fill as OfFill, Put as OfPut}
use Rattle.rfb_session.specs.declared.event.Event.TheVariants.{Copy as OfCopy, Hint as OfHint}
use Rattle.rfb_session.specs.declared.event.Event.TheVariants.{Compose as OfCompose}
use Rattle.rfb_session.specs.declared.event.Event.TheVariants.{Request as OfRequest}
use Rattle.rfb_session.specs.declared.event.Event.TheVariants.{SetFormat as OfFormat}
use Rattle.rfb_session.specs.declared.event.Event.TheVariants.{SetEncodings as OfEncodings}
use Rattle.rfb_session.specs.declared.event.Event.TheVariants.{Key as OfKey, Pointer as OfPointer}
use Rattle.rfb_session.specs.declared.event.Event.TheVariants.{CutText as OfText}
use Rattle.rfb_session.specs.declared.event.Event.TheVariants.{ToServer as OfServer}
use Rattle.rfb_session.specs.declared.event.Event.TheVariants.{ToViewer as OfViewer}
use Rattle.rfb_session.specs.declared.share.Share.{Share}
use Rattle.rfb_session.specs.declared.share.seat.ShareSeat.{ShareSeat}
use Rattle.rfb_session.specs.InFlight.{Flies}
use Rattle.rfb_session.specs.Headline.{due_picture}
use Rattle.rfb_session.specs.Link.{Ends}
use Rattle.rfb_session.specs.Link.{viewer_stream}
use Rattle.rfb_session.specs.LinkSteps.{calls, flight_to_viewer}
use Rattle.rfb_session.specs.Network.{Network, Steps}
use Rattle.rfb_session.specs.Share.{waits_at, waiting_for, fault_in}
use Rattle.rfb_session.specs.Share.{fault_for}
use Rattle.rfb_session.specs.ShareSeats.{waiting_in}
use Rattle.rfb_session.specs.ShareViewers.{IsWatchedBy, GoesOn, Requests, AsksFormat, MaySend}
use Rattle.rfb_session.specs.ShareViewers.{plain_message}
use Rattle.rfb_session.proofs.MoveLemmas.{viewer_flight, format_flies}
use Rattle.rfb_session.proofs.NetworkLemmas.{reached_holds}
use Rattle.rfb_session.proofs.SentLemmas.{called_flies, refusal_same}
use Rattle.rfb_session.proofs.CalledLemmas.{call_ready, request_ready}
use Rattle.rfb_session.proofs.ShownLemmas.{shown_whole, no_bytes}
use Rattle.rfb_session.proofs.WorldLemmas.{reached_step}

-- ---- calls of the viewer

-- its message joins those in flight to the seat
called_watched : (e : Ends) (share : Share) (k : ℕ) (old new : Viewer) (to_server on_way : List ℕ)
    (bytes : List ℕ) (message : ClientMessage) (v : ViewerState) (n : Network)
    (w : IsWatchedBy e share k old to_server on_way n) (event : Event) →
    Steps e n event (record n { link = calls None n.link v message }) →
    ViewerStandsFor e.viewing new v w.carries.viewer_has →
    Flies e (calls None n.link v message) (record {
      viewer_has = w.carries.viewer_has;
      viewer_gets = on_way ++ waiting_in w.seat;
      server_has = w.carries.server_has;
      server_gets = to_server ++ bytes;
    }) → GoesOn e n share k new (to_server ++ bytes) on_way
called_watched e share k old new to_server on_way bytes message v n w event step stands flies = (
  record n { link = calls None n.link v message },
  inr (inl (event, step)),
  record {
    seat = w.seat;
    there = w.there;
    screen_is = w.screen_is;
    reached = reached_step e n (record n { link = calls None n.link v message }) event w.reached
        step;
    carries = record {
      server_has = w.carries.server_has;
      viewer_has = w.carries.viewer_has;
      server_is = w.carries.server_is;
      viewer_is = stands;
      flies = flies;
    };
  },
)

pub watched_requested : (e : Ends) (share : Share) (k : ℕ) (old new : Viewer)
    (incremental : Bool) (rect : Rect) (bytes to_server on_way : List ℕ) (n : Network) →
    Requests e rect old new →
    SpellsClientMessage (FramebufferUpdateRequest incremental rect) bytes →
    IsWatchedBy e share k old to_server on_way n → GoesOn e n share k new (to_server ++ bytes) on_way
watched_requested e share k old new incremental rect bytes to_server on_way n asks spelled w =
    let c = w.carries in
    let none = asks.taken n.link.viewer c.viewer_has c.viewer_is in
    let ready = request_ready n.link.viewer.point n.link.viewer.outstanding rect none in
    called_watched e share k old new to_server on_way bytes
    (FramebufferUpdateRequest incremental rect) (requested n.link.viewer) n w
    (OfRequest incremental rect) (
      refl,
      ap (λ o. calls o n.link (requested n.link.viewer)
          (FramebufferUpdateRequest incremental rect)) none,
    )
    (asks.stands n.link.viewer c.viewer_has c.viewer_is)
    (called_flies e n.link _ ready.0 (requested n.link.viewer)
    (FramebufferUpdateRequest incremental rect) bytes (reached_holds e n w.reached).phase ready.1
    c.flies c.flies.to_viewer spelled)

pub watched_formatted : (e : Ends) (share : Share) (k : ℕ) (old new : Viewer)
    (form : PixelFormat) (bytes to_server on_way : List ℕ) (n : Network) → AsksFormat e form old new →
    SpellsClientMessage (SetPixelFormat form) bytes →
    IsWatchedBy e share k old to_server on_way n → GoesOn e n share k new (to_server ++ bytes) on_way
watched_formatted e share k old new form bytes to_server on_way n asks spelled w =
    let c = w.carries in
    let phase = (reached_holds e n w.reached).phase in
    let none = asks.taken n.link.viewer c.viewer_has c.viewer_is in
    let same = refusal_same e n.link _ phase c.flies in
    called_watched e share k old new to_server on_way bytes (SetPixelFormat form)
    (formatted form n.link.viewer) n w (OfFormat form) (
      refl,
      ap (λ o. calls o n.link (formatted form n.link.viewer) (SetPixelFormat form))
          (none ∙ same),
    )
    (asks.stands n.link.viewer c.viewer_has c.viewer_is)
    (format_flies e n.link _ form bytes phase c.flies (sym none) spelled)

-- a message that changes nothing of the viewer, as an event
pub watched_sent : (e : Ends) (share : Share) (k : ℕ) (viewer : Viewer) (message : ClientMessage)
    (event : Event) (bytes to_server on_way : List ℕ) (n : Network) → MaySend e viewer →
    ((old new : Network) → new.screen ≡ old.screen →
    new.link ≡ calls (call_refusal old.link.viewer) old.link old.link.viewer message → Steps e old event new) →
    SpellsClientMessage message bytes →
    IsWatchedBy e share k viewer to_server on_way n →
    GoesOn e n share k viewer (to_server ++ bytes) on_way
watched_sent e share k viewer message event bytes to_server on_way n may steps spelled w =
    let c = w.carries in
    let none = may n.link.viewer c.viewer_has c.viewer_is in
    let ready = call_ready n.link.viewer.point none in
    called_watched e share k viewer viewer to_server on_way bytes message n.link.viewer n w event
    (steps n (record n { link = calls None n.link n.link.viewer message }) refl
    (ap (λ o. calls o n.link n.link.viewer message) none))
    c.viewer_is
    (called_flies e n.link _ ready.0 n.link.viewer message bytes
    (reached_holds e n w.reached).phase ready.1 c.flies c.flies.to_viewer spelled)

-- the event of a message that changes nothing of the viewer is a step of the link
pub plain_steps : (e : Ends) (message : ClientMessage) (event : Event) → plain_message event ≡ Some message →
    (old new : Network) → new.screen ≡ old.screen →
    new.link ≡ calls (call_refusal old.link.viewer) old.link old.link.viewer message → Steps e old event new
plain_steps e message event is old new screen link = by event is
  where
    goes : (sent : ClientMessage) → Some sent ≡ Some message →
        new.link ≡ calls (call_refusal old.link.viewer) old.link old.link.viewer sent
    goes sent same = link ∙ ap (λ (m : ClientMessage). calls (call_refusal old.link.viewer) old.link
        old.link.viewer m) (one sent message (sym same))
      where
        one : (a b : ClientMessage) → Some b ≡ Some a → b ≡ a
        one a b same = cc

    apart : None ≡ Some message → ⊥
    apart same = cc

    by : (happens : Event) → plain_message happens ≡ Some message → Steps e old happens new
    by (OfEncodings list) same =
        (screen, goes (EncodingsMessage (map (λ encoding. number_of encoding) list.items)) same)
    by (OfKey down key) same = (screen, goes (KeyEvent down key) same)
    by (OfPointer buttons x y) same = (screen, goes (PointerEvent buttons x y) same)
    by (OfText text) same = (screen, goes (ClientCutText text.items) same)
    by (OfFill rect colour) same = absurd (apart same)
    by (OfPut x y row) same = absurd (apart same)
    by (OfCopy rect sx sy) same = absurd (apart same)
    by (OfHint rect sx sy) same = absurd (apart same)
    by (OfRequest incremental rect) same = absurd (apart same)
    by (OfFormat form) same = absurd (apart same)
    by OfCompose same = absurd (apart same)
    by (OfServer count) same = absurd (apart same)
    by (OfViewer count) same = absurd (apart same)

pub watched_plain : (e : Ends) (share : Share) (k : ℕ) (viewer : Viewer) (message : ClientMessage)
    (event : Event) (bytes to_server on_way : List ℕ) (n : Network) → MaySend e viewer →
    plain_message event ≡ Some message → SpellsClientMessage message bytes →
    IsWatchedBy e share k viewer to_server on_way n →
    GoesOn e n share k viewer (to_server ++ bytes) on_way
watched_plain e share k viewer message event bytes to_server on_way n may is spelled w =
    watched_sent e share k viewer message event bytes to_server on_way n may (plain_steps e message event is)
    spelled w

-- ---- what it shows

-- where no byte is in flight, no item is
none_left : (e : Ends) (queue : List FromServer) (at : ℕ) →
    IsWithinFirst (viewer_stream e) at queue → sizes (viewer_stream e) queue - at ≡ 0 → queue ≡ []
none_left e [] at within is = refl
none_left e (item ∷ items) at within is = absurd (omega (arith, within, is))

pub watched_arrived : (e : Ends) (share : Share) (k : ℕ) (viewer : Viewer) (to_server : List ℕ)
    (n : Network) (stored : Option (Grid Colour)) → waits_at share k ≡ [] →
    IsWatchedBy e share k viewer to_server [] n →
    ((viewing : Viewing) (s : ViewerState) (prefix : List ℕ) →
    ViewerStandsFor viewing viewer s prefix → Shows s prefix stored) →
    stored ≡ due_picture e n.link
watched_arrived e share k viewer to_server n stored waits w shows =
    let c = w.carries in
    let empty : waiting_in w.seat ≡ [] =
    sym (ap (λ (o : Option ShareSeat). waiting_for o) w.there) ∙ waits in
    let none : 0 ≡ flight_to_viewer e n.link =
    sym (ap (λ (q : List ℕ). length q) empty) ∙ viewer_flight e n.link _ c.flies in
    let left : n.link.to_viewer ≡ [] =
    none_left e n.link.to_viewer n.link.at_viewer c.flies.viewer_within (sym none) in
    let start : n.link.at_viewer ≡ 0 =
    subst (λ (q : List FromServer). IsWithinFirst (viewer_stream e) n.link.at_viewer q) left
    c.flies.viewer_within in
    let bare : c.viewer_has ≡ [] = no_bytes c.viewer_has (c.flies.at_viewer ∙ start) in
    let here : Shows n.link.viewer [] stored =
    subst (λ (bytes : List ℕ). Shows n.link.viewer bytes stored) bare
    (shows e.viewing n.link.viewer c.viewer_has c.viewer_is) in
    shown_whole n.link.viewer.point n.link.viewer.picture stored here
    ∙ sym (ap (λ (q : List FromServer). (acts (viewer_end e.viewing) n.link.viewer q).picture) left)

-- neither end has failed
pub watched_going : (e : Ends) (share : Share) (k : ℕ) (viewer : Viewer)
    (to_server on_way : List ℕ) (n : Network) → IsWatchedBy e share k viewer to_server on_way n →
    (fault_in share k ≡ None) × (fault_of viewer ≡ None)
watched_going e share k viewer to_server on_way n w = (
  ap (λ (o : Option ShareSeat). fault_for o) w.there
      ∙ session_going e.serving n.screen w.seat.session _ _ w.carries.server_is,
  viewer_going e.viewing viewer _ _ w.carries.viewer_is,
)
