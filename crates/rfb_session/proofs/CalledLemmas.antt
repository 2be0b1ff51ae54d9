-- Calls on the viewer of a link: a message is in flight, or nothing has changed.
use Rattle.std.proofs.Common.{◌≡◌, ℕ, Bool, List, [], ◌++◌, Option, None, Some, refl, sym, ap, ◌∙◌, subst}
use Rattle.rfb_pixel.specs.Format.{PixelFormat}
use Rattle.rfb_picture.specs.declared.rect.Rect.{Rect}
use Rattle.rfb_wire.specs.ClientMessage.{ClientMessage, SetPixelFormat, FramebufferUpdateRequest, SpellsClientMessage}
use Rattle.rfb_wire.specs.stream.Sequel.{First, Second}
use Rattle.rfb_wire.specs.stream.Grammar.{ReadsAll}
use Rattle.rfb_codec.specs.UpdateStream.{UpdatePoint}
use Rattle.rfb_viewer.specs.declared.call.Call.{Call}
use Rattle.rfb_viewer.specs.declared.call.Call.TheVariants.{Request as RequestCall}
use Rattle.rfb_viewer.specs.declared.call.Call.TheVariants.{SetFormat as FormatCall}
use Rattle.rfb_viewer.specs.declared.call.Call.TheVariants.{SetEncodings as EncodingsCall}
use Rattle.rfb_viewer.specs.declared.call.Call.TheVariants.{Key as KeyCall, Pointer as PointerCall}
use Rattle.rfb_viewer.specs.declared.call.Call.TheVariants.{CutText as TextCall}
use Rattle.rfb_viewer.specs.Call.{message_of, message_bytes, refusal_for, called}
use Rattle.rfb_viewer.specs.declared.fault.CallFault.{CallFault}
use Rattle.rfb_viewer.specs.declared.fault.CallFault.TheVariants.{NotReady, Busy, AreaOutside}
use Rattle.rfb_viewer.specs.declared.viewer.Viewer.{Viewer}
use Rattle.rfb_viewer.specs.ServerBytes.{ServerAt}
use Rattle.rfb_viewer.specs.Viewer.{ViewerState}
use Rattle.rfb_viewer.specs.Calls.{call_refusal, call_refused, request_refused, request_refusal, format_refusal}
use Rattle.rfb_viewer.specs.Calls.{requested, formatted}
use Rattle.rfb_viewer.specs.Model.{StandsFor as ViewerStandsFor}
use Rattle.rfb_session.specs.declared.latest.Latest.{Latest}
use Rattle.rfb_session.specs.declared.told.Refused.{Refused}
use Rattle.rfb_session.specs.declared.link.Link.{Link}
use Rattle.rfb_session.specs.Latest.{composing_in}
use Rattle.rfb_session.specs.Link.{Ends}
use Rattle.rfb_session.specs.LinkSteps.{begun, calls}
use Rattle.rfb_session.specs.InFlight.{Flight, Flies}
use Rattle.rfb_session.specs.Network.{Network, IsReached}
use Rattle.rfb_session.specs.Told.{refused_as}
use Rattle.rfb_session.specs.LinkModel.{LinkStandsFor}
use Rattle.rfb_session.specs.LinkBytes.{IsCalled, OnlySends, SendsMessage}
use Rattle.rfb_session.specs.LinkCalls.{refusal_at}
use Rattle.rfb_session.specs.declared.told.Told.{Told}
use Rattle.rfb_session.proofs.NetworkLemmas.{reached_holds}
use Rattle.rfb_session.proofs.AnswerLemmas.{to_viewer_stream}
use Rattle.rfb_session.proofs.SentLemmas.{called_flies, refusal_same}
use Rattle.rfb_session.proofs.MoveLemmas.{format_flies}

-- a call became a step of the link: it was taken or refused, and its message is in flight or not
abbrev pub Called : Ends → Link → Link → Network → Option CallFault → ViewerState →
    ClientMessage → Type 0
Called e old new n refusal v message =
    (m : Network) × ((m.screen ≡ n.screen) × (m.link ≡ calls refusal n.link v message))
    × LinkStandsFor e n.screen new m.link

-- a link is as it was
pub record IsSameLink (old new : Link) : Type 0 where
  pub session : new.session ≡ old.session
  pub viewer : new.viewer ≡ old.viewer
  pub to_server : new.to_server ≡ old.to_server
  pub to_viewer : new.to_viewer ≡ old.to_viewer
  pub latest : new.latest ≡ old.latest

pub same_stands : (e : Ends) (old new : Link) (n : Network) → IsSameLink old new →
    LinkStandsFor e n.screen old n.link → LinkStandsFor e n.screen new n.link
same_stands e old new n same stands = record {
  carries = rw (same.session, same.viewer, same.to_server, same.to_viewer) stands.carries;
  latest_is = stands.latest_is ∙ ap (λ l. composing_in l) (sym same.latest);
}

-- what is in flight on a link
abbrev flight_of : (e : Ends) (w : Link) (n : Network) → LinkStandsFor e n.screen w n.link → Flight
flight_of e w n stands = record {
  viewer_has = stands.carries.viewer_has;
  viewer_gets = w.to_viewer;
  server_has = stands.carries.server_has;
  server_gets = w.to_server;
}

-- it was taken
taken : (e : Ends) (old new : Link) (n : Network) (refusal : Option CallFault) (v : ViewerState)
    (message : ClientMessage) (bytes : List ℕ) (call : ViewerState → ViewerState)
    (stands : LinkStandsFor e n.screen old n.link) →
    None ≡ refusal → ViewerStandsFor e.viewing new.viewer v stands.carries.viewer_has →
    Flies e (calls None n.link v message)
    (record (flight_of e old n stands) { server_gets = old.to_server ++ bytes }) →
    OnlySends call bytes old new → Called e old new n refusal v message
taken e old new n refusal v message bytes call stands none viewer_is flies only = (
  record n { link = calls None n.link v message },
  (refl, ap (λ (o : Option CallFault). calls o n.link v message) none),
  record {
    carries = rw (only.session, only.to_server, only.to_viewer) (record {
      server_has = stands.carries.server_has;
      viewer_has = stands.carries.viewer_has;
      server_is = stands.carries.server_is;
      viewer_is = viewer_is;
      flies = flies;
    });
    latest_is = stands.latest_is ∙ ap (λ (l : Latest). composing_in l) (sym only.latest);
  },
)

-- it was refused
pub refused : (e : Ends) (old new : Link) (n : Network) (refusal : Option CallFault)
    (v : ViewerState) (message : ClientMessage) (fault : CallFault) → LinkStandsFor e n.screen old n.link →
    Some fault ≡ refusal → IsSameLink old new → Called e old new n refusal v message
refused e old new n refusal v message fault stands some same = (
  n,
  (refl, ap (λ (o : Option CallFault). calls o n.link v message) some),
  same_stands e old new n same stands,
)

-- the viewer that takes it is ready
pub call_ready : (at : ServerAt) → None ≡ call_refused at → (p : UpdatePoint) × (at ≡ Second p)
call_ready (First point) none = absurd cc
call_ready (Second p) none = (p, refl)

pub request_ready : (at : ServerAt) (outstanding : Bool) (rect : Rect) →
    None ≡ request_refused at outstanding rect → (p : UpdatePoint) × (at ≡ Second p)
request_ready (First point) outstanding rect none = absurd cc
request_ready (Second p) outstanding rect none = (p, refl)

-- a message of a viewer that is ready, and whose point is as it was
message_flies : (e : Ends) (w : Link) (n : Network) (stands : LinkStandsFor e n.screen w n.link) (v : ViewerState)
    (message : ClientMessage) (bytes : List ℕ) (p : UpdatePoint) → IsReached e n →
    n.link.viewer.point ≡ Second p → v.point ≡ n.link.viewer.point →
    SpellsClientMessage message bytes →
    Flies e (calls None n.link v message)
    (record (flight_of e w n stands) { server_gets = w.to_server ++ bytes })
message_flies e w n stands v message bytes p reached ready same spelled =
    called_flies e n.link (flight_of e w n stands) p v message bytes
    (reached_holds e n reached).phase ready stands.carries.flies
    (subst (λ (at : ServerAt). ReadsAll (to_viewer_stream e) at
    (stands.carries.viewer_has ++ w.to_viewer) n.link.to_viewer [])
    (sym same) stands.carries.flies.to_viewer) spelled

-- a viewer that is the same is called so
pub called_same : (v : Viewer) → IsCalled (λ s. s) v v
called_same v = record {
  stands = λ viewing s prefix stands. stands;
  picture = refl;
  damage = refl;
  ended = refl;
  rest = record { fault = refl; reason = refl; offered = refl; made = refl; taken = refl };
}

-- ---- each kind of call

-- a request
pub request_taken : (e : Ends) (old new : Link) (n : Network) (incremental : Bool) (rect : Rect)
    (bytes : List ℕ) (stands : LinkStandsFor e n.screen old n.link) → IsReached e n →
    None ≡ request_refusal n.link.viewer rect →
    SpellsClientMessage (FramebufferUpdateRequest incremental rect) bytes →
    OnlySends (λ s. requested s) bytes old new →
    Called e old new n (request_refusal n.link.viewer rect) (requested n.link.viewer)
    (FramebufferUpdateRequest incremental rect)
request_taken e old new n incremental rect bytes stands reached none spelled only =
    let has = stands.carries in
    let ready = request_ready n.link.viewer.point n.link.viewer.outstanding rect none in
    taken e old new n _ (requested n.link.viewer) (FramebufferUpdateRequest incremental rect) bytes
    (λ s. requested s) stands none
    (only.viewer.stands e.viewing n.link.viewer has.viewer_has has.viewer_is)
    (message_flies e old n stands (requested n.link.viewer)
    (FramebufferUpdateRequest incremental rect) bytes ready.0 reached ready.1 refl spelled) only

-- a format is refused by the bytes that came of an item as by the item
pub format_same : (e : Ends) (w : Link) (n : Network) (stands : LinkStandsFor e n.screen w n.link) →
    IsReached e n → format_refusal n.link.viewer stands.carries.viewer_has
    ≡ format_refusal n.link.viewer (begun n.link.at_viewer n.link.to_viewer)
format_same e w n stands reached =
    refusal_same e n.link (flight_of e w n stands) (reached_holds e n reached).phase
    stands.carries.flies

-- a format
pub format_taken : (e : Ends) (old new : Link) (n : Network) (form : PixelFormat)
    (bytes : List ℕ) (stands : LinkStandsFor e n.screen old n.link) → IsReached e n →
    None ≡ format_refusal n.link.viewer stands.carries.viewer_has →
    SpellsClientMessage (SetPixelFormat form) bytes → OnlySends (λ s. formatted form s) bytes old new →
    Called e old new n (format_refusal n.link.viewer (begun n.link.at_viewer n.link.to_viewer))
    (formatted form n.link.viewer) (SetPixelFormat form)
format_taken e old new n form bytes stands reached none spelled only =
    let has = stands.carries in
    let phase = (reached_holds e n reached).phase in
    let same = format_same e old n stands reached in
    taken e old new n _ (formatted form n.link.viewer) (SetPixelFormat form) bytes
    (λ s. formatted form s) stands (none ∙ same)
    (only.viewer.stands e.viewing n.link.viewer has.viewer_has has.viewer_is)
    (format_flies e n.link (flight_of e old n stands) form bytes phase stands.carries.flies
    (sym none) spelled) only

-- a message that waits for the end of the handshake alone
pub message_taken : (e : Ends) (old new : Link) (n : Network) (message : ClientMessage)
    (bytes : List ℕ) → LinkStandsFor e n.screen old n.link → IsReached e n →
    None ≡ call_refusal n.link.viewer →
    SpellsClientMessage message bytes → OnlySends (λ s. s) bytes old new →
    Called e old new n (call_refusal n.link.viewer) n.link.viewer message
message_taken e old new n message bytes stands reached none spelled only =
    let has = stands.carries in
    let ready = call_ready n.link.viewer.point none in
    taken e old new n _ n.link.viewer message bytes (λ s. s) stands none
    (only.viewer.stands e.viewing n.link.viewer has.viewer_has has.viewer_is)
    (message_flies e old n stands n.link.viewer message bytes ready.0 reached ready.1 refl spelled)
    only

-- ---- whichever it is

-- it is refused by what the viewer has of an item as by the items in flight
pub refusal_there : (e : Ends) (w : Link) (n : Network) (call : Call)
    (stands : LinkStandsFor e n.screen w n.link) → IsReached e n →
    refusal_for n.link.viewer stands.carries.viewer_has call ≡ refusal_at n.link call
refusal_there e w n (RequestCall incremental rect) stands reached = refl
refusal_there e w n (FormatCall format) stands reached = format_same e w n stands reached
refusal_there e w n (EncodingsCall encodings) stands reached = refl
refusal_there e w n (KeyCall down key) stands reached = refl
refusal_there e w n (PointerCall buttons x y) stands reached = refl
refusal_there e w n (TextCall text) stands reached = refl

pub call_taken : (e : Ends) (old new : Link) (n : Network) (call : Call)
    (stands : LinkStandsFor e n.screen old n.link) → IsReached e n →
    None ≡ refusal_for n.link.viewer stands.carries.viewer_has call →
    SpellsClientMessage (message_of call) (message_bytes call) →
    OnlySends (λ s. called call s) (message_bytes call) old new →
    Called e old new n (refusal_at n.link call) (called call n.link.viewer) (message_of call)
call_taken e old new n (RequestCall incremental rect) stands reached none spelled only =
    request_taken e old new n incremental rect _ stands reached none spelled only
call_taken e old new n (FormatCall format) stands reached none spelled only =
    format_taken e old new n format _ stands reached none spelled only
call_taken e old new n (EncodingsCall encodings) stands reached none spelled only =
    message_taken e old new n _ _ stands reached none spelled only
call_taken e old new n (KeyCall down key) stands reached none spelled only =
    message_taken e old new n _ _ stands reached none spelled only
call_taken e old new n (PointerCall buttons x y) stands reached none spelled only =
    message_taken e old new n _ _ stands reached none spelled only
call_taken e old new n (TextCall text) stands reached none spelled only =
    message_taken e old new n _ _ stands reached none spelled only

pub call_refused_there : (e : Ends) (old new : Link) (n : Network) (call : Call) (fault : CallFault)
    (stands : LinkStandsFor e n.screen old n.link) → IsReached e n →
    Some fault ≡ refusal_for n.link.viewer stands.carries.viewer_has call → IsSameLink old new →
    Called e old new n (refusal_at n.link call) (called call n.link.viewer) (message_of call)
call_refused_there e old new n call fault stands reached some same =
    refused e old new n _ _ _ fault stands (some ∙ refusal_there e old n call stands reached) same

-- ---- what is refused

pub no_refusal : (refused : Refused) → Some refused ≡ None → ⊥
no_refusal refused is = absurd cc

-- a call that is taken is not one that is refused
pub not_taken : (refusal : Option CallFault) (refused : Refused) → None ≡ refusal →
    Some refused ≡ refused_as refusal → ⊥
not_taken None refused none is = no_refusal refused is
not_taken (Some fault) refused none is = absurd cc

-- what is answered to a refusal is one
pub is_refusal : (fault : CallFault) (told : Option Refused) → told ≡ refused_as (Some fault) →
    told ≡ None → ⊥
is_refusal NotReady told is none = cc
is_refusal Busy told is none = cc
is_refusal AreaOutside told is none = cc

-- ---- what becomes of the bytes

-- a call that was taken, whose message is the one that is promised
pub sends_message : (message : ClientMessage) (made bytes : List ℕ) (call : ViewerState → ViewerState)
    (refusal : Option CallFault) (old new : Link) (told : Told) → told.refused ≡ refused_as refusal →
    made ≡ bytes → SpellsClientMessage message made → OnlySends call made old new →
    SendsMessage message bytes call refusal old told new
sends_message message made bytes call refusal old new told is same spelled only = record {
  refused = is;
  sent = λ taken. subst (λ (b : List ℕ). SpellsClientMessage message b × OnlySends call b old new) same
      (spelled, only);
}

-- one that was refused
pub sends_none : (message : ClientMessage) (bytes : List ℕ) (call : ViewerState → ViewerState)
    (refusal : Option CallFault) (fault : CallFault) (old new : Link) (told : Told) →
    told.refused ≡ refused_as (Some fault) → Some fault ≡ refusal →
    SendsMessage message bytes call refusal old told new
sends_none message bytes call refusal fault old new told answered is = record {
  refused = answered ∙ ap (λ (o : Option CallFault). refused_as o) is;
  sent = λ taken. absurd (is_refusal fault told.refused answered taken);
}
