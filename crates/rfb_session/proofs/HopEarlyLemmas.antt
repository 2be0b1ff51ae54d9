-- The end of an update is told of one that the server has composed.
use Rattle.std.proofs.Common.{◌≡◌, ◌⊎◌, ◌==◌, ◌&&◌, ℕ, Bool, true, false, List, [], ◌∷◌}
use Rattle.std.proofs.Common.{◌++◌, map}
use Rattle.std.proofs.Common.{Option, Some, None, inl, inr, refl, sym, ap, subst}
use Rattle.std.proofs.Common.{if◌then◌else◌}
use Rattle.rfb_pixel.specs.declared.colour.Colour.{Colour}
use Rattle.rfb_picture.specs.Grid.{Grid}
use Rattle.rfb_wire.specs.ClientMessage.{ClientMessage}
use Rattle.rfb_wire.specs.ServerMessage.{FramebufferUpdate, SetColorMapEntries, Bell as BellMessage, ServerCutText}
use Rattle.rfb_wire.specs.stream.Both.{event_as}
use Rattle.rfb_wire.specs.stream.End.{acts, EndsWith}
use Rattle.rfb_wire.specs.stream.Sequel.{First, Second}
use Rattle.rfb_codec.specs.UpdateStream.{UpdatePoint, UpdateItem, Message, Rectangle}
use Rattle.rfb_hello.specs.ClientHandshake.{ClientPoint, AwaitsVersion, AwaitsChoice, AwaitsInit, Begun}
use Rattle.rfb_hello.specs.ClientHandshake.{ClientItem, ProtocolVersion, SecurityType, ClientInit}
use Rattle.rfb_hello.specs.ServerAnswers.{types_asked, result_asked, init_asked}
use Rattle.rfb_hello.specs.ServerHandshake.{ServerItem}
use Rattle.rfb_hello.specs.ViewerEnd.{viewer_tells as handshake_tells}
use Rattle.rfb_hello.specs.declared.step.ViewerStep.{ViewerStep}
use Rattle.rfb_hello.specs.declared.step.ViewerStep.TheVariants.{Reply as ReplyStep, Screen as ScreenStep}
use Rattle.rfb_hello.specs.declared.step.ViewerStep.TheVariants.{Ready as ReadyStep}
use Rattle.rfb_server.specs.ClientBytes.{ClientAt, FromClient}
use Rattle.rfb_server.specs.Server.{Serving, ServerState, serves}
use Rattle.rfb_viewer.specs.declared.fault.CallFault.{CallFault}
use Rattle.rfb_viewer.specs.Messages.{ready_bytes}
use Rattle.rfb_viewer.specs.ServerBytes.{ServerAt, FromServer}
use Rattle.rfb_viewer.specs.Told.{UpdateDone, is_last, item_told, done_told, step_told}
use Rattle.rfb_viewer.specs.Viewer.{Viewing, ViewerState, viewer as viewer_end, shows, ends_update, told_at}
use Rattle.rfb_session.specs.Answers.{answers_to_client, server_answers, server_replies}
use Rattle.rfb_session.specs.Headline.{AnswersSome}
use Rattle.rfb_session.specs.Link.{Ends, Composing, LinkState, server_of}
use Rattle.rfb_session.specs.LinkSteps.{calls, LinkEvent, LinkSteps}
use Rattle.rfb_session.specs.LinkSteps.{Request as AsRequest, SetFormat as AsFormat}
use Rattle.rfb_session.specs.LinkSteps.{SetEncodings as AsEncodings, Key as AsKey, Pointer as AsPointer}
use Rattle.rfb_session.specs.LinkSteps.{CutText as AsText, Compose as AsComposing, ToServer as AsServer}
use Rattle.rfb_session.specs.LinkSteps.{ToViewer as AsViewer}
use Rattle.rfb_session.specs.Network.{Network, Leads, Still, Then, IsReached}
use Rattle.rfb_session.proofs.HopGoesLemmas.{Links, Same, Does, goes_links}

-- ---- until an update is composed nothing but the handshake is on its way

abbrev pub AreSteps : List FromServer → Type 0
AreSteps [] = Unit {0}
AreSteps (First step ∷ items) = AreSteps items
AreSteps (Second item ∷ items) = ⊥

-- so it is, or one was composed
abbrev pub IsEarly : LinkState → Type 0
IsEarly l = AreSteps l.to_viewer ⊎ AnswersSome l.latest

steps_join : (xs ys : List FromServer) → AreSteps xs → AreSteps ys → AreSteps (xs ++ ys)
steps_join [] ys one two = two
steps_join (First step ∷ xs) ys one two = steps_join xs ys one two
steps_join (Second item ∷ xs) ys one two = absurd one

steps_left : (xs ys : List FromServer) → AreSteps (xs ++ ys) → AreSteps ys
steps_left [] ys all = all
steps_left (First step ∷ xs) ys all = steps_left xs ys all
steps_left (Second item ∷ xs) ys all = absurd all

all_steps : (steps : List ServerItem) → AreSteps (map (λ step. First step) steps)
all_steps [] = tt
all_steps (step ∷ steps) = all_steps steps

answer_steps : (serving : Serving) (point : ClientPoint) (step : ClientItem) →
    AreSteps (answers_to_client serving point step)
answer_steps serving AwaitsVersion (ProtocolVersion version) = all_steps (types_asked version)
answer_steps serving AwaitsVersion SecurityType = tt
answer_steps serving AwaitsVersion (ClientInit shared) = tt
answer_steps serving (AwaitsChoice v) (ProtocolVersion version) = tt
answer_steps serving (AwaitsChoice v) SecurityType = all_steps (result_asked v)
answer_steps serving (AwaitsChoice v) (ClientInit shared) = tt
answer_steps serving (AwaitsInit v) (ProtocolVersion version) = tt
answer_steps serving (AwaitsInit v) SecurityType = tt
answer_steps serving (AwaitsInit v) (ClientInit shared) = all_steps (init_asked serving.hello)
answer_steps serving (Begun v b) step = tt

answers_steps : (serving : Serving) (at : ClientAt) (item : FromClient) → AreSteps (server_answers serving at item)
answers_steps serving (First point) (First step) = answer_steps serving point step
answers_steps serving (First point) (Second message) = tt
answers_steps serving (Second between) (First step) = tt
answers_steps serving (Second between) (Second message) = tt

replies_steps : (serving : Serving) (s : ServerState) (items : List FromClient) →
    AreSteps (server_replies serving s items)
replies_steps serving s [] = tt
replies_steps serving s (item ∷ items) =
    steps_join (server_answers serving s.point item) (server_replies serving (serves serving s item) items)
    (answers_steps serving s.point item) (replies_steps serving (serves serving s item) items)

called_early : (o : Option CallFault) (l : LinkState) (v : ViewerState) (message : ClientMessage) → IsEarly l →
    IsEarly (calls o l v message)
called_early (Some fault) l v message early = early
called_early None l v message early = early

same_early : (old new : LinkState) → new.to_viewer ≡ old.to_viewer → new.latest ≡ old.latest →
    IsEarly old → IsEarly new
same_early old new queue latest (inl steps) = inl (subst (λ (q : List FromServer). AreSteps q) (sym queue) steps)
same_early old new queue latest (inr some) = inr (subst (λ (o : Option Composing). AnswersSome o) (sym latest) some)

pub first_holds : (a b : Bool) → (a && b) ≡ true → a ≡ true
first_holds true b both = refl
first_holds false b both = absurd cc

link_early : (e : Ends) (screen : Grid Colour) (old new : LinkState) (event : LinkEvent) →
    LinkSteps e screen old event new → IsEarly old → IsEarly new
link_early e screen old new (AsRequest incremental rect) step early =
    subst (λ (l : LinkState). IsEarly l) (sym step) (called_early _ old _ _ early)
link_early e screen old new (AsFormat form) step early =
    subst (λ (l : LinkState). IsEarly l) (sym step) (called_early _ old _ _ early)
link_early e screen old new (AsEncodings encodings) step early =
    subst (λ (l : LinkState). IsEarly l) (sym step) (called_early _ old _ _ early)
link_early e screen old new (AsKey down key) step early =
    subst (λ (l : LinkState). IsEarly l) (sym step) (called_early _ old _ _ early)
link_early e screen old new (AsPointer buttons x y) step early =
    subst (λ (l : LinkState). IsEarly l) (sym step) (called_early _ old _ _ early)
link_early e screen old new (AsText text) step early =
    subst (λ (l : LinkState). IsEarly l) (sym step) (called_early _ old _ _ early)
link_early e screen old new AsComposing (inl composed) early =
    let due = composed.due in
    inr (subst (λ (l : LinkState). AnswersSome l.latest) (sym composed.result)
    (due.x, due.y, due.is_place.0, due.is_place.1, first_holds _ _ due.needs))
link_early e screen old new AsComposing (inr idle) early = subst (λ (l : LinkState). IsEarly l) (sym idle.1) early
link_early e screen old new (AsServer count) moves (inl steps) =
    inl (subst (λ (l : LinkState). AreSteps l.to_viewer) (sym moves.result)
    (steps_join old.to_viewer _ steps (replies_steps e.serving (server_of screen old.session) moves.done)))
link_early e screen old new (AsServer count) moves (inr some) =
    inr (subst (λ (l : LinkState). AnswersSome l.latest) (sym moves.result) some)
link_early e screen old new (AsViewer count) moves (inl steps) =
    inl (subst (λ (l : LinkState). AreSteps l.to_viewer) (sym moves.result)
    (steps_left moves.done moves.left (subst (λ (q : List FromServer). AreSteps q) moves.queue steps)))
link_early e screen old new (AsViewer count) moves (inr some) =
    inr (subst (λ (l : LinkState). AnswersSome l.latest) (sym moves.result) some)

links_early : (e : Ends) (old new : Network) → Links e old new → IsEarly old.link → IsEarly new.link
links_early e old new (Same same) early = subst (λ (l : LinkState). IsEarly l) (sym same) early
links_early e old new (Does event step) early = link_early e old.screen old.link new.link event step early

leads_early : (e : Ends) (old new : Network) → Leads e old new → IsEarly old.link → IsEarly new.link
leads_early e old new Still early = early
leads_early e old new (Then mid now leads moves) early =
    links_early e mid new (goes_links e mid new (inr moves)) (leads_early e old mid leads early)

pub reached_early : (e : Ends) (n : Network) → IsReached e n → IsEarly n.link
reached_early e n r =
    leads_early e r.first n r.leads (subst (λ (l : LinkState). IsEarly l) (sym r.is_first.link) (inl tt))

-- ---- the end of an update is told of an item of one

never_done : (bytes : List ℕ) (o : Option ViewerStep) → event_as (step_told bytes) o ≡ Some UpdateDone → ⊥
never_done bytes None is = cc
never_done bytes (Some (ReplyStep reply)) is = cc
never_done bytes (Some (ScreenStep width height)) is = cc
never_done bytes (Some (ReadyStep width height version name name_length)) is = cc

is_done : (b : Bool) → done_told b ≡ Some UpdateDone → b ≡ true
is_done true is = refl
is_done false is = absurd cc

last_told : (limit : ℕ) (p : UpdatePoint) (item : UpdateItem) → item_told limit p item ≡ Some UpdateDone →
    is_last p item ≡ true
last_told limit p (Message (FramebufferUpdate rectangles)) is = is_done (rectangles == 0) is
last_told limit p (Message (SetColorMapEntries first colors)) is = absurd cc
last_told limit p (Message BellMessage) is = absurd cc
last_told limit p (Message (ServerCutText text)) is = absurd cc
last_told limit p (Rectangle head body) is = is_done (p.left == 1) is

one_done : (viewing : Viewing) (at : ServerAt) (item : FromServer) → told_at viewing at item ≡ Some UpdateDone →
    (ends_update at item ≡ true) × ((rest : List FromServer) → AreSteps (item ∷ rest) → ⊥)
one_done viewing (First point) (First step) is =
    absurd (never_done (ready_bytes viewing.form viewing.encodings) (handshake_tells viewing.hello point step) is)
one_done viewing (First point) (Second item) is = absurd cc
one_done viewing (Second p) (First step) is = absurd cc
one_done viewing (Second p) (Second item) is = (last_told viewing.hello.text_limit p item is, λ rest steps. steps)

tail_steps : (item : FromServer) (rest : List FromServer) → AreSteps (item ∷ rest) → AreSteps rest
tail_steps (First step) rest steps = steps
tail_steps (Second item) rest steps = absurd steps

pub last_done : (e : Ends) (v : ViewerState) (done left : List FromServer) →
    EndsWith (viewer_end e.viewing) v done (Some UpdateDone) →
    ((acts (viewer_end e.viewing) v done).outstanding ≡ false) × (AreSteps (done ++ left) → ⊥)
last_done e v [] left ends = absurd cc
last_done e v (item ∷ []) left ends =
    let one = one_done e.viewing v.point item ends in
    (ap (λ (b : Bool). if b then false else v.outstanding) one.0, one.1 left)
last_done e v (item ∷ next ∷ done) left (quiet, ends) =
    let more = last_done e (shows e.viewing v item) (next ∷ done) left ends in
    (more.0, λ steps. more.1 (tail_steps item (next ∷ (done ++ left)) steps))
