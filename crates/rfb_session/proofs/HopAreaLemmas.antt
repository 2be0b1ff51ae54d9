-- A relay that asks for its whole screen each time: what its server was asked, and what its updates answered.
use Rattle.std.proofs.Common.{◌≡◌, ◌<◌, ℕ, Bool, true, false, if◌then◌else◌, List, [], ◌∷◌, not}
use Rattle.std.proofs.Common.{Option, Some, None, inl, inr, sym, ap, subst, ◌∙◌}
use Rattle.rfb_pixel.specs.declared.colour.Colour.{Colour}
use Rattle.rfb_picture.specs.declared.rect.Rect.{Rect}
use Rattle.rfb_picture.specs.Grid.{Grid, IsGrid, at_or}
use Rattle.rfb_picture.specs.Area.{Places, asked_at, nothing, added}
use Rattle.rfb_picture.proofs.GridLaws.{at-filled, whole-changed, whole-uniform, width-changed, height-changed}
use Rattle.rfb_picture.proofs.GridLaws.{width-uniform, height-uniform}
use Rattle.rfb_wire.specs.ClientMessage.{ClientMessage, SetPixelFormat, SetEncodings, FramebufferUpdateRequest}
use Rattle.rfb_wire.specs.ClientMessage.{KeyEvent, PointerEvent, ClientCutText}
use Rattle.rfb_wire.specs.stream.Sequel.{First, Second}
use Rattle.rfb_wire.specs.stream.End.{acts}
use Rattle.rfb_server.specs.ClientBytes.{FromClient}
use Rattle.rfb_server.specs.Server.{ServerState, item_acts, serves, server}
use Rattle.rfb_viewer.specs.declared.fault.CallFault.{CallFault}
use Rattle.rfb_viewer.specs.Viewer.{ViewerState}
use Rattle.rfb_session.specs.declared.event.Event.{Event}
use Rattle.rfb_session.specs.declared.event.Event.TheVariants as Happens
use Rattle.rfb_session.specs.HopAreas.{Covers, AsksAll, GoesForAll, AreForAll, AnswersAll, HasAskedAll}
use Rattle.rfb_session.specs.Link.{Ends, Composing, LinkState, server_of, first_link}
use Rattle.rfb_session.specs.LinkSteps.{LinkEvent, Request, SetFormat, LinkSteps, calls}
use Rattle.rfb_session.specs.LinkSteps.{SetEncodings as Encodings, Key, Pointer, CutText, Compose, ToServer, ToViewer}
use Rattle.rfb_session.specs.Network.{Network, Draws, Steps, IsReached}
use Rattle.rfb_session.proofs.HopEarlyLemmas.{first_holds}
use Rattle.rfb_session.proofs.NetworkLemmas.{reached_holds}
use Rattle.rfb_session.proofs.QueueLemmas.{none_unasked}
use Rattle.rfb_session.proofs.HopAskLemmas.{all_join, all_left, replies_all}

-- ---- what the server was asked

-- for all or for nothing
record IsWhole (e : Ends) (area : Places) : Type 0 where
  pub whole : IsGrid area.asked
  pub wide : area.asked.width ≡ e.serving.hello.width
  pub high : area.asked.height ≡ e.serving.hello.height
  pub some : (x y u v : ℕ) → asked_at area u v ≡ true → x < e.serving.hello.width →
      y < e.serving.hello.height →
      asked_at area x y ≡ true

apart : (b : Bool) → b ≡ false → b ≡ true → ⊥
apart b clear set = cc

nothing_whole : (e : Ends) (area : Places) → IsWhole e area → IsWhole e (nothing area)
nothing_whole e area was = record {
  whole = whole-uniform area.asked.width area.asked.height false;
  wide = width-uniform area.asked.width area.asked.height false ∙ was.wide;
  high = height-uniform area.asked.width area.asked.height false ∙ was.high;
  some = λ x y u v is wide high. absurd (apart _ (none_unasked area.asked.width area.asked.height u v) is);
}

added_whole : (e : Ends) (area : Places) (rect : Rect) (whole : Bool) → Covers e rect → IsWhole e area →
    IsWhole e (added rect whole area)
added_whole e area rect whole covers was = record {
  whole = whole-changed _ area.asked was.whole;
  wide = width-changed _ area.asked ∙ was.wide;
  high = height-changed _ area.asked ∙ was.high;
  some = λ x y u v is wide high.
      at-filled rect true area.asked x y false was.whole (subst (λ (n : ℕ). x < n) (sym was.wide) wide)
      (subst (λ (n : ℕ). y < n) (sym was.high) high)
      ∙ ap (λ (b : Bool). if b then true else at_or area.asked x y false) (covers x y wide high);
}

item_whole : (e : Ends) (s : ServerState) (item : FromClient) → AreForAll e (item ∷ []) → IsWhole e s.area →
    IsWhole e (item_acts s item).area
item_whole e s (First step) all was = was
item_whole e s (Second (SetPixelFormat form)) all was = was
item_whole e s (Second (SetEncodings numbers)) all was = was
item_whole e s (Second (FramebufferUpdateRequest incremental rect)) all was =
    added_whole e s.area rect (not incremental) all.0 was
item_whole e s (Second (KeyEvent down key)) all was = was
item_whole e s (Second (PointerEvent buttons x y)) all was = was
item_whole e s (Second (ClientCutText text)) all was = was

items_whole : (e : Ends) (s : ServerState) (items : List FromClient) → AreForAll e items → IsWhole e s.area →
    IsWhole e (acts (server e.serving) s items).area
items_whole e s [] all was = was
items_whole e s (item ∷ items) all was =
    let parts = all_left e (item ∷ []) items all in
    items_whole e (serves e.serving s item) items parts.1 (item_whole e s item parts.0 was)

-- ---- each step

area_of : (e : Ends) (l : LinkState) → HasAskedAll e l → IsWhole e l.session.area
area_of e l h = record { whole = h.whole; wide = h.wide; high = h.high; some = h.some }

with_area : (e : Ends) (l : LinkState) → AreForAll e l.to_server → IsWhole e l.session.area → AnswersAll l →
    HasAskedAll e l
with_area e l requests w latest =
    record { requests = requests; whole = w.whole; wide = w.wide; high = w.high; some = w.some; latest = latest }

called_all : (e : Ends) (o : Option CallFault) (l : LinkState) (v : ViewerState) (message : ClientMessage) →
    AreForAll e (Second message ∷ []) → HasAskedAll e l → HasAskedAll e (calls o l v message)
called_all e (Some fault) l v message all h = h
called_all e None l v message all h =
    with_area e (calls None l v message) (all_join e l.to_server (Second message ∷ []) h.requests all) (area_of e l h)
    h.latest

-- a request asks for all
abbrev LinkAsksAll : Ends → LinkEvent → Type 0
LinkAsksAll e (Request incremental rect) = Covers e rect
LinkAsksAll e event = Unit {0}

link_all : (e : Ends) (screen : Grid Colour) (old new : LinkState) (event : LinkEvent) →
    screen.width ≡ e.serving.hello.width → screen.height ≡ e.serving.hello.height →
    LinkAsksAll e event → LinkSteps e screen old event new → HasAskedAll e old → HasAskedAll e new
link_all e screen old new (Request incremental rect) wide high all step h =
    subst (λ (l : LinkState). HasAskedAll e l) (sym step) (called_all e _ old _ _ (all, tt) h)
link_all e screen old new (SetFormat form) wide high all step h =
    subst (λ (l : LinkState). HasAskedAll e l) (sym step) (called_all e _ old _ _ tt h)
link_all e screen old new (Encodings encodings) wide high all step h =
    subst (λ (l : LinkState). HasAskedAll e l) (sym step) (called_all e _ old _ _ tt h)
link_all e screen old new (Key down key) wide high all step h =
    subst (λ (l : LinkState). HasAskedAll e l) (sym step) (called_all e _ old _ _ tt h)
link_all e screen old new (Pointer buttons x y) wide high all step h =
    subst (λ (l : LinkState). HasAskedAll e l) (sym step) (called_all e _ old _ _ tt h)
link_all e screen old new (CutText text) wide high all step h =
    subst (λ (l : LinkState). HasAskedAll e l) (sym step) (called_all e _ old _ _ tt h)
link_all e screen old new Compose wide high all (inl composed) h =
    let due = composed.due in
    let asked : asked_at old.session.area due.x due.y ≡ true = first_holds _ _ due.needs in
    subst (λ (l : LinkState). HasAskedAll e l) (sym composed.result)
    (with_area e _ h.requests
    (subst (λ (area : Places). IsWhole e area) (sym composed.composed.emptied)
    (nothing_whole e old.session.area (area_of e old h)))
    (λ c is x y p q.
    let same : record { screen = screen; area = old.session.area; form = old.session.form } ≡ c = cc in
    subst (λ (d : Composing). x < d.screen.width → y < d.screen.height → asked_at d.area x y ≡ true) same
    (λ across down. h.some x y due.x due.y asked (subst (λ (n : ℕ). x < n) wide across)
    (subst (λ (n : ℕ). y < n) high down)) p q))
link_all e screen old new Compose wide high all (inr idle) h =
    subst (λ (l : LinkState). HasAskedAll e l) (sym idle.1) h
link_all e screen old new (ToServer count) wide high all moves h =
    let parts = all_left e moves.done moves.left
    (subst (λ (q : List FromClient). AreForAll e q) moves.queue h.requests) in
    subst (λ (l : LinkState). HasAskedAll e l) (sym moves.result)
    (with_area e _ parts.1
    (items_whole e (server_of screen old.session) moves.done parts.0 (area_of e old h)) h.latest)
link_all e screen old new (ToViewer count) wide high all moves h =
    subst (λ (l : LinkState). HasAskedAll e l) (sym moves.result)
    (with_area e _ (all_join e old.to_server _ h.requests (replies_all e old.viewer moves.done)) (area_of e old h)
    h.latest)

drawn_all : (e : Ends) (Inside : Type 0) (screen : Grid Colour) (old new : Network) → Draws Inside screen old new →
    HasAskedAll e old.link → HasAskedAll e new.link
drawn_all e Inside screen old new (inl (inside, is)) h = subst (λ (n : Network). HasAskedAll e n.link) (sym is) h
drawn_all e Inside screen old new (inr (outside, is)) h = subst (λ (n : Network). HasAskedAll e n.link) (sym is) h

step_all : (e : Ends) (old new : Network) (event : Event) → old.screen.width ≡ e.serving.hello.width →
    old.screen.height ≡ e.serving.hello.height → AsksAll e event → Steps e old event new →
    HasAskedAll e old.link → HasAskedAll e new.link
step_all e old new (Happens.Fill rect colour) wide high all step h = drawn_all e _ _ old new step h
step_all e old new (Happens.Put x y row) wide high all step h = drawn_all e _ _ old new step h
step_all e old new (Happens.Copy rect sx sy) wide high all step h = drawn_all e _ _ old new step h
step_all e old new (Happens.Hint rect sx sy) wide high all step h =
    subst (λ (n : Network). HasAskedAll e n.link) (sym step) h
step_all e old new (Happens.Request incremental rect) wide high all step h =
    link_all e old.screen old.link new.link (Request incremental rect) wide high all step.1 h
step_all e old new (Happens.SetFormat form) wide high all step h =
    link_all e old.screen old.link new.link (SetFormat form) wide high tt step.1 h
step_all e old new (Happens.SetEncodings encodings) wide high all step h =
    link_all e old.screen old.link new.link (Encodings encodings.items) wide high tt step.1 h
step_all e old new (Happens.Key down key) wide high all step h =
    link_all e old.screen old.link new.link (Key down key) wide high tt step.1 h
step_all e old new (Happens.Pointer buttons x y) wide high all step h =
    link_all e old.screen old.link new.link (Pointer buttons x y) wide high tt step.1 h
step_all e old new (Happens.CutText text) wide high all step h =
    link_all e old.screen old.link new.link (CutText text.items) wide high tt step.1 h
step_all e old new Happens.Compose wide high all step h =
    link_all e old.screen old.link new.link Compose wide high tt step.1 h
step_all e old new (Happens.ToServer count) wide high all step h =
    link_all e old.screen old.link new.link (ToServer count) wide high tt step.1 h
step_all e old new (Happens.ToViewer count) wide high all step h =
    link_all e old.screen old.link new.link (ToViewer count) wide high tt step.1 h

pub goes_all : (e : Ends) (old new : Network) → IsReached e old → GoesForAll e old new →
    HasAskedAll e old.link →
    HasAskedAll e new.link
goes_all e old new r (inl same) h = subst (λ (n : Network). HasAskedAll e n.link) (sym same) h
goes_all e old new r (inr (inl (event, all, step))) h =
    let holds = reached_holds e old r in step_all e old new event holds.wide holds.high all step h
goes_all e old new r (inr (inr (s, step))) h = drawn_all e _ _ old new step h

pub first_all : (e : Ends) → HasAskedAll e (first_link e)
first_all e =
    let w = e.serving.hello.width in
    let h = e.serving.hello.height in
    record {
      requests = tt;
      whole = whole-uniform w h false;
      wide = width-uniform w h false;
      high = height-uniform w h false;
      some = λ x y u v is wide high. absurd (apart _ (none_unasked w h u v) is);
      latest = λ c is. absurd cc;
    }
