-- How far a link is once an item has reached the server.
use Rattle.std.proofs.Common.{◌≡◌, List, [], ◌∷◌, ◌++◌, refl, sym, ap, ◌∙◌, subst, append-nil}
use Rattle.rfb_pixel.specs.declared.colour.Colour.{Colour}
use Rattle.rfb_picture.specs.Grid.{Grid}
use Rattle.rfb_picture.specs.Area.{Places}
use Rattle.rfb_wire.specs.stream.Sequel.{First, Second, past_in}
use Rattle.rfb_wire.specs.ClientMessage.{ClientMessage, SetPixelFormat, FramebufferUpdateRequest}
use Rattle.rfb_codec.specs.UpdateStream.{UpdatePoint}
use Rattle.rfb_hello.specs.declared.version.Version.{Version}
use Rattle.rfb_hello.specs.declared.version.Version.TheVariants.{V33, V37, V38}
use Rattle.rfb_hello.specs.ClientHandshake.{AwaitsVersion as AwaitsClientVersion, ClientItem}
use Rattle.rfb_hello.specs.ClientHandshake.{ProtocolVersion as ClientVersion}
use Rattle.rfb_hello.specs.ServerHandshake.{ServerPoint, AwaitsSecurity}
use Rattle.rfb_server.specs.ClientBytes.{ClientAt, FromClient, client_two}
use Rattle.rfb_server.specs.Server.{serves, message_acts}
use Rattle.rfb_viewer.specs.ServerBytes.{FromServer}
use Rattle.rfb_session.specs.Link.{Ends, SessionState, server_of, session_of}
use Rattle.rfb_session.specs.Answers.{server_answers}
use Rattle.rfb_session.proofs.QueueLemmas.{IsMere, AreMere, AreLater, AskOnce, form_after, mere_forms, IsRest}
use Rattle.rfb_session.proofs.QueueLemmas.{IsUnasked}
use Rattle.rfb_session.proofs.PhaseLemmas.{Core, Stands, Meets, Idles, Asks, Awaits, Sends, Phase, Greeting, Versioned}
use Rattle.rfb_session.proofs.PhaseLemmas.{Typed, Choosing37, Choosing38, Chosen, Sharing, Begun, Named, Idling, Asking}
use Rattle.rfb_session.proofs.PhaseLemmas.{Held, Sent, first_is, none_first}

abbrev pub served : Ends → Grid Colour → Core → FromClient → List FromClient → Core
served e screen c item rest = record c {
  session = session_of (serves e.serving (server_of screen c.session) item);
  to_server = rest;
  to_viewer = c.to_viewer ++ server_answers e.serving c.session.point item;
}

served_as : (e : Ends) (screen : Grid Colour) (c : Core) (item i : FromClient)
    (rest r : List FromClient) → item ∷ rest ≡ i ∷ r → Phase e (served e screen c i r) →
    Phase e (served e screen c item rest)
served_as e screen c item i rest r same phase =
    let parts = first_is item i rest r same in
    subst (λ (k : FromClient). Phase e (served e screen c k rest)) (sym parts.0)
    (subst (λ (q : List FromClient). Phase e (served e screen c i q)) (sym parts.1) phase)

-- a step of the handshake
served_stands : (e : Ends) (screen : Grid Colour) (c : Core) (sp to : ClientAt) (vp : ServerPoint)
    (step : ClientItem) (rest : List FromClient) (tv more : List FromServer) →
    Stands c sp vp (First step ∷ rest) tv →
    past_in (client_two e.serving.hello.offer) sp (First step) ≡ to →
    tv ++ server_answers e.serving sp (First step) ≡ more →
    Stands (served e screen c (First step) rest) to vp rest more
served_stands e screen c sp to vp step rest tv more s past answered = record {
  session_at =
      ap (λ (at : ClientAt). past_in (client_two e.serving.hello.offer) at
      (First step)) s.session_at ∙ past;
  viewer_at = s.viewer_at;
  quiet = s.quiet;
  to_server_is = refl;
  to_viewer_is =
      ap (λ (q : List FromServer). q ++ server_answers e.serving c.session.point
      (First step)) s.to_viewer_is ∙ ap
      (λ (at : ClientAt). tv ++ server_answers e.serving at (First step)) s.session_at ∙ answered;
  unasked = s.unasked;
  unknown = s.unknown;
  none_yet = s.none_yet;
}

versioned_served : (e : Ends) (screen : Grid Colour) (c : Core) (v : Version) →
    Stands c (First AwaitsClientVersion) (AwaitsSecurity v) (First (ClientVersion v) ∷ []) [] →
    Phase e (served e screen c (First (ClientVersion v)) [])
versioned_served e screen c V33 s = Typed V33 (served_stands e screen c _ _ _ _ [] [] _ s refl refl)
versioned_served e screen c V37 s = Typed V37 (served_stands e screen c _ _ _ _ [] [] _ s refl refl)
versioned_served e screen c V38 s = Typed V38 (served_stands e screen c _ _ _ _ [] [] _ s refl refl)

-- a message is answered by nothing
pub no_answer : (e : Ends) (c : Core) (item : FromClient) → c.session.point ≡ Second tt →
    c.to_viewer ++ server_answers e.serving c.session.point item ≡ c.to_viewer
no_answer e c (First step) at =
    ap (λ (p : ClientAt). c.to_viewer ++ server_answers e.serving p (First step)) at
    ∙ append-nil c.to_viewer
no_answer e c (Second message) at =
    ap (λ (p : ClientAt). c.to_viewer ++ server_answers e.serving p (Second message)) at
    ∙ append-nil c.to_viewer

served_after : (e : Ends) (screen : Grid Colour) (c : Core) (p : UpdatePoint)
    (message : ClientMessage) (rest : List FromClient) → Meets e c p →
    Meets e (served e screen c (Second message) rest) p
served_after e screen c p message rest m = record {
  session_at =
      ap (λ (at : ClientAt). past_in (client_two e.serving.hello.offer) at
      (Second message)) m.session_at;
  viewer_at = m.viewer_at;
  wide = m.wide;
  high = m.high;
  picture =
      record {
        picture = m.picture.picture;
        picture_is = m.picture.picture_is;
        whole = m.picture.whole;
        wide = m.picture.wide;
        high = m.picture.high;
      };
}

idles_served : (e : Ends) (screen : Grid Colour) (c : Core) (p : UpdatePoint)
    (message : ClientMessage) (rest : List FromClient) → Idles c p →
    AreLater (Second message ∷ rest) → form_after c.session.form (Second message ∷ rest) ≡ p.form →
    c.session.point ≡ Second tt → Idles (served e screen c (Second message) rest) p
idles_served e screen c p (FramebufferUpdateRequest incremental rect) rest i later formed at =
    absurd later.0
idles_served e screen c p message rest i later formed at = record {
  quiet = i.quiet;
  none = no_answer e c (Second message) at ∙ i.none;
  between = i.between;
  unasked = i.unasked;
  later = later.1;
  formed = formed;
}

asks_served : (e : Ends) (screen : Grid Colour) (c : Core) (p : UpdatePoint)
    (message : ClientMessage) (rest : List FromClient) → Meets e c p → Asks c p →
    AskOnce (Second message ∷ rest) → form_after c.session.form (Second message ∷ rest) ≡ p.form →
    Phase e (served e screen c (Second message) rest)
asks_served e screen c p (FramebufferUpdateRequest incremental rect) rest m i once formed =
    Held p (served_after e screen c p (FramebufferUpdateRequest incremental rect) rest m)
    (record {
      busy = i.busy;
      none = no_answer e c
          (Second (FramebufferUpdateRequest incremental rect)) m.session_at ∙ i.none;
      between = i.between;
      mere = once;
      formed = sym (mere_forms c.session.form rest once) ∙ formed;
    })
asks_served e screen c p message rest m i once formed =
    Asking p (served_after e screen c p message rest m)
    (record {
      busy = i.busy;
      none = no_answer e c (Second message) m.session_at ∙ i.none;
      between = i.between;
      unasked = i.unasked;
      once = once;
      formed = formed;
    })

-- a message that is neither a request nor a format leaves format and area
mere_served : (e : Ends) (screen : Grid Colour) (s : SessionState) (message : ClientMessage) →
    IsMere (Second message) → ((message_acts (server_of screen s) message).form ≡ s.form)
    × ((message_acts (server_of screen s) message).area ≡ s.area)
mere_served e screen s (SetPixelFormat form) mere = absurd mere
mere_served e screen s (FramebufferUpdateRequest incremental rect) mere = absurd mere
mere_served e screen s message mere = (refl, refl)

held_served : (e : Ends) (screen : Grid Colour) (c : Core) (p : UpdatePoint)
    (message : ClientMessage) (rest : List FromClient) → Meets e c p → Awaits c p →
    AreMere (Second message ∷ rest) → Phase e (served e screen c (Second message) rest)
held_served e screen c p message rest m i mere =
    Held p (served_after e screen c p message rest m)
    (assumption (
      i,
      no_answer e c (Second message) m.session_at ∙ i.none,
      mere.1,
      (mere_served e screen c.session message mere.0).0 ∙ i.formed,
    ))

sent_served : (e : Ends) (screen : Grid Colour) (c : Core) (p : UpdatePoint)
    (message : ClientMessage) (rest : List FromClient) → Meets e c p → Sends c p →
    AreMere (Second message ∷ rest) → Phase e (served e screen c (Second message) rest)
sent_served e screen c p message rest m i mere =
    let kept = mere_served e screen c.session message mere.0 in
    Sent p (served_after e screen c p message rest m)
    (record {
      busy = i.busy;
      unasked = subst (λ (a : Places). IsUnasked a) (sym kept.1) i.unasked;
      mere = mere.1;
      formed = kept.0 ∙ i.formed;
      rest = subst (λ (q : List FromServer). IsRest p q)
          (sym (no_answer e c (Second message) m.session_at)) i.rest;
    })

idling_at : (e : Ends) (screen : Grid Colour) (c : Core) (p : UpdatePoint) (item : FromClient)
    (rest : List FromClient) → Meets e c p → Idles c p → AreLater (item ∷ rest) →
    form_after c.session.form (item ∷ rest) ≡ p.form → Phase e (served e screen c item rest)
idling_at e screen c p (First step) rest m i later formed = absurd later.0
idling_at e screen c p (Second message) rest m i later formed =
    Idling p (served_after e screen c p message rest m)
    (idles_served e screen c p message rest i later formed m.session_at)

asking_at : (e : Ends) (screen : Grid Colour) (c : Core) (p : UpdatePoint) (item : FromClient)
    (rest : List FromClient) → Meets e c p → Asks c p → AskOnce (item ∷ rest) →
    form_after c.session.form (item ∷ rest) ≡ p.form → Phase e (served e screen c item rest)
asking_at e screen c p (First step) rest m i once formed = absurd once
asking_at e screen c p (Second message) rest m i once formed =
    asks_served e screen c p message rest m i once formed

held_at : (e : Ends) (screen : Grid Colour) (c : Core) (p : UpdatePoint) (item : FromClient)
    (rest : List FromClient) → Meets e c p → Awaits c p → AreMere (item ∷ rest) →
    Phase e (served e screen c item rest)
held_at e screen c p (First step) rest m i mere = absurd mere.0
held_at e screen c p (Second message) rest m i mere = held_served e screen c p message rest m i mere

sent_at : (e : Ends) (screen : Grid Colour) (c : Core) (p : UpdatePoint) (item : FromClient)
    (rest : List FromClient) → Meets e c p → Sends c p → AreMere (item ∷ rest) →
    Phase e (served e screen c item rest)
sent_at e screen c p (First step) rest m i mere = absurd mere.0
sent_at e screen c p (Second message) rest m i mere = sent_served e screen c p message rest m i mere

pub phase_served : (e : Ends) (screen : Grid Colour) (c : Core) (item : FromClient)
    (rest : List FromClient) → Phase e c → c.to_server ≡ item ∷ rest →
    Phase e (served e screen c item rest)
phase_served e screen c item rest (Greeting s) queue =
    absurd (none_first item rest (sym s.to_server_is ∙ queue))
phase_served e screen c item rest (Versioned v s) queue =
    served_as e screen c item _ rest _ (sym queue ∙ s.to_server_is)
    (versioned_served e screen c v s)
phase_served e screen c item rest (Typed v s) queue =
    absurd (none_first item rest (sym s.to_server_is ∙ queue))
phase_served e screen c item rest (Choosing37 s) queue =
    served_as e screen c item _ rest _ (sym queue ∙ s.to_server_is)
    (Sharing V37 (served_stands e screen c _ _ _ _ _ [] _ s refl refl))
phase_served e screen c item rest (Choosing38 s) queue =
    served_as e screen c item _ rest _ (sym queue ∙ s.to_server_is)
    (Chosen (served_stands e screen c _ _ _ _ _ [] _ s refl refl))
phase_served e screen c item rest (Chosen s) queue =
    absurd (none_first item rest (sym s.to_server_is ∙ queue))
phase_served e screen c item rest (Sharing v s) queue =
    served_as e screen c item _ rest _ (sym queue ∙ s.to_server_is)
    (Begun v (served_stands e screen c _ _ _ _ _ [] _ s refl refl))
phase_served e screen c item rest (Begun v s) queue =
    absurd (none_first item rest (sym s.to_server_is ∙ queue))
phase_served e screen c item rest (Named v n text s h) queue =
    absurd (none_first item rest (sym s.to_server_is ∙ queue))
phase_served e screen c item rest (Idling p m i) queue =
    idling_at e screen c p item rest m i (subst (λ (q : List FromClient). AreLater q) queue i.later)
    (subst (λ (q : List FromClient). form_after c.session.form q ≡ p.form) queue i.formed)
phase_served e screen c item rest (Asking p m i) queue =
    asking_at e screen c p item rest m i (subst (λ (q : List FromClient). AskOnce q) queue i.once)
    (subst (λ (q : List FromClient). form_after c.session.form q ≡ p.form) queue i.formed)
phase_served e screen c item rest (Held p m i) queue =
    held_at e screen c p item rest m i (subst (λ (q : List FromClient). AreMere q) queue i.mere)
phase_served e screen c item rest (Sent p m i) queue =
    sent_at e screen c p item rest m i (subst (λ (q : List FromClient). AreMere q) queue i.mere)
