-- What each end answers, as bytes, is read by the other as the answers' items, after all that is in
-- flight to it.
use Rattle.std.proofs.Common.{◌≡◌, ℕ, ◌==◌, Bool, true, false, List, [], ◌∷◌, map, length, refl, sym, ap, ◌∙◌, subst}
use Rattle.rfb_wire.specs.stream.Sequel.{First, Second, StaysFirst}
use Rattle.rfb_wire.specs.stream.Grammar.{Grammar, ReadsAll, past_all}
use Rattle.rfb_wire.proofs.stream_laws.SequelLaws.{all_first, all_second}
use Rattle.rfb_wire.specs.ClientMessage.{SetPixelFormat, SetEncodings, FramebufferUpdateRequest, KeyEvent, PointerEvent}
use Rattle.rfb_wire.specs.ClientMessage.{ClientCutText}
use Rattle.rfb_wire.specs.Encoding.{number_of}
use Rattle.rfb_wire.specs.ServerMessage.{FramebufferUpdate, SetColorMapEntries, Bell, ServerCutText}
use Rattle.rfb_codec.specs.UpdateStream.{UpdatePoint, UpdateItem, Message, Rectangle}
use Rattle.rfb_hello.specs.declared.version.Version.{Version}
use Rattle.rfb_hello.specs.declared.version.Version.TheVariants.{V33, V37, V38}
use Rattle.rfb_hello.specs.Version.{lower}
use Rattle.rfb_hello.specs.ClientHandshake.{AwaitsVersion as AwaitsClientVersion, AwaitsChoice}
use Rattle.rfb_hello.specs.ClientHandshake.{AwaitsInit as AwaitsClientInit}
use Rattle.rfb_hello.specs.ClientHandshake.{ProtocolVersion as ClientVersion, SecurityType, ClientInit, after_version}
use Rattle.rfb_hello.specs.ServerHandshake.{AwaitsVersion, AwaitsSecurity, AwaitsResult, AwaitsInit}
use Rattle.rfb_hello.specs.ServerHandshake.{ProtocolVersion, SecurityNone, SecurityTypes}
use Rattle.rfb_hello.specs.ServerHandshake.{SecurityResult, ServerInit}
use Rattle.rfb_hello.specs.ServerAnswers.{types_asked, init_asked, name_asked}
use Rattle.rfb_hello.specs.ServerEnd.{answer_bytes, server_tells}
use Rattle.rfb_hello.specs.ViewerAnswers.{reply_bytes}
use Rattle.rfb_hello.specs.ViewerEnd.{viewer_tells}
use Rattle.rfb_hello.proofs.AnswerLaws.{types_read, result_read, init_read}
use Rattle.rfb_hello.proofs.ViewerAnswerLaws.{greeting_answered, none_answered, types_answered, result_answered}
use Rattle.rfb_server.specs.ClientBytes.{ClientAt, FromClient, client_two, client_bytes}
use Rattle.rfb_server.specs.Server.{item_told}
use Rattle.rfb_server.specs.declared.fault.ServerFault.{ServerFault}
use Rattle.rfb_viewer.specs.declared.fault.ViewerFault.{ViewerFault}
use Rattle.rfb_viewer.specs.Messages.{ready_bytes}
use Rattle.rfb_viewer.specs.ServerBytes.{ServerAt, FromServer, server_two, server_bytes}
use Rattle.rfb_viewer.specs.Told.{item_told as update_told, done_told}
use Rattle.rfb_viewer.specs.Viewer.{told_at}
use Rattle.rfb_session.specs.Link.{Ends}
use Rattle.rfb_session.specs.Answers.{ready_messages, viewer_answers, server_answers}
use Rattle.rfb_session.specs.InFlight.{AreMade, viewer_reply, server_reply}
use Rattle.rfb_session.proofs.PhaseLemmas.{Core, Stands, Phase, Greeting, Versioned, Typed, Choosing37, Choosing38}
use Rattle.rfb_session.proofs.PhaseLemmas.{Chosen, Sharing, Begun, Named, Idling, Asking, Held, Sent, first_is}
use Rattle.rfb_session.proofs.PhaseLemmas.{none_first}
use Rattle.rfb_session.proofs.ReadyLemmas.{ready_read}

abbrev pub to_server_stream : (e : Ends) → Grammar ClientAt FromClient ServerFault
to_server_stream e = client_bytes e.serving.hello.offer

abbrev pub to_viewer_stream : (e : Ends) → Grammar ServerAt FromServer ViewerFault
to_viewer_stream e = server_bytes e.viewing.form e.viewing.hello

-- an end that answers, and how the other reads its answers
pub record Side (P Q X Y F : Type 0) : Type 0 where
  pub stream : Grammar P Y F
  pub reply : Q → X → List ℕ
  pub answers : Q → X → List Y

module _ {P Q X Y F : Type 0} (side : Side P Q X Y F) where
  -- the bytes of an answer are read as its items, from that point
  abbrev pub AnswersAt : P → Q → X → Type 0
  AnswersAt at point item = ReadsAll side.stream at (side.reply point item) (side.answers point item) []

  -- the same after all that is in flight from there
  abbrev pub AnswersPast : P → List Y → Q → X → Type 0
  AnswersPast start queue point item = AnswersAt (past_all side.stream start queue) point item

  answers_as : (start : P) (queue : List Y) (item i : X) {at : P} {point q : Q} → item ≡ i → point ≡ q →
      past_all side.stream start queue ≡ at → AnswersAt at q i → AnswersPast start queue point item
  answers_as start queue item i {point = point} {q = q} same here after reads =
      subst (λ (k : X). AnswersPast start queue point k) (sym same)
      (subst (λ (k : Q). AnswersPast start queue k i) (sym here)
      (subst (λ (k : P). AnswersAt k q i) (sym after) reads))

  -- to the first item that waits there, where nothing is in flight from there
  answers_first : {start at : P} {queue : List Y} {point q : Q} {gets r rest : List X} {item i : X} →
      queue ≡ [] → start ≡ at → point ≡ q → gets ≡ i ∷ r → gets ≡ item ∷ rest →
      AnswersAt at q i → AnswersPast start queue point item
  answers_first {start = start} {queue = queue} {r = r} {rest = rest} {item = item} {i = i} none begins here gets is =
      answers_as start queue item i (first_is item i rest r (sym is ∙ gets)).0 here
      (ap (λ (l : List Y). past_all side.stream start l) none ∙ begins)

-- ---- the viewer's answers

abbrev pub viewer_side : Ends → Side ClientAt ServerAt FromServer FromClient ServerFault
viewer_side e = record {
  stream = to_server_stream e;
  reply = λ point item. viewer_reply (told_at e.viewing point item);
  answers = viewer_answers e.viewing;
}

ready_answers : (e : Ends) → AreMade e →
    ReadsAll (to_server_stream e) (Second tt) (ready_bytes e.viewing.form e.viewing.encodings)
    (ready_messages e.viewing) []
ready_answers e made =
    all_second (client_two e.serving.hello.offer) tt
    (ready_bytes e.viewing.form e.viewing.encodings)
    (SetPixelFormat e.viewing.form ∷ SetEncodings
    (map (λ encoding. number_of encoding) e.viewing.encodings) ∷ []) []
    (ready_read e.viewing.form e.viewing.encodings made.form made.few)

begun_answers : (e : Ends) (v : Version) (text : List ℕ) → AreMade e →
    AnswersAt (viewer_side e) (Second tt) (First (AwaitsInit v))
    (First (ServerInit e.serving.hello.width e.serving.hello.height (length text)))
begun_answers e v [] made = ready_answers e made
begun_answers e v (byte ∷ text) made = refl

abbrev pub AnswersAfter : Ends → Core → FromServer → Type 0
AnswersAfter e c item = AnswersPast (viewer_side e) c.session.point c.to_server c.viewer.point item

typed_answers : (e : Ends) (c : Core) (v : Version) (item : FromServer) (rest : List FromServer) →
    Stands c (First (after_version v)) (AwaitsSecurity v) [] (map (λ i. First i) (types_asked v)) →
    c.to_viewer ≡ item ∷ rest → AnswersAfter e c item
typed_answers e c V33 item rest s queue =
    answers_first (viewer_side e) s.to_server_is s.session_at s.viewer_at s.to_viewer_is queue
    (all_first (client_two e.serving.hello.offer) (AwaitsClientInit V33)
    (reply_bytes (viewer_tells e.viewing.hello (AwaitsSecurity V33) SecurityNone))
    (ClientInit e.viewing.hello.shared ∷ []) [] tt
    (none_answered e.viewing.hello e.serving.hello.offer V33))
typed_answers e c V37 item rest s queue =
    answers_first (viewer_side e) s.to_server_is s.session_at s.viewer_at s.to_viewer_is queue
    (all_first (client_two e.serving.hello.offer) (AwaitsChoice V37)
    (reply_bytes (viewer_tells e.viewing.hello (AwaitsSecurity V37) (SecurityTypes (1 ∷ []))))
    (SecurityType ∷ ClientInit e.viewing.hello.shared ∷ []) [] (refl, tt)
    (types_answered e.viewing.hello e.serving.hello.offer V37 (1 ∷ [])))
typed_answers e c V38 item rest s queue =
    answers_first (viewer_side e) s.to_server_is s.session_at s.viewer_at s.to_viewer_is queue
    (all_first (client_two e.serving.hello.offer) (AwaitsChoice V38)
    (reply_bytes (viewer_tells e.viewing.hello (AwaitsSecurity V38) (SecurityTypes (1 ∷ []))))
    (SecurityType ∷ []) [] tt
    (types_answered e.viewing.hello e.serving.hello.offer V38 (1 ∷ [])))

done_reply : (b : Bool) → viewer_reply (done_told b) ≡ []
done_reply true = refl
done_reply false = refl

update_reply : (limit : ℕ) (p : UpdatePoint) (item : UpdateItem) →
    viewer_reply (update_told limit p item) ≡ []
update_reply limit p (Message (FramebufferUpdate rectangles)) = done_reply (rectangles == 0)
update_reply limit p (Message (SetColorMapEntries first colors)) = refl
update_reply limit p (Message Bell) = refl
update_reply limit p (Message (ServerCutText text)) = refl
update_reply limit p (Rectangle head body) = done_reply (p.left == 1)

-- after the handshake there is no answer
update_answers : (e : Ends) (at : ClientAt) (p : UpdatePoint) (item : FromServer) →
    AnswersAt (viewer_side e) at (Second p) item
update_answers e at p (First step) = refl
update_answers e at p (Second item) = update_reply e.viewing.hello.text_limit p item

pub answers_read : (e : Ends) (c : Core) (item : FromServer) (rest : List FromServer) → AreMade e →
    Phase e c → c.to_viewer ≡ item ∷ rest → AnswersAfter e c item
answers_read e c item rest made (Greeting s) queue =
    answers_first (viewer_side e) s.to_server_is s.session_at s.viewer_at s.to_viewer_is queue
    (all_first (client_two e.serving.hello.offer) AwaitsClientVersion
    (reply_bytes (viewer_tells e.viewing.hello AwaitsVersion (ProtocolVersion e.serving.hello.offer)))
    (ClientVersion (lower e.viewing.hello.limit e.serving.hello.offer) ∷ []) [] tt
    (greeting_answered e.viewing.hello e.serving.hello.offer))
answers_read e c item rest made (Versioned v s) queue =
    absurd (none_first item rest (sym s.to_viewer_is ∙ queue))
answers_read e c item rest made (Typed v s) queue = typed_answers e c v item rest s queue
answers_read e c item rest made (Choosing37 s) queue =
    absurd (none_first item rest (sym s.to_viewer_is ∙ queue))
answers_read e c item rest made (Choosing38 s) queue =
    absurd (none_first item rest (sym s.to_viewer_is ∙ queue))
answers_read e c item rest made (Chosen s) queue =
    answers_first (viewer_side e) s.to_server_is s.session_at s.viewer_at s.to_viewer_is queue
    (all_first (client_two e.serving.hello.offer) (AwaitsClientInit V38)
    (reply_bytes (viewer_tells e.viewing.hello (AwaitsResult V38) SecurityResult))
    (ClientInit e.viewing.hello.shared ∷ []) [] tt
    (result_answered e.viewing.hello e.serving.hello.offer V38))
answers_read e c item rest made (Sharing v s) queue =
    absurd (none_first item rest (sym s.to_viewer_is ∙ queue))
answers_read e c item rest made (Begun v s) queue =
    answers_first (viewer_side e) s.to_server_is s.session_at s.viewer_at s.to_viewer_is queue
    (begun_answers e v e.serving.hello.name made)
answers_read e c item rest made (Named v n text s h) queue =
    answers_first (viewer_side e) s.to_server_is s.session_at s.viewer_at s.to_viewer_is queue (ready_answers e made)
answers_read e c item rest made (Idling p m s) queue =
    absurd (none_first item rest (sym s.none ∙ queue))
answers_read e c item rest made (Asking p m s) queue =
    absurd (none_first item rest (sym s.none ∙ queue))
answers_read e c item rest made (Held p m s) queue =
    absurd (none_first item rest (sym s.none ∙ queue))
answers_read e c item rest made (Sent p m s) queue =
    answers_as (viewer_side e) c.session.point c.to_server item item refl m.viewer_at refl
    (update_answers e (past_all (to_server_stream e) c.session.point c.to_server) p item)

-- ---- the server's answers

abbrev pub server_side : Ends → Side ServerAt ClientAt FromClient FromServer ViewerFault
server_side e = record {
  stream = to_viewer_stream e;
  reply = λ point item. server_reply (item_told e.serving point item);
  answers = server_answers e.serving;
}

-- the security types are read as the items that are asked for
types_replies : (e : Ends) (v : Version) →
    StaysFirst (server_two e.viewing.form e.viewing.hello) (AwaitsSecurity v) (types_asked v) →
    ReadsAll (to_viewer_stream e) (First (AwaitsSecurity v))
    (answer_bytes (server_tells e.serving.hello AwaitsClientVersion (ClientVersion v)))
    (map (λ i. First i) (types_asked v)) []
types_replies e v stays =
    all_first (server_two e.viewing.form e.viewing.hello) (AwaitsSecurity v)
    (answer_bytes (server_tells e.serving.hello AwaitsClientVersion (ClientVersion v))) (types_asked v) [] stays
    (types_read e.serving.hello e.viewing.hello.limit e.viewing.hello.max_places v)

version_replies : (e : Ends) (v : Version) →
    AnswersAt (server_side e) (First (AwaitsSecurity v)) (First AwaitsClientVersion) (First (ClientVersion v))
version_replies e V33 = types_replies e V33 tt
version_replies e V37 = types_replies e V37 tt
version_replies e V38 = types_replies e V38 tt

init_stays : (e : Ends) (v : Version) (text : List ℕ) →
    StaysFirst (server_two e.viewing.form e.viewing.hello) (AwaitsInit v)
    (ServerInit e.serving.hello.width e.serving.hello.height (length text) ∷ name_asked text)
init_stays e v [] = tt
init_stays e v (byte ∷ text) = (refl, tt)

-- a message has none
message_replies : (e : Ends) (at : ServerAt) (item : FromClient) → AnswersAt (server_side e) at (Second tt) item
message_replies e at (First step) = refl
message_replies e at (Second (SetPixelFormat form)) = refl
message_replies e at (Second (SetEncodings numbers)) = refl
message_replies e at (Second (FramebufferUpdateRequest incremental rect)) = refl
message_replies e at (Second (KeyEvent down key)) = refl
message_replies e at (Second (PointerEvent buttons x y)) = refl
message_replies e at (Second (ClientCutText text)) = refl

abbrev pub RepliesAfter : Ends → Core → FromClient → Type 0
RepliesAfter e c item = AnswersPast (server_side e) c.viewer.point c.to_viewer c.session.point item

ready_replies : (e : Ends) (c : Core) (item : FromClient) → c.session.point ≡ Second tt →
    RepliesAfter e c item
ready_replies e c item at =
    answers_as (server_side e) c.viewer.point c.to_viewer item item refl at refl
    (message_replies e (past_all (to_viewer_stream e) c.viewer.point c.to_viewer) item)

pub replies_read : (e : Ends) (c : Core) (item : FromClient) (rest : List FromClient) → AreMade e →
    Phase e c → c.to_server ≡ item ∷ rest → RepliesAfter e c item
replies_read e c item rest made (Greeting s) queue =
    absurd (none_first item rest (sym s.to_server_is ∙ queue))
replies_read e c item rest made (Versioned v s) queue =
    answers_first (server_side e) s.to_viewer_is s.viewer_at s.session_at s.to_server_is queue (version_replies e v)
replies_read e c item rest made (Typed v s) queue =
    absurd (none_first item rest (sym s.to_server_is ∙ queue))
replies_read e c item rest made (Choosing37 s) queue =
    answers_first (server_side e) s.to_viewer_is s.viewer_at s.session_at s.to_server_is queue refl
replies_read e c item rest made (Choosing38 s) queue =
    answers_first (server_side e) s.to_viewer_is s.viewer_at s.session_at s.to_server_is queue
    (all_first (server_two e.viewing.form e.viewing.hello) (AwaitsResult V38)
    (answer_bytes (server_tells e.serving.hello (AwaitsChoice V38) SecurityType)) (SecurityResult ∷ []) [] tt
    (result_read e.serving.hello e.viewing.hello.limit e.viewing.hello.max_places V38))
replies_read e c item rest made (Chosen s) queue =
    absurd (none_first item rest (sym s.to_server_is ∙ queue))
replies_read e c item rest made (Sharing v s) queue =
    answers_first (server_side e) s.to_viewer_is s.viewer_at s.session_at s.to_server_is queue
    (all_first (server_two e.viewing.form e.viewing.hello) (AwaitsInit v)
    (answer_bytes (server_tells e.serving.hello (AwaitsClientInit v) (ClientInit e.viewing.hello.shared)))
    (init_asked e.serving.hello) [] (init_stays e v e.serving.hello.name)
    (init_read e.serving.hello e.viewing.hello.limit e.viewing.hello.max_places v
    e.viewing.hello.shared made.setup))
replies_read e c item rest made (Begun v s) queue =
    absurd (none_first item rest (sym s.to_server_is ∙ queue))
replies_read e c item rest made (Named v n text s h) queue =
    absurd (none_first item rest (sym s.to_server_is ∙ queue))
replies_read e c item rest made (Idling p m s) queue = ready_replies e c item m.session_at
replies_read e c item rest made (Asking p m s) queue = ready_replies e c item m.session_at
replies_read e c item rest made (Held p m s) queue = ready_replies e c item m.session_at
replies_read e c item rest made (Sent p m s) queue = ready_replies e c item m.session_at
