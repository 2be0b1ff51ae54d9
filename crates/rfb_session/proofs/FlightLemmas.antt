-- What reaches an end leaves the bytes in flight those of the items in flight.
use Rattle.std.proofs.Common.{◌≡◌, ℕ, ◌+◌, List, [], ◌∷◌, ◌++◌, length, Option, refl, sym, ap, ◌∙◌, subst, append-nil}
use Rattle.std.proofs.Common.{append_assoc, arith}
use Rattle.rfb_pixel.specs.declared.colour.Colour.{Colour}
use Rattle.rfb_picture.specs.Grid.{Grid}
use Rattle.rfb_wire.specs.stream.Grammar.{Grammar, IsGrammar, ReadsAll, past_all}
use Rattle.rfb_wire.specs.stream.End.{EndsWith, acts, Takes, Refuses}
use Rattle.rfb_wire.proofs.stream_laws.GrammarLaws.{some_byte, all_more, all_append, within_append}
use Rattle.rfb_wire.proofs.stream_laws.SequelLaws.{all_first}
use Rattle.rfb_wire.proofs.stream_laws.EndLaws.{delivered, not_refused}
use Rattle.rfb_hello.specs.Version.{version_text}
use Rattle.rfb_hello.specs.ServerHandshake.{AwaitsVersion, ProtocolVersion}
use Rattle.rfb_hello.proofs.AnswerLaws.{greeting_read}
use Rattle.rfb_server.specs.declared.fault.ServerFault.{ServerFault}
use Rattle.rfb_server.specs.ClientBytes.{ClientAt, FromClient}
use Rattle.rfb_server.specs.Server.{Serving, ServerState, serves, server}
use Rattle.rfb_server.specs.Told.{ServerTold}
use Rattle.rfb_server.proofs.ServerLaws.{client_bytes_laws, server_machine}
use Rattle.rfb_viewer.specs.declared.fault.ViewerFault.{ViewerFault}
use Rattle.rfb_viewer.specs.ServerBytes.{ServerAt, FromServer, server_two}
use Rattle.rfb_viewer.specs.Told.{ViewerTold}
use Rattle.rfb_viewer.specs.Viewer.{ViewerState, viewer, shows}
use Rattle.rfb_viewer.proofs.ViewerLaws.{server_bytes_laws, viewer_machine}
use Rattle.rfb_session.specs.Link.{Ends, SessionState, server_of, session_of, LinkState, first_link}
use Rattle.rfb_session.specs.Answers.{viewer_answers, viewer_replies, server_answers, server_replies}
use Rattle.rfb_session.specs.InFlight.{AreMade, Flight, Flies, first_flight, viewer_reply, server_reply, ReachesViewer}
use Rattle.rfb_session.specs.InFlight.{ReachesServer}
use Rattle.rfb_session.proofs.PhaseLemmas.{Core, core}
use Rattle.rfb_session.proofs.ShowingLemmas.{shown}
use Rattle.rfb_session.proofs.ServedLemmas.{served}
use Rattle.rfb_session.proofs.HoldsLemmas.{Holds, holds_shown, holds_served, kept_screen}
use Rattle.rfb_session.proofs.AnswerLemmas.{to_server_stream, to_viewer_stream, AnswersAfter, answers_read}
use Rattle.rfb_session.proofs.AnswerLemmas.{RepliesAfter, replies_read}

module _ {P I F : Type 0} where
  -- no bytes are no items
  reads_none : (g : Grammar P I F) → IsGrammar g → (p : P) (items : List I) (rest : List ℕ) →
      ReadsAll g p [] items rest → items ≡ []
  reads_none g laws p [] rest reads = refl
  reads_none g laws p (i ∷ items) rest reads = absurd (some_byte g laws p i reads.0 reads.1)

  -- bytes that are read after those in flight join them
  pub joins : (g : Grammar P I F) → IsGrammar g →
      (p : P) (has gets more : List ℕ) (xs ys : List I) →
      ReadsAll g p (has ++ gets) xs [] → ReadsAll g (past_all g p xs) more ys [] →
      ReadsAll g p (has ++ (gets ++ more)) (xs ++ ys) []
  joins g laws p has gets more xs ys first second =
      let one = all_more g laws p (has ++ gets) more xs [] first in
      subst (λ (bytes : List ℕ). ReadsAll g p bytes (xs ++ ys) []) (append_assoc has gets more)
      (all_append g p ((has ++ gets) ++ more) xs ys more [] one second)

-- ---- a fresh link

pub first_flies : (e : Ends) → Flies e (first_link e) (first_flight e)
first_flies e = record {
  to_viewer =
      all_first (server_two e.viewing.form e.viewing.hello) AwaitsVersion
      (version_text e.serving.hello.offer) (ProtocolVersion e.serving.hello.offer ∷ []) [] tt
      (greeting_read e.serving.hello.offer e.viewing.hello.limit e.viewing.hello.max_places);
  at_viewer = refl;
  viewer_within = omega arith;
  to_server = refl;
  at_server = refl;
  server_within = refl;
}

-- ---- bytes reach the viewer

abbrev pub p_server : Ends → Core → ClientAt
p_server e c = past_all (to_server_stream e) c.session.point c.to_server

abbrev pub p_viewer : Ends → Core → ServerAt
p_viewer e c = past_all (to_viewer_stream e) c.viewer.point c.to_viewer

-- the answers of all that is done; only the last can have some
all_answers : (e : Ends) (screen : Grid Colour) (c : Core) (done left : List FromServer)
    (event : Option ViewerTold) → AreMade e → Holds e screen c → c.to_viewer ≡ done ++ left →
    EndsWith (viewer e.viewing) c.viewer done event →
    ReadsAll (to_server_stream e) (p_server e c) (viewer_reply event)
    (viewer_replies e.viewing c.viewer done) []
all_answers e screen c [] left event made h queue ends =
    ap (λ (o : Option ViewerTold). viewer_reply o) ends
all_answers e screen c (item ∷ []) left event made h queue ends =
    let one : AnswersAfter e c item = answers_read e c item left made h.phase queue in
    subst (λ (o : Option ViewerTold). ReadsAll (to_server_stream e) (p_server e c) (viewer_reply o)
    (viewer_replies e.viewing c.viewer (item ∷ [])) []) ends
    (subst (λ (q : List FromClient). ReadsAll (to_server_stream e) (p_server e c)
    (viewer_reply ((viewer e.viewing).tells c.viewer item)) q [])
    (sym (append-nil (viewer_answers e.viewing c.viewer.point item))) one)
all_answers e screen c (item ∷ next ∷ done) left event made h queue (quiet, ends) =
    let one : AnswersAfter e c item =
    answers_read e c item ((next ∷ done) ++ left) made h.phase queue in
    let answers = viewer_answers e.viewing c.viewer.point item in
    let more = viewer_replies e.viewing (shows e.viewing c.viewer item) (next ∷ done) in
    let silent : ReadsAll (to_server_stream e) (p_server e c) [] answers [] =
    subst (λ (o : Option ViewerTold). ReadsAll (to_server_stream e) (p_server e c)
    (viewer_reply o) answers []) quiet one in
    let none : answers ≡ [] =
    reads_none (to_server_stream e) (client_bytes_laws e.serving.hello.offer)
    (p_server e c) answers [] silent in
    let others =
    all_answers e screen (shown e c item ((next ∷ done) ++ left)) (next ∷ done) left event made
    (holds_shown e screen c item ((next ∷ done) ++ left) h queue) refl ends in
    subst (λ (q : List FromClient). ReadsAll (to_server_stream e) (p_server e c)
    (viewer_reply event) (q ++ more) []) (sym none)
    (subst (λ (q : List FromClient). ReadsAll (to_server_stream e)
    (past_all (to_server_stream e) c.session.point q) (viewer_reply event) more [])
    (ap (λ (q : List FromClient). c.to_server ++ q) none ∙ append-nil c.to_server) others)

pub viewer_moved : (e : Ends) (screen : Grid Colour) (l : LinkState) (f : Flight)
    (bytes later rest : List ℕ) (event : Option ViewerTold) (t : ViewerState) → AreMade e →
    Holds e screen (core l) → Flies e l f → f.viewer_gets ≡ bytes ++ later →
    Takes (viewer e.viewing) l.viewer f.viewer_has bytes event t rest →
    ReachesViewer e l f bytes later event t rest
viewer_moved e screen l f bytes later rest event t made h flies gets takes =
    let all : f.viewer_has ++ f.viewer_gets ≡ (f.viewer_has ++ bytes) ++ later =
    ap (λ (ys : List ℕ). f.viewer_has ++ ys) gets
    ∙ sym (append_assoc f.viewer_has bytes later) in
    let d = delivered (viewer e.viewing)
    (viewer_machine e.viewing) l.viewer t f.viewer_has bytes later rest l.to_viewer event takes
    (subst (λ (ys : List ℕ). ReadsAll
    (to_viewer_stream e) l.viewer.point ys l.to_viewer []) all flies.to_viewer) in
    let answers = all_answers e screen (core l) d.done d.left event made h d.queue_is d.ends in
    record {
      new = record l {
        viewer = acts (viewer e.viewing) l.viewer d.done;
        to_viewer = d.left;
        at_viewer = length rest;
        to_server = l.to_server ++ viewer_replies e.viewing l.viewer d.done;
      };
      moves = record {
        done =
            d.done;
        left = d.left;
        at = length rest;
        queue = d.queue_is;
        count = ap (λ (n : ℕ). n + length bytes) (sym flies.at_viewer) ∙ d.count;
        within = d.within;
        result = refl;
      };
      viewer_is = sym d.state;
      flies = record {
        to_viewer =
            subst (λ (v : ViewerState). ReadsAll (to_viewer_stream e) v.point
            (rest ++ later) d.left []) d.state d.reads;
        at_viewer = refl;
        viewer_within = d.within;
        to_server =
            joins (to_server_stream e)
            (client_bytes_laws e.serving.hello.offer) l.session.point f.server_has f.server_gets
            (viewer_reply event) l.to_server
            (viewer_replies e.viewing l.viewer d.done) flies.to_server answers;
        at_server = flies.at_server;
        server_within =
            within_append (to_server_stream e) (client_bytes_laws e.serving.hello.offer) l.at_server
            (p_server e (core l)) (viewer_reply event) l.to_server
            (viewer_replies e.viewing l.viewer d.done) [] flies.server_within answers;
      };
    }

-- none of them is refused
pub viewer_good : (e : Ends) (l : LinkState) (f : Flight) (bytes later : List ℕ) (fault : ViewerFault) →
    Flies e l f → f.viewer_gets ≡ bytes ++ later →
    Refuses (viewer e.viewing) l.viewer f.viewer_has bytes fault → ⊥
viewer_good e l f bytes later fault flies gets refuses =
    let all : f.viewer_has ++ f.viewer_gets ≡ (f.viewer_has ++ bytes) ++ later =
    ap (λ (ys : List ℕ). f.viewer_has ++ ys) gets
    ∙ sym (append_assoc f.viewer_has bytes later) in
    not_refused (viewer e.viewing)
    (viewer_machine e.viewing) l.viewer f.viewer_has bytes later l.to_viewer fault
    (subst (λ (ys : List ℕ). ReadsAll
    (to_viewer_stream e) l.viewer.point ys l.to_viewer []) all flies.to_viewer) refuses

-- ---- bytes reach the server

all_replies : (e : Ends) (screen : Grid Colour) (c : Core) (done left : List FromClient)
    (event : Option ServerTold) → AreMade e → Holds e screen c → c.to_server ≡ done ++ left →
    EndsWith (server e.serving) (server_of screen c.session) done event →
    ReadsAll (to_viewer_stream e) (p_viewer e c) (server_reply event)
    (server_replies e.serving (server_of screen c.session) done) []
all_replies e screen c [] left event made h queue ends =
    ap (λ (o : Option ServerTold). server_reply o) ends
all_replies e screen c (item ∷ []) left event made h queue ends =
    let one : RepliesAfter e c item = replies_read e c item left made h.phase queue in
    subst (λ (o : Option ServerTold). ReadsAll (to_viewer_stream e) (p_viewer e c) (server_reply o)
    (server_replies e.serving (server_of screen c.session) (item ∷ [])) []) ends
    (subst (λ (q : List FromServer). ReadsAll (to_viewer_stream e) (p_viewer e c)
    (server_reply ((server e.serving).tells (server_of screen c.session) item)) q [])
    (sym (append-nil (server_answers e.serving c.session.point item))) one)
all_replies e screen c (item ∷ next ∷ done) left event made h queue (quiet, ends) =
    let one : RepliesAfter e c item =
    replies_read e c item ((next ∷ done) ++ left) made h.phase queue in
    let replies = server_answers e.serving c.session.point item in
    let kept = kept_screen e.serving screen c.session item in
    let more =
    server_replies e.serving (serves e.serving (server_of screen c.session) item)
    (next ∷ done) in
    let silent : ReadsAll (to_viewer_stream e) (p_viewer e c) [] replies [] =
    subst (λ (o : Option ServerTold). ReadsAll (to_viewer_stream e) (p_viewer e c)
    (server_reply o) replies []) quiet one in
    let none : replies ≡ [] =
    reads_none (to_viewer_stream e) (server_bytes_laws e.viewing.form e.viewing.hello)
    (p_viewer e c) replies [] silent in
    let others =
    all_replies e screen (served e screen c item ((next ∷ done) ++ left))
    (next ∷ done) left event made
    (holds_served e screen c item ((next ∷ done) ++ left) h queue) refl
    (subst (λ (s : ServerState). EndsWith (server e.serving) s (next ∷ done) event)
    (sym kept) ends) in
    let there : ReadsAll (to_viewer_stream e)
    (past_all (to_viewer_stream e) c.viewer.point (c.to_viewer ++ replies))
    (server_reply event) more [] =
    subst (λ (s : ServerState). ReadsAll (to_viewer_stream e)
    (past_all (to_viewer_stream e) c.viewer.point (c.to_viewer ++ replies)) (server_reply event)
    (server_replies e.serving s (next ∷ done)) []) kept others in
    subst (λ (q : List FromServer). ReadsAll (to_viewer_stream e) (p_viewer e c)
    (server_reply event) (q ++ more) []) (sym none)
    (subst (λ (q : List FromServer). ReadsAll (to_viewer_stream e)
    (past_all (to_viewer_stream e) c.viewer.point q) (server_reply event) more [])
    (ap (λ (q : List FromServer). c.to_viewer ++ q) none ∙ append-nil c.to_viewer) there)

pub all_kept : (serving : Serving) (screen : Grid Colour) (s : SessionState)
    (items : List FromClient) → server_of screen
    (session_of (acts (server serving) (server_of screen s) items))
    ≡ acts (server serving) (server_of screen s) items
all_kept serving screen s [] = refl
all_kept serving screen s (item ∷ items) =
    subst (λ (u : ServerState). server_of screen (session_of (acts (server serving) u items))
    ≡ acts (server serving) u items) (kept_screen serving screen s item)
    (all_kept serving screen (session_of (serves serving (server_of screen s) item)) items)

pub server_moved : (e : Ends) (screen : Grid Colour) (l : LinkState) (f : Flight)
    (bytes later rest : List ℕ) (event : Option ServerTold) (t : ServerState) → AreMade e →
    Holds e screen (core l) → Flies e l f → f.server_gets ≡ bytes ++ later →
    Takes (server e.serving) (server_of screen l.session) f.server_has bytes event t rest →
    ReachesServer e screen l f bytes later event t rest
server_moved e screen l f bytes later rest event t made h flies gets takes =
    let all : f.server_has ++ f.server_gets ≡ (f.server_has ++ bytes) ++ later =
    ap (λ (ys : List ℕ). f.server_has ++ ys) gets
    ∙ sym (append_assoc f.server_has bytes later) in
    let d = delivered (server e.serving) (server_machine e.serving)
    (server_of screen l.session) t f.server_has bytes later rest l.to_server event takes
    (subst (λ (ys : List ℕ). ReadsAll
    (to_server_stream e) l.session.point ys l.to_server []) all flies.to_server) in
    let replies = all_replies e screen (core l) d.done d.left event made h d.queue_is d.ends in
    record {
      new = record l {
        session = session_of (acts (server e.serving) (server_of screen l.session) d.done);
        to_server = d.left;
        at_server = length rest;
        to_viewer = l.to_viewer ++ server_replies e.serving (server_of screen l.session) d.done;
      };
      moves = record {
        done =
            d.done;
        left = d.left;
        at = length rest;
        queue = d.queue_is;
        count = ap (λ (n : ℕ). n + length bytes) (sym flies.at_server) ∙ d.count;
        within = d.within;
        result = refl;
      };
      server_is = all_kept e.serving screen l.session d.done ∙ sym d.state;
      flies = record {
        to_viewer =
            joins (to_viewer_stream e)
            (server_bytes_laws e.viewing.form e.viewing.hello) l.viewer.point
            f.viewer_has f.viewer_gets (server_reply event) l.to_viewer
            (server_replies e.serving (server_of screen l.session) d.done) flies.to_viewer replies;
        at_viewer = flies.at_viewer;
        viewer_within =
            within_append (to_viewer_stream e)
            (server_bytes_laws e.viewing.form e.viewing.hello) l.at_viewer (p_viewer e (core l))
            (server_reply event) l.to_viewer
            (server_replies e.serving
            (server_of screen l.session) d.done) [] flies.viewer_within replies;
        to_server =
            subst (λ (s : ServerState). ReadsAll (to_server_stream e) s.point
            (rest ++ later) d.left []) d.state d.reads;
        at_server = refl;
        server_within = d.within;
      };
    }

pub server_good : (e : Ends) (screen : Grid Colour) (l : LinkState) (f : Flight) (bytes later : List ℕ)
    (fault : ServerFault) → Flies e l f → f.server_gets ≡ bytes ++ later →
    Refuses (server e.serving) (server_of screen l.session) f.server_has bytes fault → ⊥
server_good e screen l f bytes later fault flies gets refuses =
    let all : f.server_has ++ f.server_gets ≡ (f.server_has ++ bytes) ++ later =
    ap (λ (ys : List ℕ). f.server_has ++ ys) gets
    ∙ sym (append_assoc f.server_has bytes later) in
    not_refused (server e.serving) (server_machine e.serving)
    (server_of screen l.session) f.server_has bytes later l.to_server fault
    (subst (λ (ys : List ℕ). ReadsAll
    (to_server_stream e) l.session.point ys l.to_server []) all flies.to_server) refuses
