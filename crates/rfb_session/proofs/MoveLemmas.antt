-- Deliveries of some bytes and of some more are one of all of them; and how many bytes are in
-- flight.
use Rattle.std.proofs.Common.{◌≡◌, ℕ, ◌+◌, ◌-◌, Bool, List, [], ◌∷◌, ◌++◌, length, None, refl, sym, ap, ◌∙◌}
use Rattle.std.proofs.Common.{append_assoc, length-append, arith}
use Rattle.rfb_pixel.specs.declared.colour.Colour.{Colour}
use Rattle.rfb_pixel.specs.Format.{PixelFormat}
use Rattle.rfb_picture.specs.Grid.{Grid}
use Rattle.rfb_wire.specs.stream.Sequel.{First, Second}
use Rattle.rfb_wire.specs.stream.Grammar.{Grammar, sizes}
use Rattle.rfb_wire.specs.stream.End.{Machine, acts}
use Rattle.rfb_wire.proofs.stream_laws.GrammarLaws.{all_length, sizes_append}
use Rattle.rfb_wire.proofs.stream_laws.EndLaws.{acts_append}
use Rattle.rfb_wire.specs.ClientMessage.{SetPixelFormat, SpellsClientMessage}
use Rattle.rfb_codec.specs.UpdateStream.{UpdatePoint}
use Rattle.rfb_server.specs.ClientBytes.{FromClient}
use Rattle.rfb_server.specs.Server.{ServerState, server}
use Rattle.rfb_server.proofs.ServerLaws.{client_bytes_laws}
use Rattle.rfb_viewer.specs.ServerBytes.{ServerAt, FromServer}
use Rattle.rfb_viewer.specs.Viewer.{ViewerState, viewer}
use Rattle.rfb_viewer.specs.Calls.{format_refused, format_refusal, with_format, formatted}
use Rattle.rfb_viewer.proofs.ViewerLaws.{server_bytes_laws}
use Rattle.rfb_session.specs.Link.{Ends, server_of, session_of, LinkState}
use Rattle.rfb_session.specs.Answers.{viewer_answers, viewer_replies, server_answers, server_replies}
use Rattle.rfb_session.specs.LinkSteps.{calls, flight_to_viewer, flight_to_server, MovesToViewer, MovesToServer}
use Rattle.rfb_session.specs.InFlight.{Flight, Flies}
use Rattle.rfb_session.proofs.PhaseLemmas.{core, Phase}
use Rattle.rfb_session.proofs.CallLemmas.{phase_format}
use Rattle.rfb_session.proofs.AnswerLemmas.{to_server_stream, to_viewer_stream}
use Rattle.rfb_session.proofs.FlightLemmas.{all_kept}
use Rattle.rfb_session.proofs.SentLemmas.{called_flies, none_flies}

-- ---- how many bytes are in flight

left_of : (has gets size at : ℕ) → has + gets ≡ size → has ≡ at → gets ≡ size - at
left_of has gets size at all is = omega (arith, all, is)

pub viewer_flight : (e : Ends) (l : LinkState) (f : Flight) → Flies e l f → length f.viewer_gets
    ≡ flight_to_viewer e l
viewer_flight e l f flies =
    let all =
    all_length (to_viewer_stream e)
    (server_bytes_laws e.viewing.form e.viewing.hello) l.viewer.point
    (f.viewer_has ++ f.viewer_gets) l.to_viewer [] flies.to_viewer in
    let both = length-append f.viewer_has f.viewer_gets in
    left_of (length f.viewer_has) (length f.viewer_gets)
    (sizes (to_viewer_stream e) l.to_viewer) l.at_viewer
    (omega (arith, all, both)) flies.at_viewer

pub server_flight : (e : Ends) (l : LinkState) (f : Flight) → Flies e l f → length f.server_gets
    ≡ flight_to_server e l
server_flight e l f flies =
    let all =
    all_length (to_server_stream e) (client_bytes_laws e.serving.hello.offer) l.session.point
    (f.server_has ++ f.server_gets) l.to_server [] flies.to_server in
    let both = length-append f.server_has f.server_gets in
    left_of (length f.server_has) (length f.server_gets)
    (sizes (to_server_stream e) l.to_server) l.at_server
    (omega (arith, all, both)) flies.at_server

-- ---- deliveries after deliveries

-- what items are answered is what some are answered, and then the others
answered_append : {S P I F E O : Type 0} (m : Machine S P I F E) (answers : S → I → List O)
    (replies : S → List I → List O) → ((s : S) → replies s [] ≡ []) →
    ((s : S) (item : I) (items : List I) →
    replies s (item ∷ items) ≡ answers s item ++ replies (m.act s item) items) →
    (s : S) (xs ys : List I) → replies s (xs ++ ys) ≡ replies s xs ++ replies (acts m s xs) ys
answered_append m answers replies none step s [] ys = rw (none s) refl
answered_append {O = O} m answers replies none step s (item ∷ xs) ys =
    let more = answered_append m answers replies none step (m.act s item) xs ys in
    rw (step s item (xs ++ ys), step s item xs)
    (ap (λ (q : List O). answers s item ++ q) more
    ∙ sym (append_assoc (answers s item) (replies (m.act s item) xs) (replies (acts m (m.act s item) xs) ys)))

-- some of a queue was done, and then some more
queue_joined : {I : Type 0} (old one left mid next rest : List I) → old ≡ one ++ left → mid ≡ left →
    mid ≡ next ++ rest → old ≡ (one ++ next) ++ rest
queue_joined {I} old one left mid next rest first here second =
    first ∙ ap (λ (q : List I). one ++ q) (sym here ∙ second) ∙ sym (append_assoc one next rest)

-- and so of the bytes that they are
count_joined : {P I F : Type 0} (g : Grammar P I F) (one next : List I) (at n m mid to here : ℕ) →
    at + n ≡ sizes g one + mid → here ≡ mid → here + m ≡ sizes g next + to →
    at + (n + m) ≡ sizes g (one ++ next) + to
count_joined g one next at n m mid to here first is second =
    omega (arith, first, is, second, sizes_append g one next)

abbrev to_viewer_of : LinkState → ViewerState → List FromServer → ℕ → List FromClient → LinkState
to_viewer_of l v left at ts =
    record l { viewer = v; to_viewer = left; at_viewer = at; to_server = ts }

abbrev to_server_of : LinkState → ServerState → List FromClient → ℕ → List FromServer → LinkState
to_server_of l s left at tv =
    record l { session = session_of s; to_server = left; at_server = at; to_viewer = tv }

pub viewer_moves_join : (e : Ends) (a b c : LinkState) (n m : ℕ) → MovesToViewer e a n b →
    MovesToViewer e b m c → MovesToViewer e a (n + m) c
viewer_moves_join e a b c n m one two = by b one.result two
  where
    by : (mid : LinkState) → mid
        ≡ record a {
          viewer = acts (viewer e.viewing) a.viewer one.done;
          to_viewer = one.left;
          at_viewer = one.at;
          to_server =
              a.to_server ++ viewer_replies e.viewing a.viewer one.done;
        } → MovesToViewer e mid m c →
        MovesToViewer e a (n + m) c
    by mid is next =
        let state : acts (viewer e.viewing) mid.viewer next.done
        ≡ acts (viewer e.viewing) a.viewer (one.done ++ next.done) =
        ap (λ (l : LinkState). acts (viewer e.viewing) l.viewer next.done) is
        ∙ sym (acts_append (viewer e.viewing) a.viewer one.done next.done) in
        let answers : mid.to_server ++ viewer_replies e.viewing mid.viewer next.done
        ≡ a.to_server ++ viewer_replies e.viewing a.viewer (one.done ++ next.done) =
        ap (λ (l : LinkState). l.to_server ++ viewer_replies e.viewing l.viewer next.done) is
        ∙ append_assoc a.to_server (viewer_replies e.viewing a.viewer one.done)
        (viewer_replies e.viewing (acts (viewer e.viewing) a.viewer one.done) next.done)
        ∙ ap (λ (q : List FromClient). a.to_server ++ q)
        (sym (answered_append (viewer e.viewing) (λ s item. viewer_answers e.viewing s.point item)
        (λ s items. viewer_replies e.viewing s items) (λ s. refl) (λ s item items. refl)
        a.viewer one.done next.done)) in
        let rest : to_viewer_of mid (acts (viewer e.viewing) mid.viewer next.done) next.left next.at
        (mid.to_server ++ viewer_replies e.viewing mid.viewer next.done)
        ≡ to_viewer_of a (acts (viewer e.viewing) mid.viewer next.done) next.left next.at
        (mid.to_server ++ viewer_replies e.viewing mid.viewer next.done) =
        ap (λ (l : LinkState). to_viewer_of l
        (acts (viewer e.viewing) mid.viewer next.done) next.left next.at
        (mid.to_server ++ viewer_replies e.viewing mid.viewer next.done)) is in
        let result : c ≡ to_viewer_of a (acts (viewer e.viewing) a.viewer (one.done ++ next.done)) next.left next.at
        (a.to_server ++ viewer_replies e.viewing a.viewer (one.done ++ next.done)) =
        next.result ∙ rest
        ∙ ap (λ (v : ViewerState). to_viewer_of a v next.left next.at
        (mid.to_server ++ viewer_replies e.viewing mid.viewer next.done)) state
        ∙ ap (λ (q : List FromClient). to_viewer_of a
        (acts (viewer e.viewing) a.viewer (one.done ++ next.done)) next.left next.at q) answers in
        let queue = queue_joined a.to_viewer one.done one.left mid.to_viewer next.done next.left one.queue
        (ap (λ (l : LinkState). l.to_viewer) is) next.queue in
        let count = count_joined (to_viewer_stream e) one.done next.done a.at_viewer n m one.at next.at mid.at_viewer
        one.count (ap (λ (l : LinkState). l.at_viewer) is) next.count in
        search (result, next.within, queue, count)

pub server_moves_join : (e : Ends) (screen : Grid Colour) (a b c : LinkState) (n m : ℕ) →
    MovesToServer e screen a n b → MovesToServer e screen b m c → MovesToServer e screen a (n + m) c
server_moves_join e screen a b c n m one two = by b one.result two
  where
    first : ServerState
    first = acts (server e.serving) (server_of screen a.session) one.done

    by : (mid : LinkState) → mid
        ≡ record a {
          session = session_of
              (acts (server e.serving) (server_of screen a.session) one.done);
          to_server = one.left;
          at_server = one.at;
          to_viewer = a.to_viewer ++ server_replies e.serving
              (server_of screen a.session) one.done;
        } → MovesToServer e screen mid m c →
        MovesToServer e screen a (n + m) c
    by mid is next =
        let here : server_of screen mid.session
        ≡ acts (server e.serving) (server_of screen a.session) one.done = ap
        (λ (l : LinkState). server_of screen l.session) is
        ∙ all_kept e.serving screen a.session one.done in
        let state : acts (server e.serving) (server_of screen mid.session) next.done
        ≡ acts (server e.serving) (server_of screen a.session) (one.done ++ next.done) =
        ap (λ (s : ServerState). acts (server e.serving) s next.done) here
        ∙ sym (acts_append (server e.serving)
        (server_of screen a.session) one.done next.done) in
        let replies : mid.to_viewer ++ server_replies e.serving
        (server_of screen mid.session) next.done
        ≡ a.to_viewer ++ server_replies e.serving (server_of screen a.session)
        (one.done ++ next.done) =
        ap (λ (l : LinkState). l.to_viewer ++ server_replies e.serving
        (server_of screen mid.session) next.done) is
        ∙ ap (λ (s : ServerState). (a.to_viewer ++ server_replies e.serving
        (server_of screen a.session) one.done) ++ server_replies e.serving s next.done) here
        ∙ append_assoc a.to_viewer (server_replies e.serving (server_of screen a.session) one.done)
        (server_replies e.serving
        (acts (server e.serving) (server_of screen a.session) one.done) next.done)
        ∙ ap (λ (q : List FromServer). a.to_viewer ++ q)
        (sym (answered_append (server e.serving) (λ s item. server_answers e.serving s.point item)
        (λ s items. server_replies e.serving s items) (λ s. refl) (λ s item items. refl)
        (server_of screen a.session) one.done next.done)) in
        let rest : to_server_of mid
        (acts (server e.serving) (server_of screen mid.session) next.done) next.left next.at
        (mid.to_viewer ++ server_replies e.serving (server_of screen mid.session) next.done)
        ≡ to_server_of a
        (acts (server e.serving) (server_of screen mid.session) next.done) next.left next.at
        (mid.to_viewer ++ server_replies e.serving (server_of screen mid.session) next.done) =
        ap (λ (l : LinkState). to_server_of l
        (acts (server e.serving) (server_of screen mid.session) next.done) next.left next.at
        (mid.to_viewer ++ server_replies e.serving
        (server_of screen mid.session) next.done)) is in
        let result : c ≡ to_server_of a (acts (server e.serving) (server_of screen a.session) (one.done ++ next.done))
        next.left next.at
        (a.to_viewer ++ server_replies e.serving (server_of screen a.session) (one.done ++ next.done)) =
        next.result ∙ rest
        ∙ ap (λ (s : ServerState). to_server_of a s next.left next.at
        (mid.to_viewer ++ server_replies e.serving (server_of screen mid.session) next.done)) state
        ∙ ap (λ (q : List FromServer). to_server_of a
        (acts (server e.serving) (server_of screen a.session) (one.done ++ next.done)) next.left next.at q) replies in
        let queue = queue_joined a.to_server one.done one.left mid.to_server next.done next.left one.queue
        (ap (λ (l : LinkState). l.to_server) is) next.queue in
        let count = count_joined (to_server_stream e) one.done next.done a.at_server n m one.at next.at mid.at_server
        one.count (ap (λ (l : LinkState). l.at_server) is) next.count in
        search (result, next.within, queue, count)

-- ---- an accepted format

-- the viewer that takes it is ready
format_ready : (at : ServerAt) (outstanding : Bool) (prefix : List ℕ) →
    format_refused at outstanding prefix ≡ None → (p : UpdatePoint) × (at ≡ Second p)
format_ready (First point) outstanding prefix e = absurd cc
format_ready (Second p) outstanding prefix e = (p, refl)

pub format_flies : (e : Ends) (l : LinkState) (f : Flight) (form : PixelFormat) (bytes : List ℕ) →
    Phase e (core l) → Flies e l f → format_refusal l.viewer f.viewer_has ≡ None →
    SpellsClientMessage (SetPixelFormat form) bytes →
    Flies e (calls None l (formatted form l.viewer) (SetPixelFormat form))
    (record f { server_gets = f.server_gets ++ bytes })
format_flies e l f form bytes phase flies taken spelled =
    let ready = format_ready l.viewer.point l.viewer.outstanding f.viewer_has taken in
    let one = phase_format e (core l) form f.viewer_has phase taken in
    called_flies e l f ready.0 (formatted form l.viewer)
    (SetPixelFormat form) bytes phase ready.1 flies
    (none_flies e l f (with_format form l.viewer.point) one.0 flies) spelled
