-- What is sent joins the bytes in flight: an update that is composed, and messages of the viewer.
use Rattle.std.proofs.Common.{◌≡◌, ℕ, Bool, true, List, [], ◌∷◌, ◌++◌, map, length, Some, None, refl, sym, ap, ◌∙◌}
use Rattle.std.proofs.Common.{subst}
use Rattle.rfb_pixel.specs.declared.colour.Colour.{Colour}
use Rattle.rfb_picture.specs.Grid.{Grid}
use Rattle.rfb_wire.specs.stream.Sequel.{First, Second}
use Rattle.rfb_wire.specs.stream.Grammar.{ReadsAll, past_all}
use Rattle.rfb_wire.proofs.stream_laws.GrammarLaws.{within_append}
use Rattle.rfb_wire.proofs.stream_laws.SequelLaws.{all_second}
use Rattle.rfb_wire.specs.ClientMessage.{ClientMessage, SpellsClientMessage}
use Rattle.rfb_codec.specs.UpdateStream.{UpdatePoint}
use Rattle.rfb_codec.specs.WholeUpdate.{update_of}
use Rattle.rfb_hello.specs.ServerHandshake.{ServerPoint}
use Rattle.rfb_server.specs.ClientBytes.{ClientAt, FromClient, client_two}
use Rattle.rfb_server.specs.declared.hint.Hint.{Hint}
use Rattle.rfb_server.specs.declared.session.Session.{Session}
use Rattle.rfb_server.specs.Composition.{Composes, sent_as, between}
use Rattle.rfb_server.specs.Model.{SessionStandsFor}
use Rattle.rfb_server.specs.Server.{ServerState}
use Rattle.rfb_server.specs.UpdateCall.{HasSent}
use Rattle.rfb_server.proofs.ServerLaws.{client_bytes_laws}
use Rattle.rfb_viewer.specs.declared.fault.CallFault.TheVariants.{Busy}
use Rattle.rfb_viewer.specs.ServerBytes.{ServerAt, FromServer, server_two}
use Rattle.rfb_viewer.specs.Viewer.{ViewerState}
use Rattle.rfb_viewer.specs.Calls.{format_refused, format_refusal}
use Rattle.rfb_viewer.proofs.ViewerLaws.{server_bytes_laws}
use Rattle.rfb_session.specs.Link.{Ends, server_of, session_of, LinkState}
use Rattle.rfb_session.specs.LinkSteps.{begun, calls, ComposesOn, update_items}
use Rattle.rfb_session.specs.InFlight.{Flight, Flies}
use Rattle.rfb_session.proofs.PhaseLemmas.{Core, core, Phase, Greeting, Versioned, Typed, Choosing37, Choosing38}
use Rattle.rfb_session.proofs.PhaseLemmas.{Chosen, Sharing, Begun, Named, Idling, Asking, Held, Sent}
use Rattle.rfb_session.proofs.HoldsLemmas.{Holds}
use Rattle.rfb_session.proofs.DueLemmas.{due_held, point_is}
use Rattle.rfb_session.proofs.ReadyLemmas.{one_read}
use Rattle.rfb_session.proofs.AnswerLemmas.{to_server_stream, to_viewer_stream}
use Rattle.rfb_session.proofs.FlightLemmas.{joins, p_server, p_viewer}

-- ---- a composing

pub composed_flies : (e : Ends) (screen : Grid Colour) (old new : LinkState) (f : Flight) →
    Holds e screen (core old) → Flies e old f → (c : ComposesOn screen old new) →
    Flies e new (record f { viewer_gets = f.viewer_gets ++ c.bytes })
composed_flies e screen old new f h flies c =
    let held = due_held e screen (core old) h.phase c.due in
    let m = held.meets in
    let a = held.awaits in
    let point : held.p ≡ between (server_of screen old.session) =
    point_is held.p screen.width screen.height old.session.form (m.wide ∙ sym h.wide)
    (m.high ∙ sym h.high) (sym a.formed) a.between in
    let at : p_viewer e (core old) ≡ Second (between (server_of screen old.session)) =
    ap (λ (q : List FromServer). past_all (to_viewer_stream e) old.viewer.point q) a.none
    ∙ m.viewer_at ∙ ap (λ (q : UpdatePoint). Second q) point in
    let items = update_of (map sent_as (c.copies ++ c.blocks)) in
    let read : ReadsAll (to_viewer_stream e) (p_viewer e (core old)) c.bytes
    (map (λ item. Second item) items) [] =
    subst (λ (p : ServerAt). ReadsAll (to_viewer_stream e) p c.bytes
    (map (λ item. Second item) items) []) (sym at)
    (all_second (server_two e.viewing.form e.viewing.hello)
    (between (server_of screen old.session)) c.bytes items [] c.composed.is_update) in
    subst (λ (l : LinkState). Flies e l (record f { viewer_gets = f.viewer_gets ++ c.bytes }))
    (sym c.result)
    (record {
      to_viewer =
          joins (to_viewer_stream e)
          (server_bytes_laws e.viewing.form e.viewing.hello) old.viewer.point
          f.viewer_has f.viewer_gets c.bytes old.to_viewer
          (map (λ item. Second item) items) flies.to_viewer read;
      at_viewer = flies.at_viewer;
      viewer_within =
          within_append (to_viewer_stream e)
          (server_bytes_laws e.viewing.form e.viewing.hello) old.at_viewer
          (p_viewer e (core old)) c.bytes old.to_viewer
          (map (λ item. Second item) items) [] flies.viewer_within read;
      to_server =
          subst (λ (p : ClientAt). ReadsAll (to_server_stream e) p
          (f.server_has ++ f.server_gets) old.to_server [])
          (sym c.composed.same_point) flies.to_server;
      at_server = flies.at_server;
      server_within = flies.server_within;
    })

-- a session sent an update over the screen: what its link is then, and that this is a composing of the link
module _ (e : Ends) (old : LinkState) {screen : Grid Colour} {has : List ℕ} {hints : List Hint} {session : Session}
    {before after : List ℕ}
    (one : HasSent e.serving (server_of screen old.session) has hints screen session before after) where
  abbrev pub sent_link : LinkState
  sent_link = record old {
    session = session_of one.resulting;
    to_viewer = old.to_viewer ++ update_items one.update.copies one.update.blocks;
    latest = Some (record { screen = screen; area = old.session.area; form = old.session.form });
  }

  after_same : server_of screen (session_of one.resulting) ≡ one.resulting
  after_same = ap (λ (g : Grid Colour). server_of g (session_of one.resulting)) (sym one.update.composes.same_screen)

  pub sent_composes : ComposesOn screen old sent_link
  sent_composes = record {
    due = one.update.due;
    session = session_of one.resulting;
    bytes = one.update.bytes;
    copies = one.update.copies;
    blocks = one.update.blocks;
    composed = subst (λ (t : ServerState). Composes (server_of screen old.session) t
        one.update.bytes one.update.copies one.update.blocks) (sym after_same) one.update.composes;
    result = refl;
  }

  pub sent_stands : SessionStandsFor e.serving screen session (server_of screen (session_of one.resulting)) has
  sent_stands =
      subst (λ (t : ServerState). SessionStandsFor e.serving screen session t has) (sym after_same) one.stands

  pub sent_flies : (f : Flight) → Holds e screen (core old) → Flies e old f →
      Flies e sent_link (record f { viewer_gets = f.viewer_gets ++ one.update.bytes })
  unfolding sent_composes
  sent_flies f h flies = composed_flies e screen old sent_link f h flies sent_composes

-- ---- calls of the viewer

-- at the messages a client's bytes stay there
past_messages : (e : Ends) (items : List FromClient) →
    past_all (to_server_stream e) (Second tt) items ≡ Second tt
past_messages e [] = refl
past_messages e (First step ∷ items) = past_messages e items
past_messages e (Second message ∷ items) = past_messages e items

apart : (vp : ServerPoint) (p : UpdatePoint) (at : ServerAt) → at ≡ First vp → at ≡ Second p → ⊥
apart vp p at one two = cc

-- where the viewer is ready, all that is in flight to the server leads to its messages
ready_after : (e : Ends) (c : Core) (p : UpdatePoint) → Phase e c → c.viewer.point ≡ Second p →
    p_server e c ≡ Second tt
ready_after e c p phase at = by phase
  where
    messages : c.session.point ≡ Second tt → p_server e c ≡ Second tt
    messages here =
        ap (λ (q : ClientAt). past_all (to_server_stream e) q c.to_server) here
        ∙ past_messages e c.to_server

    by : Phase e c → p_server e c ≡ Second tt
    by (Greeting s) = absurd (apart _ p c.viewer.point s.viewer_at at)
    by (Versioned v s) = absurd (apart _ p c.viewer.point s.viewer_at at)
    by (Typed v s) = absurd (apart _ p c.viewer.point s.viewer_at at)
    by (Choosing37 s) = absurd (apart _ p c.viewer.point s.viewer_at at)
    by (Choosing38 s) = absurd (apart _ p c.viewer.point s.viewer_at at)
    by (Chosen s) = absurd (apart _ p c.viewer.point s.viewer_at at)
    by (Sharing v s) = absurd (apart _ p c.viewer.point s.viewer_at at)
    by (Begun v s) = absurd (apart _ p c.viewer.point s.viewer_at at)
    by (Named v n text s h) = absurd (apart _ p c.viewer.point s.viewer_at at)
    by (Idling q m s) = messages m.session_at
    by (Asking q m s) = messages m.session_at
    by (Held q m s) = messages m.session_at
    by (Sent q m s) = messages m.session_at

-- a message of a ready viewer joins the bytes in flight
pub called_flies : (e : Ends) (l : LinkState) (f : Flight) (p : UpdatePoint) (v : ViewerState)
    (message : ClientMessage) (bytes : List ℕ) → Phase e (core l) → l.viewer.point ≡ Second p →
    Flies e l f → ReadsAll (to_viewer_stream e) v.point
    (f.viewer_has ++ f.viewer_gets) l.to_viewer [] → SpellsClientMessage message bytes →
    Flies e (calls None l v message) (record f { server_gets = f.server_gets ++ bytes })
called_flies e l f p v message bytes phase ready flies reads spelled =
    let at = ready_after e (core l) p phase ready in
    let read : ReadsAll (to_server_stream e) (p_server e (core l)) bytes (Second message ∷ []) [] =
    subst (λ (q : ClientAt). ReadsAll (to_server_stream e) q bytes (Second message ∷ []) [])
    (sym at) (all_second (client_two e.serving.hello.offer) tt bytes (message ∷ []) []
    (one_read message bytes spelled)) in
    record {
      to_viewer = reads;
      at_viewer = flies.at_viewer;
      viewer_within = flies.viewer_within;
      to_server =
          joins (to_server_stream e)
          (client_bytes_laws e.serving.hello.offer) l.session.point
          f.server_has f.server_gets bytes l.to_server
          (Second message ∷ []) flies.to_server read;
      at_server = flies.at_server;
      server_within =
          within_append (to_server_stream e) (client_bytes_laws e.serving.hello.offer) l.at_server
          (p_server e (core l)) bytes l.to_server (Second message ∷ []) [] flies.server_within read;
    }

-- where nothing is in flight to the viewer, it may be at any point
pub none_flies : (e : Ends) (l : LinkState) (f : Flight) (at : ServerAt) → l.to_viewer ≡ [] →
    Flies e l f → ReadsAll (to_viewer_stream e) at (f.viewer_has ++ f.viewer_gets) l.to_viewer []
none_flies e l f at none flies =
    let empty : f.viewer_has ++ f.viewer_gets ≡ [] =
    subst (λ (q : List FromServer). ReadsAll (to_viewer_stream e) l.viewer.point
    (f.viewer_has ++ f.viewer_gets) q []) none flies.to_viewer in
    subst (λ (q : List FromServer). ReadsAll (to_viewer_stream e) at
    (f.viewer_has ++ f.viewer_gets) q []) (sym none) empty

front_none : (xs ys : List ℕ) → xs ++ ys ≡ [] → xs ≡ []
front_none [] ys e = refl
front_none (x ∷ xs) ys e = absurd cc

-- a format is refused by the bytes that came of an item as by the item
pub refusal_same : (e : Ends) (l : LinkState) (f : Flight) → Phase e (core l) → Flies e l f →
    format_refusal l.viewer f.viewer_has ≡ format_refusal l.viewer (begun l.at_viewer l.to_viewer)
refusal_same e l f phase flies = by phase
  where
    early : (vp : ServerPoint) → l.viewer.point ≡ First vp → (one other : List ℕ) →
        format_refusal l.viewer one ≡ format_refusal l.viewer other
    early vp at one other =
        ap (λ (q : ServerAt). format_refused q l.viewer.outstanding one) at
        ∙ sym (ap (λ (q : ServerAt). format_refused q l.viewer.outstanding other) at)

    refused : (p : UpdatePoint) → l.viewer.point ≡ Second p → l.viewer.outstanding ≡ true →
        (one : List ℕ) → format_refusal l.viewer one ≡ Some Busy
    refused p at busy one =
        ap (λ (q : ServerAt). format_refused q l.viewer.outstanding one) at
        ∙ ap (λ (b : Bool). format_refused (Second p) b one) busy

    idle : l.to_viewer ≡ [] → format_refusal l.viewer f.viewer_has
        ≡ format_refusal l.viewer (begun l.at_viewer l.to_viewer)
    idle none =
        let empty : f.viewer_has ++ f.viewer_gets ≡ [] =
        subst (λ (q : List FromServer). ReadsAll (to_viewer_stream e) l.viewer.point
        (f.viewer_has ++ f.viewer_gets) q []) none flies.to_viewer in
        let has : f.viewer_has ≡ [] = front_none f.viewer_has f.viewer_gets empty in
        let at : l.at_viewer ≡ 0 = sym flies.at_viewer ∙ ap (λ (xs : List ℕ). length xs) has in
        let nothing : begun l.at_viewer l.to_viewer ≡ [] = ap (λ (n : ℕ). begun n l.to_viewer) at in
        ap (λ (xs : List ℕ). format_refusal l.viewer xs) (has ∙ sym nothing)

    by : Phase e (core l) → format_refusal l.viewer f.viewer_has
        ≡ format_refusal l.viewer (begun l.at_viewer l.to_viewer)
    by (Greeting s) = early _ s.viewer_at f.viewer_has (begun l.at_viewer l.to_viewer)
    by (Versioned v s) = early _ s.viewer_at f.viewer_has (begun l.at_viewer l.to_viewer)
    by (Typed v s) = early _ s.viewer_at f.viewer_has (begun l.at_viewer l.to_viewer)
    by (Choosing37 s) = early _ s.viewer_at f.viewer_has (begun l.at_viewer l.to_viewer)
    by (Choosing38 s) = early _ s.viewer_at f.viewer_has (begun l.at_viewer l.to_viewer)
    by (Chosen s) = early _ s.viewer_at f.viewer_has (begun l.at_viewer l.to_viewer)
    by (Sharing v s) = early _ s.viewer_at f.viewer_has (begun l.at_viewer l.to_viewer)
    by (Begun v s) = early _ s.viewer_at f.viewer_has (begun l.at_viewer l.to_viewer)
    by (Named v n text s h) = early _ s.viewer_at f.viewer_has (begun l.at_viewer l.to_viewer)
    by (Idling p m s) = idle s.none
    by (Asking p m s) = idle s.none
    by (Held p m s) = idle s.none
    by (Sent p m s) =
        refused p m.viewer_at s.busy f.viewer_has
        ∙ sym (refused p m.viewer_at s.busy (begun l.at_viewer l.to_viewer))
