-- What a relay asks its server for is all of its screen.
use Rattle.std.proofs.Common.{◌≡◌, ◌<◌, ◌++◌, ◌∙◌, ℕ, true, false, List, [], Option, Some, None, Result, Ok, Err}
use Rattle.std.proofs.Common.{inl, refl, sym, ap, subst, arith, append-nil, append_assoc}
use Rattle.std.proofs.lemmas.Bool.Decides.{nat_tests}
use Rattle.rfb_pixel.specs.declared.colour.Colour.{Colour}
use Rattle.rfb_picture.specs.Grid.{Grid}
use Rattle.rfb_picture.specs.Rect.{contains, rect}
use Rattle.rfb_wire.specs.stream.End.{FedBy}
use Rattle.rfb_wire.specs.stream.Sequel.{First, Second}
use Rattle.rfb_codec.specs.UpdateStream.{UpdatePoint}
use Rattle.rfb_hello.specs.ServerHandshake.{ServerPoint}
use Rattle.rfb_viewer.specs.declared.fault.AppendFault.{AppendFault}
use Rattle.rfb_viewer.specs.declared.viewer.Viewer.{Viewer}
use Rattle.rfb_viewer.specs.Messages.{request_message}
use Rattle.rfb_viewer.specs.ServerBytes.{ServerAt}
use Rattle.rfb_viewer.specs.Model.{StandsFor}
use Rattle.rfb_viewer.specs.Told.{Ready}
use Rattle.rfb_viewer.specs.Viewer.{ViewerState, viewer as viewer_end}
use Rattle.rfb_session.specs.declared.console.desk.Desk.{Desk}
use Rattle.rfb_session.specs.declared.relay.Relay.{Relay}
use Rattle.rfb_session.specs.declared.relay.gone.Gone.{Gone}
use Rattle.rfb_session.specs.declared.relay.presence.Presence.{Presence}
use Rattle.rfb_session.specs.declared.share.Share.{Share}
use Rattle.rfb_session.specs.HopAreas.{BecomesForAll, BeginsForAll, Covers}
use Rattle.rfb_session.specs.HopEnds.{IsFed, IsRelay, IsBehind, ShowsSame}
use Rattle.rfb_session.specs.Hops.{Moment}
use Rattle.rfb_session.specs.InFlight.{AreMade}
use Rattle.rfb_session.specs.Link.{Ends}
use Rattle.rfb_session.specs.Network.{Network}
use Rattle.rfb_session.specs.Share.{viewer_of}
use Rattle.rfb_session.specs.relay.Desk.{AsksFrom, NobodyWaits, SomeWait, CallsShare, NoViewer, Calls, ask_call}
use Rattle.rfb_session.specs.relay.Desk.{whole_of}
use Rattle.rfb_session.specs.relay.Presence.{is_gone}
use Rattle.rfb_session.specs.relay.Server.{Begins, Begun, BadSize, NoRoomToAsk, LosesServer, GoneBefore, GoneNow}
use Rattle.rfb_session.proofs.CalledLemmas.{request_ready}
use Rattle.rfb_session.proofs.ConsoleMoveLemmas.{none_some}
use Rattle.rfb_session.proofs.HopCallLemmas.{relay_requested, relay_beside}
use Rattle.rfb_session.proofs.HopEndLemmas.{is_seen, one_viewer, stays_below}
use Rattle.rfb_session.proofs.HopFedLemmas.{fed_next, fed_requested}
use Rattle.rfb_session.proofs.HopSeatLemmas.{watched_made}
use Rattle.rfb_session.proofs.NetworkLemmas.{reached_holds}
use Rattle.rfb_session.proofs.PhaseLemmas.{Core, core, Phase, Greeting, Versioned, Typed, Choosing37, Choosing38}
use Rattle.rfb_session.proofs.PhaseLemmas.{Chosen}
use Rattle.rfb_session.proofs.PhaseLemmas.{Sharing, Begun as BegunPhase, Named, Idling, Asking, Held, Sent, Meets}
use Rattle.rfb_session.proofs.MirrorSizeLemmas.{IsSized}
use Rattle.rfb_session.proofs.RelayTakeLemmas.{Shakes, GoesOn, Ends as EndsAt, shakes, further}
use Rattle.rfb_session.proofs.RelaySendLemmas.{screen_sized, stored_sized}

-- ---- the size of the server's screen

not_past : (at : ServerAt) (point : ServerPoint) (p : UpdatePoint) → at ≡ First point → at ≡ Second p → ⊥
not_past at point p one two = cc

met_sized : (e : Ends) (c : Core) (q p : UpdatePoint) → Meets e c q → c.viewer.point ≡ Second p →
    (p.width ≡ e.serving.hello.width) × (p.height ≡ e.serving.hello.height)
met_sized e c q p m at =
    let same : p ≡ q = let one = m.viewer_at in let two = at in cc in
    (ap (λ (x : UpdatePoint). x.width) same ∙ m.wide, ap (λ (x : UpdatePoint). x.height) same ∙ m.high)

-- once its handshake is done the viewer of a link knows it
sized_at : (e : Ends) (c : Core) (p : UpdatePoint) → Phase e c → c.viewer.point ≡ Second p →
    (p.width ≡ e.serving.hello.width) × (p.height ≡ e.serving.hello.height)
sized_at e c p (Greeting s) at = absurd (not_past c.viewer.point _ p s.viewer_at at)
sized_at e c p (Versioned v s) at = absurd (not_past c.viewer.point _ p s.viewer_at at)
sized_at e c p (Typed v s) at = absurd (not_past c.viewer.point _ p s.viewer_at at)
sized_at e c p (Choosing37 s) at = absurd (not_past c.viewer.point _ p s.viewer_at at)
sized_at e c p (Choosing38 s) at = absurd (not_past c.viewer.point _ p s.viewer_at at)
sized_at e c p (Chosen s) at = absurd (not_past c.viewer.point _ p s.viewer_at at)
sized_at e c p (Sharing v s) at = absurd (not_past c.viewer.point _ p s.viewer_at at)
sized_at e c p (BegunPhase v s) at = absurd (not_past c.viewer.point _ p s.viewer_at at)
sized_at e c p (Named v n text s picture) at = absurd (not_past c.viewer.point _ p s.viewer_at at)
sized_at e c p (Idling q m i) at = met_sized e c q p m at
sized_at e c p (Asking q m i) at = met_sized e c q p m at
sized_at e c p (Held q m i) at = met_sized e c q p m at
sized_at e c p (Sent q m i) at = met_sized e c q p m at

covers_whole : (e : Ends) (w h : ℕ) → w ≡ e.serving.hello.width → h ≡ e.serving.hello.height →
    Covers e (rect 0 0 w h)
covers_whole e w h wide high x y across down =
    let left : x < w = omega (arith, wide, across) in
    let up : y < h = omega (arith, high, down) in
    inside w h x y left up
  where
    inside : (w h x y : ℕ) → x < w → y < h → contains (rect 0 0 w h) x y ≡ true
    inside w h x y left up = grind (arith, nat_tests)

same_sized : (w h v g : ℕ) (o : Option (Grid Colour)) → IsSized w h o → IsSized v g o → (w ≡ v) × (h ≡ g)
same_sized w h v g None one two = absurd one
same_sized w h v g (Some picture) one two = (sym one.0 ∙ two.0, sym one.1 ∙ two.1)

-- ---- requests of a share's

-- nothing is asked
asks_nothing : (e f : Ends) (share : Share) (has to_server to_viewer : List ℕ) (k : ℕ) (viewer : Viewer)
    (sends gets : List ℕ) (m : Moment) → IsRelay e share has to_server to_viewer m →
    IsBehind f share k viewer sends gets m →
    BecomesForAll e f m share has (to_server ++ []) to_viewer k viewer sends gets
asks_nothing e f share has to_server to_viewer k viewer sends gets m r behind =
    subst (λ (q : List ℕ). BecomesForAll e f m share has q to_viewer k viewer sends gets) (sym (append-nil to_server))
    (record {
      becomes = record {
        next = m;
        goes = record {
          above = inl refl;
          seen = is_seen e share has to_server to_viewer m r;
          below = stays_below f m.screen m.below;
        };
        server = record { screen = refl; session = refl };
        relay = r;
        behind = behind;
      };
      for_all = inl refl;
    })

module _ (e f : Ends) (old new : Share) (before after has to_server to_viewer : List ℕ) (k : ℕ) (viewer : Viewer)
    (sends gets : List ℕ) (m : Moment) (r : IsRelay e old has to_server to_viewer m)
    (behind : IsBehind f old k viewer sends gets m) where
  share_asks : (asked : Result (Unit {0}) AppendFault) → CallsShare old (ask_call old) before asked after new →
      (more : List ℕ) × (after ≡ before ++ more)
      × BecomesForAll e f m new has (to_server ++ more) to_viewer k viewer sends gets
  share_asks asked (NoViewer none same kept is) = absurd (none_some (viewer_of old) r.viewer none r.is_there)
  share_asks (Ok done) (Calls was is makes) =
      let l = m.above.link in
      let stands : StandsFor e.viewing was l.viewer r.fed.has =
      subst (λ (v : Viewer). StandsFor e.viewing v l.viewer r.fed.has)
      (one_viewer (viewer_of old) r.viewer was r.is_there is) r.fed.stands in
      let ready = request_ready l.viewer.point l.viewer.outstanding (whole_of old)
      (makes.makes.refusal e.viewing l.viewer r.fed.has stands) in
      let size = screen_sized e.viewing old was l.viewer r.fed.has ready.0 is stands ready.1 in
      let told = sized_at e (core l) ready.0 (reached_holds e m.above r.fed.reached).phase ready.1 in
      let one = relay_requested e f old new was true (whole_of old) before after has to_server to_viewer k viewer sends
      gets m is makes r behind in (
        request_message true (whole_of old),
        makes.makes.sent,
        record {
          becomes = one.0;
          for_all = one.1 (covers_whole e _ _ (size.0 ∙ told.0) (size.1 ∙ told.1));
        },
      )
  share_asks (Err fault) (Calls was is makes) =
      let same : ShowsSame old new =
      record {
        viewer = makes.is_there ∙ ap (λ (v : Viewer). Some v) makes.makes.refused ∙ sym is;
        screen = makes.screen;
      } in
      let one = relay_beside e f old new has to_server to_viewer k viewer sends gets m same
      (watched_made old new was (ask_call old) before (Err fault) after k makes) r behind in (
        [],
        makes.makes.kept ∙ sym (append-nil before),
        asks_nothing e f new has to_server to_viewer k viewer sends gets m one.0 one.1,
      )

pub relay_asks : (e f : Ends) (old new : Desk) (asked : Result (Unit {0}) AppendFault)
    (before after has to_server to_viewer : List ℕ) (k : ℕ) (viewer : Viewer) (sends gets : List ℕ) (m : Moment) →
    AsksFrom old asked before after new → IsRelay e old.share has to_server to_viewer m →
    IsBehind f old.share k viewer sends gets m →
    (more : List ℕ) × (after ≡ before ++ more)
    × BecomesForAll e f m new.share has (to_server ++ more) to_viewer k viewer sends gets
relay_asks e f old new asked before after has to_server to_viewer k viewer sends gets m
    (NobodyWaits none ok kept same) r behind = (
      [],
      kept ∙ sym (append-nil before),
      subst (λ (d : Desk). BecomesForAll e f m d.share has (to_server ++ []) to_viewer k viewer sends gets) (sym same)
          (asks_nothing e f old.share has to_server to_viewer k viewer sends gets m r behind),
    )
relay_asks e f old new asked before after has to_server to_viewer k viewer sends gets m (SomeWait some calls) r behind =
    share_asks e f old.share new.share before after has to_server to_viewer k viewer sends gets m r behind asked
    calls.share

-- ---- the first request

-- the screen that is reported at the end of a handshake is the server's
module _ (e : Ends) (was now : Viewer) (reply name : List ℕ) (width height name_length : ℕ)
    (bytes has to_server to_viewer : List ℕ) (n : Network)
    (fed : FedBy (viewer_end e.viewing) (StandsFor e.viewing) was bytes
    (Some (Ready reply width height name name_length)) now) (f : IsFed e was has to_server to_viewer n) where
  reported : (at : ServerAt) → n.link.viewer.point ≡ at →
      (p : UpdatePoint) × ((fed n.link.viewer f.has f.stands).0.point ≡ Second p) × (width ≡ p.width)
      × (height ≡ p.height)
  reported (First point) at =
      let one = fed n.link.viewer f.has f.stands in
      by (shakes e.viewing n.link.viewer point f.has bytes (Some (Ready reply width height name name_length)) one.0
      one.1 at one.3)
    where
      by : Shakes (fed n.link.viewer f.has f.stands).0.point (Some (Ready reply width height name name_length)) →
          (p : UpdatePoint) × ((fed n.link.viewer f.has f.stands).0.point ≡ Second p) × (width ≡ p.width)
          × (height ≡ p.height)
      by (GoesOn next to shaking) = absurd shaking
      by (EndsAt p b m k to told) = (p, to, let e = told in cc, let e = told in cc)
  reported (Second p) at =
      let one = fed n.link.viewer f.has f.stands in
      absurd (further e.viewing n.link.viewer p f.has bytes (Some (Ready reply width height name name_length)) one.0
      one.1 at one.3).plain

  reported_size : (s : ViewerState) (prefix : List ℕ) (p : UpdatePoint) → StandsFor e.viewing now s prefix →
      s.point ≡ Second p → (width ≡ p.width) × (height ≡ p.height)
  reported_size s prefix p stands at =
      let one = fed n.link.viewer f.has f.stands in
      let told = reported n.link.viewer.point refl in
      let same = same_sized told.0.width told.0.height p.width p.height now.picture
      (stored_sized e.viewing now one.0 one.1 told.0 one.2 told.1) (stored_sized e.viewing now s prefix p stands at) in
      (told.2 ∙ same.0, told.3 ∙ same.1)

module _ {S : Type 0} where
  gone_not : (mid new : Relay S) (how : Gone) → LosesServer mid how new → is_gone new.presence ≡ true
  gone_not mid new how (GoneBefore gone same) = ap (λ (r : Relay S). is_gone r.presence) same ∙ gone
  gone_not mid new how (GoneNow still goes) = ap (λ (p : Presence). is_gone p) goes.presence

  pub relay_begins : (e : Ends) (old new : Relay S) (was now : Viewer) (reply : List ℕ) (width height : ℕ)
      (name : List ℕ) (name_length : ℕ) (bytes has to_server to_viewer later : List ℕ) (n : Network) → AreMade e →
      to_viewer ≡ bytes ++ later →
      FedBy (viewer_end e.viewing) (StandsFor e.viewing) was bytes
      (Some (Ready reply width height name name_length)) now →
      IsFed e was has to_server to_viewer n → Begins old now reply width height new → new.console.outcome ≡ None →
      is_gone new.presence ≡ false →
      BeginsForAll e n new has (to_server ++ (reply ++ request_message false (rect 0 0 width height))) later
  relay_begins e old new was now reply width height name name_length bytes has to_server to_viewer later n made is fed f
      (Begun asked so takes) goes there =
      let message = request_message false (rect 0 0 width height) in
      let one = fed_next e was now bytes (Some (Ready reply width height name name_length)) has to_server to_viewer
      later n made is fed f in
      let l = one.0.next.link in
      let two = fed_requested e now asked false (rect 0 0 width height) message has (to_server ++ reply) later
      one.0.next
      (record { taken = takes.taken e.viewing; stands = takes.noted e.viewing }) takes.spelled one.0.fed in
      let ready = request_ready l.viewer.point l.viewer.outstanding (rect 0 0 width height)
      (takes.taken e.viewing l.viewer one.0.fed.has one.0.fed.stands) in
      let size = reported_size e was now reply name width height name_length bytes has to_server to_viewer n fed f
      l.viewer one.0.fed.has ready.0 one.0.fed.stands ready.1 in
      let told = sized_at e (core l) ready.0 (reached_holds e one.0.next one.0.fed.reached).phase ready.1 in
      subst (λ (q : List ℕ). BeginsForAll e n new has q later) (append_assoc to_server reply message) (record {
        asked = asked;
        coming = so.coming;
        mid = one.0.next;
        hears = one.2;
        goes = two.0;
        asks = two.1 (covers_whole e width height (size.0 ∙ told.0) (size.1 ∙ told.1));
      })
  relay_begins e old new was now reply width height name name_length bytes has to_server to_viewer later n made is fed f
      (BadSize size mid queues presence keeps loses) goes there =
      absurd (let one = gone_not mid new _ loses in let two = there in cc)
  relay_begins e old new was now reply width height name name_length bytes has to_server to_viewer later n made is fed f
      (NoRoomToAsk ran) goes there = absurd (none_some new.console.outcome _ goes ran)
