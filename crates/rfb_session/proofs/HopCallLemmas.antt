-- A share of a server's picture goes on moment by moment: its viewer's calls, and what is done at its seats.
use Rattle.std.proofs.Common.{◌≡◌, ℕ, Bool, false, List, [], ◌++◌, Option, Some, None, Ok}
use Rattle.std.proofs.Common.{inl, inr, refl, sym, ap, subst, ◌∙◌}
use Rattle.rfb_pixel.specs.declared.colour.Colour.{Colour}
use Rattle.rfb_picture.specs.Grid.{Grid}
use Rattle.rfb_picture.specs.declared.rect.Rect.{Rect}
use Rattle.rfb_wire.specs.ClientMessage.{ClientMessage, FramebufferUpdateRequest}
use Rattle.rfb_viewer.specs.declared.call.Call.{Call}
use Rattle.rfb_viewer.specs.declared.call.Call.TheVariants.{Request, SetFormat, SetEncodings, Key, Pointer, CutText}
use Rattle.rfb_viewer.specs.declared.fault.CallFault.{CallFault}
use Rattle.rfb_viewer.specs.declared.viewer.Viewer.{Viewer}
use Rattle.rfb_viewer.specs.Call.{is_noted, message_bytes, message_of, refusal_for}
use Rattle.rfb_viewer.specs.Calls.{call_refusal, requested}
use Rattle.rfb_viewer.specs.Messages.{request_message}
use Rattle.rfb_viewer.specs.Model.{StandsFor as ViewerStandsFor}
use Rattle.rfb_viewer.specs.Viewer.{ViewerState}
use Rattle.rfb_session.specs.declared.event.Event.{Event}
use Rattle.rfb_session.specs.declared.event.Event.TheVariants as Happens
use Rattle.rfb_session.specs.declared.event.Event.TheVariants.{Request as OfRequest}
use Rattle.rfb_session.specs.declared.share.Share.{Share}
use Rattle.rfb_session.specs.HopAreas.{AsksAll, BecomesForAll, Covers, GoesForAll}
use Rattle.rfb_session.specs.HopEnds.{IsRelay, IsLinked, IsBehind, ShowsSame, Becomes}
use Rattle.rfb_session.specs.Hops.{Moment, GoesBelow, over}
use Rattle.rfb_session.specs.InFlight.{Flies}
use Rattle.rfb_session.specs.Link.{Ends, LinkState, first_link}
use Rattle.rfb_session.specs.LinkSteps.{calls}
use Rattle.rfb_session.specs.Network.{Network, Goes, Steps, IsFirst}
use Rattle.rfb_session.specs.Share.{screen_of, viewer_of}
use Rattle.rfb_session.specs.ShareMirrors.{MakesOn}
use Rattle.rfb_session.specs.ShareViewers.{IsWatchedBy, GoesOn, StaysWatched, fresh_over, plain_message}
use Rattle.rfb_session.proofs.CalledLemmas.{call_ready, request_ready}
use Rattle.rfb_session.proofs.NetworkLemmas.{reached_holds}
use Rattle.rfb_session.proofs.SentLemmas.{called_flies}
use Rattle.rfb_session.proofs.ShareCallLemmas.{plain_steps}
use Rattle.rfb_session.proofs.WorldLemmas.{reached_step}
use Rattle.rfb_session.proofs.HopSeatLemmas.{watched_made}
use Rattle.rfb_session.proofs.HopEndLemmas.{is_seen, one_viewer, over_screen, stays_below}

-- ---- calls of the share's viewer

-- the seat is as it was, over the screen as it was
stays_linked : (f : Ends) (old new : Share) (k : ℕ) (viewer : Viewer) (sends gets : List ℕ) (o : Option
    LinkState) →
    screen_of new ≡ screen_of old → StaysWatched old k new → IsLinked f old k viewer sends gets o →
    IsLinked f new k viewer sends gets o
stays_linked f old new k viewer sends gets None screen stays linked = tt
stays_linked f old new k viewer sends gets (Some l) screen stays linked =
    subst (λ (g : Grid Colour). IsWatchedBy f new k viewer sends gets (over g l)) (sym screen)
    (stays f viewer sends gets (over (screen_of old) l) linked)

-- its message joins the bytes to the server
relay_called : (e f : Ends) (old new : Share) (now : Viewer) (has to_server to_viewer bytes : List ℕ) (k : ℕ)
    (viewer : Viewer) (sends gets : List ℕ) (m : Moment) (message : ClientMessage) (v : ViewerState) (event : Event)
    (r : IsRelay e old has to_server to_viewer m) → viewer_of new ≡ Some now → screen_of new ≡ screen_of old →
    StaysWatched old k new → IsBehind f old k viewer sends gets m →
    Steps e m.above event (record m.above { link = calls None m.above.link v message }) →
    ViewerStandsFor e.viewing now v r.fed.has →
    Flies e (calls None m.above.link v message) (record {
      viewer_has = r.fed.has;
      viewer_gets = to_viewer;
      server_has = has;
      server_gets = to_server ++ bytes;
    }) →
    (b : Becomes e f m new has (to_server ++ bytes) to_viewer k viewer sends gets)
    × (AsksAll e event → GoesForAll e m.above b.next.above)
relay_called e f old new now has to_server to_viewer bytes k viewer sends gets m message v event r there screen stays
    behind step stands flies =
    let n : Network = record m.above { link = calls None m.above.link v message } in
    let next : Moment = record m { above = n } in
    let relay : IsRelay e new has (to_server ++ bytes) to_viewer next =
    record {
      viewer = now;
      is_there = there;
      screen_is = r.screen_is ∙ sym screen;
      fed = record {
        reached = reached_step e m.above n event r.fed.reached step;
        has = r.fed.has;
        stands = stands;
        flies = flies;
      };
    } in (
      record {
        next = next;
        goes = record {
          above = inr (inl (event, step));
          seen = is_seen e new has (to_server ++ bytes) to_viewer next relay;
          below = stays_below f m.screen m.below;
        };
        server = record { screen = refl; session = refl };
        relay = relay;
        behind = stays_linked f old new k viewer sends gets m.below screen stays behind;
      },
      λ all. inr (inl (event, all, step)),
    )

pub relay_requested : (e f : Ends) (old new : Share) (was : Viewer) (incremental : Bool) (rect : Rect)
    (before after has to_server to_viewer : List ℕ) (k : ℕ) (viewer : Viewer) (sends gets : List ℕ)
    (m : Moment) →
    viewer_of old ≡ Some was → MakesOn old was (Request incremental rect) before (Ok tt) after new →
    IsRelay e old has to_server to_viewer m → IsBehind f old k viewer sends gets m →
    (b : Becomes e f m new has (to_server ++ request_message incremental rect) to_viewer k viewer sends gets)
    × (Covers e rect → GoesForAll e m.above b.next.above)
relay_requested e f old new was incremental rect before after has to_server to_viewer k viewer sends gets m there makes
    r behind =
    let l = m.above.link in
    let stands : ViewerStandsFor e.viewing was l.viewer r.fed.has =
    subst (λ (v : Viewer). ViewerStandsFor e.viewing v l.viewer r.fed.has)
    (one_viewer (viewer_of old) r.viewer was r.is_there there) r.fed.stands in
    let none = makes.makes.refusal e.viewing l.viewer r.fed.has stands in
    let ready = request_ready l.viewer.point l.viewer.outstanding rect none in
    let message = FramebufferUpdateRequest incremental rect in
    relay_called e f old new makes.now has to_server to_viewer (request_message incremental rect) k viewer sends gets m
    message (requested l.viewer) (OfRequest incremental rect) r makes.is_there makes.screen
    (watched_made old new was (Request incremental rect) before (Ok tt) after k makes) behind
    (refl, ap (λ (o : Option CallFault). calls o l (requested l.viewer) message) none)
    (makes.makes.stands e.viewing l.viewer r.fed.has stands)
    (called_flies e l _ ready.0 (requested l.viewer) message (request_message incremental rect)
    (reached_holds e m.above r.fed.reached).phase ready.1 r.fed.flies r.fed.flies.to_viewer makes.makes.spelled)

-- a call that is not noted waits for the handshake alone
pub plain_refusal : (s : ViewerState) (prefix : List ℕ) (call : Call) → is_noted call ≡ false →
    refusal_for s prefix call ≡ call_refusal s
plain_refusal s prefix (Request incremental rect) plain = absurd (let e = plain in cc)
plain_refusal s prefix (SetFormat format) plain = absurd (let e = plain in cc)
plain_refusal s prefix (SetEncodings encodings) plain = refl
plain_refusal s prefix (Key down key) plain = refl
plain_refusal s prefix (Pointer buttons x y) plain = refl
plain_refusal s prefix (CutText text) plain = refl

-- a message that changes nothing of the viewer asks for nothing
plain_asks : (e : Ends) (event : Event) (message : ClientMessage) → plain_message event ≡ Some message →
    AsksAll e event
plain_asks e (Happens.Fill rect colour) message is = tt
plain_asks e (Happens.Put x y row) message is = tt
plain_asks e (Happens.Copy rect sx sy) message is = tt
plain_asks e (Happens.Hint rect sx sy) message is = tt
plain_asks e (Happens.Request incremental rect) message is = absurd (let one = is in cc)
plain_asks e (Happens.SetFormat form) message is = tt
plain_asks e (Happens.SetEncodings encodings) message is = tt
plain_asks e (Happens.Key down key) message is = tt
plain_asks e (Happens.Pointer buttons x y) message is = tt
plain_asks e (Happens.CutText text) message is = tt
plain_asks e Happens.Compose message is = tt
plain_asks e (Happens.ToServer count) message is = tt
plain_asks e (Happens.ToViewer count) message is = tt

pub relay_sent : (e f : Ends) (old new : Share) (was : Viewer) (call : Call) (event : Event)
    (before after has to_server to_viewer : List ℕ) (k : ℕ) (viewer : Viewer) (sends gets : List ℕ)
    (m : Moment) →
    viewer_of old ≡ Some was → MakesOn old was call before (Ok tt) after new → is_noted call ≡ false →
    plain_message event ≡ Some (message_of call) → IsRelay e old has to_server to_viewer m →
    IsBehind f old k viewer sends gets m →
    BecomesForAll e f m new has (to_server ++ message_bytes call) to_viewer k viewer sends gets
relay_sent e f old new was call event before after has to_server to_viewer k viewer sends gets m there makes plain is r
    behind =
    let l = m.above.link in
    let stands : ViewerStandsFor e.viewing was l.viewer r.fed.has =
    subst (λ (v : Viewer). ViewerStandsFor e.viewing v l.viewer r.fed.has)
    (one_viewer (viewer_of old) r.viewer was r.is_there there) r.fed.stands in
    let none = makes.makes.refusal e.viewing l.viewer r.fed.has stands
    ∙ plain_refusal l.viewer r.fed.has call plain in
    let ready = call_ready l.viewer.point none in
    let message = message_of call in
    let one = relay_called e f old new makes.now has to_server to_viewer (message_bytes call) k viewer sends gets m
    message l.viewer event r makes.is_there makes.screen (watched_made old new was call before (Ok tt) after k makes)
    behind
    (plain_steps e message event is m.above (record m.above { link = calls None l l.viewer message }) refl
    (ap (λ (o : Option CallFault). calls o l l.viewer message) none))
    (subst (λ (v : Viewer). ViewerStandsFor e.viewing v l.viewer r.fed.has) (sym (makes.makes.unnoted plain)) stands)
    (called_flies e l _ ready.0 l.viewer message (message_bytes call)
    (reached_holds e m.above r.fed.reached).phase ready.1 r.fed.flies r.fed.flies.to_viewer makes.makes.spelled) in
    record { becomes = one.0; for_all = one.1 (plain_asks e event message is) }

-- ---- what is done at the seats

same_relay : (e : Ends) (old new : Share) (has to_server to_viewer : List ℕ) (m : Moment) (o : Option LinkState) →
    ShowsSame old new → IsRelay e old has to_server to_viewer m →
    IsRelay e new has to_server to_viewer (record m { below = o })
same_relay e old new has to_server to_viewer m o same r = record {
  viewer = r.viewer;
  is_there = same.viewer ∙ r.is_there;
  screen_is = r.screen_is ∙ sym same.screen;
  fed = r.fed;
}

pub relay_came : (e f : Ends) (old new : Share) (has to_server to_viewer : List ℕ) (k : ℕ) (viewer : Viewer)
    (m : Moment) → ShowsSame old new → IsRelay e old has to_server to_viewer m → m.below ≡ None →
    IsWatchedBy f new k viewer [] [] (fresh_over f (screen_of new)) →
    Becomes e f m new has to_server to_viewer k viewer [] []
relay_came e f old new has to_server to_viewer k viewer m same r none w =
    let next : Moment = record m { below = Some (first_link f) } in
    let relay = same_relay e old new has to_server to_viewer m (Some (first_link f)) same r in
    let holds = reached_holds f (fresh_over f (screen_of new)) w.reached in
    let screen : m.screen ≡ screen_of new = r.screen_is ∙ sym same.screen in
    let first : IsFirst f (over m.screen (first_link f)) =
    record {
      width = ap (λ (g : Grid Colour). g.width) screen ∙ holds.wide;
      height = ap (λ (g : Grid Colour). g.height) screen ∙ holds.high;
      link = refl;
    } in
    record {
      next = next;
      goes = record {
        above = inl refl;
        seen = is_seen e new has to_server to_viewer next relay;
        below = subst (λ (o : Option LinkState). GoesBelow f m.screen o m.screen (Some (first_link f))) (sym none)
            first;
      };
      server = record { screen = refl; session = refl };
      relay = relay;
      behind = w;
    }

pub relay_below : (e f : Ends) (old new : Share) (has to_server to_viewer : List ℕ) (k : ℕ) (viewer : Viewer)
    (sends gets : List ℕ) (l : LinkState) (m : Moment) → ShowsSame old new →
    IsRelay e old has to_server to_viewer m → m.below ≡ Some l →
    GoesOn f (over m.screen l) new k viewer sends gets →
    Becomes e f m new has to_server to_viewer k viewer sends gets
relay_below e f old new has to_server to_viewer k viewer sends gets l m same r there (n, goes, w) =
    let next : Moment = record m { below = Some n.link } in
    let relay = same_relay e old new has to_server to_viewer m (Some n.link) same r in
    let here : n.screen ≡ m.screen = w.screen_is ∙ same.screen ∙ sym r.screen_is in
    let step : Goes f (over m.screen l) (over m.screen n.link) =
    subst (λ (o : Network). Goes f (over m.screen l) o) (over_screen n m.screen here) goes in
    record {
      next = next;
      goes = record {
        above = inl refl;
        seen = is_seen e new has to_server to_viewer next relay;
        below = subst (λ (o : Option LinkState). GoesBelow f m.screen o m.screen (Some n.link)) (sym there) step;
      };
      server = record { screen = refl; session = refl };
      relay = relay;
      behind = subst (λ (o : Network). IsWatchedBy f new k viewer sends gets o)
          (over_screen n (screen_of new) w.screen_is) w;
    }

pub relay_beside : (e f : Ends) (old new : Share) (has to_server to_viewer : List ℕ) (k : ℕ) (viewer : Viewer)
    (sends gets : List ℕ) (m : Moment) → ShowsSame old new → StaysWatched old k new →
    IsRelay e old has to_server to_viewer m → IsBehind f old k viewer sends gets m →
    IsRelay e new has to_server to_viewer m × IsBehind f new k viewer sends gets m
relay_beside e f old new has to_server to_viewer k viewer sends gets m same stays r behind = (
  same_relay e old new has to_server to_viewer m m.below same r,
  stays_linked f old new k viewer sends gets m.below same.screen stays behind,
)
