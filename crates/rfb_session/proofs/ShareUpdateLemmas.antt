-- An update that is composed for a share's seat is one of its link.
use Rattle.std.proofs.Common.{◌≡◌, ℕ, List, ◌++◌}
use Rattle.std.proofs.Common.{append-nil, Some}
use Rattle.std.proofs.Common.{inl, refl, sym, ap, ◌∙◌, subst}
use Rattle.rfb_pixel.specs.declared.colour.Colour.{Colour}
use Rattle.rfb_picture.specs.Grid.{Grid}
use Rattle.rfb_server.specs.Server.{ServerState}
use Rattle.rfb_viewer.specs.declared.viewer.Viewer.{Viewer}
use Rattle.rfb_session.specs.declared.event.Event.TheVariants.{Compose as OfCompose}
use Rattle.rfb_session.specs.declared.share.Share.{Share}
use Rattle.rfb_session.specs.declared.share.event.Composing.{Composing}
use Rattle.rfb_session.specs.declared.share.event.Composing.TheVariants.{Composed, NotDue}
use Rattle.rfb_session.specs.declared.share.event.Composing.TheVariants.{Waiting, NoSuchSeat}
use Rattle.rfb_session.specs.declared.share.seat.ShareSeat.{ShareSeat}
use Rattle.rfb_session.specs.Link.{Ends, server_of}
use Rattle.rfb_session.specs.Network.{Network, IsReached}
use Rattle.rfb_session.specs.Share.{seat_in, screen_of}
use Rattle.rfb_session.specs.ShareSeats.{waiting_in, ComposesAt, Sends}
use Rattle.rfb_session.specs.ShareSteps.{ComposesAs}
use Rattle.rfb_session.specs.ShareViewers.{IsWatchedBy, GoesOn}
use Rattle.rfb_session.proofs.NetworkLemmas.{reached_holds}
use Rattle.rfb_session.proofs.SentLemmas.{sent_link, sent_composes, sent_stands, sent_flies}
use Rattle.rfb_session.proofs.ShareLawLemmas.{composes_at}
use Rattle.rfb_session.proofs.ShareViewerLemmas.{Between, goes_by, to_viewer_same}

-- an update is one of the network's
sent_watched : (e : Ends) (share : Share) (n : Network) (a b : ShareSeat) (k : ℕ)
    (viewer : Viewer) (to_server on_way : List ℕ) → n.screen ≡ screen_of share →
    seat_in share k ≡ Some b → IsReached e n →
    Between e n a.session viewer to_server (on_way ++ waiting_in a) → Sends n.screen a b →
    GoesOn e n share k viewer to_server on_way
sent_watched e share n a b k viewer to_server on_way here there reached c sends =
    let s : ServerState = server_of n.screen n.link.session in
    let one = sends.update.sent e.serving s c.server_has c.server_is in
    let composes = sent_composes e n.link one in
    let flies = sent_flies e n.link one _ (reached_holds e n reached) c.flies in
    let gets : on_way ++ waiting_in b ≡ (on_way ++ waiting_in a) ++ one.update.bytes =
    ap (λ (q : List ℕ). on_way ++ q) one.update.appended
    ∙ ap (λ (q : List ℕ). q ++ one.update.bytes) (sym (append-nil on_way)
    ∙ ap (λ (q : List ℕ). on_way ++ q) (sym sends.written)) in
    goes_by e share k viewer to_server on_way n (sent_link e n.link one) OfCompose b reached (refl, inl composes)
    there here
    (to_viewer_same e (record n { link = sent_link e n.link one }) b.session viewer to_server
    ((on_way ++ waiting_in a) ++ one.update.bytes) (on_way ++ waiting_in b) gets
    (record {
      server_has = c.server_has;
      viewer_has = c.viewer_has;
      server_is = sent_stands e n.link one;
      viewer_is = c.viewer_is;
      flies = flies;
    }))

-- what is carried between the seat and its viewer is so over the same network
still_watched : (e : Ends) (share : Share) (n : Network) (seat : ShareSeat) (k : ℕ) (viewer : Viewer)
    (to_server on_way : List ℕ) → n.screen ≡ screen_of share → seat_in share k ≡ Some seat →
    IsReached e n → Between e n seat.session viewer to_server (on_way ++ waiting_in seat) →
    GoesOn e n share k viewer to_server on_way
still_watched e share n seat k viewer to_server on_way here there reached carries = (
  n,
  inl refl,
  record { seat = seat; there = there; screen_is = here; reached = reached; carries = carries },
)

composed_watched : (e : Ends) (share : Share) (n : Network) (told : Composing) (a b : ShareSeat)
    (k : ℕ) (viewer : Viewer) (to_server on_way : List ℕ) → n.screen ≡ screen_of share →
    seat_in share k ≡ Some b → IsReached e n →
    Between e n a.session viewer to_server (on_way ++ waiting_in a) →
    ComposesAt n.screen told a b → GoesOn e n share k viewer to_server on_way
composed_watched e share n Composed a b k viewer to_server on_way here there reached c composes =
    sent_watched e share n a b k viewer to_server on_way here there reached c composes
composed_watched e share n NotDue a b k viewer to_server on_way here there reached c composes =
    still_watched e share n b k viewer to_server on_way here there reached
    (to_viewer_same e n b.session viewer to_server (on_way ++ waiting_in a) (on_way ++ waiting_in b)
    (ap (λ (q : List ℕ). on_way ++ q) (composes.none.appended ∙ sym composes.written))
    (record {
      server_has = c.server_has;
      viewer_has = c.viewer_has;
      server_is = composes.none.kept.stands e.serving n.screen _ _ c.server_is;
      viewer_is = c.viewer_is;
      flies = c.flies;
    }))
composed_watched e share n Waiting a b k viewer to_server on_way here there reached c composes =
    still_watched e share n b k viewer to_server on_way here there reached
    (subst (λ (s : ShareSeat). Between e n s.session viewer to_server (on_way ++ waiting_in s)) (sym composes.same) c)
composed_watched e share n NoSuchSeat a b k viewer to_server on_way here there reached c composes =
    absurd composes

pub watched_composed : (e : Ends) (old new : Share) (k : ℕ) (told : Composing) (viewer : Viewer)
    (to_server on_way : List ℕ) (n : Network) → ComposesAs old k told new →
    IsWatchedBy e old k viewer to_server on_way n → GoesOn e n new k viewer to_server on_way
watched_composed e old new k told viewer to_server on_way n composes w =
    let one = composes_at (screen_of old) told (seat_in old k) (seat_in new k) w.seat
    composes.seat w.there in
    composed_watched e new n told w.seat one.0 k viewer to_server on_way
    (w.screen_is ∙ sym composes.keeps.screen) one.1 w.reached w.carries
    (subst (λ (g : Grid Colour). ComposesAt g told w.seat one.0) (sym w.screen_is) one.2)
