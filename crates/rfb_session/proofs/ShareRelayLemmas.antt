-- A share of the picture that a viewer has: its seats follow it.
use Rattle.std.proofs.Common.{◌≡◌, ℕ, true, false, List, [], ◌∷◌}
use Rattle.std.proofs.Common.{◌==◌, Option, Some, None, All}
use Rattle.std.proofs.Common.{refl, sym, ap, subst, ◌∙◌, ◌<◌, length, IfSome, arith}
use Rattle.std.proofs.Common.{IfOk, IfErr, Result}
use Rattle.std.proofs.lemmas.Result.{IfOk-weaker, IfErr-weaker}
use Rattle.std.proofs.lemmas.Bool.Decides.{nat_tests}
use Rattle.std.specs.Option.{ForSome, is_some}
use Rattle.rfb_pixel.specs.declared.colour.Colour.{Colour}
use Rattle.rfb_picture.specs.declared.rect.Rect.{Rect}
use Rattle.rfb_picture.specs.Grid.{Grid, IsGrid}
use Rattle.rfb_codec.specs.Effect.{IsAlike}
use Rattle.rfb_hello.specs.declared.fed.Fed.{Fed}
use Rattle.rfb_server.specs.KnownScreen.{Follows}
use Rattle.rfb_server.specs.Model.{notes_in, serving_with}
use Rattle.rfb_viewer.specs.declared.event.ViewerEvent.{ViewerEvent}
use Rattle.rfb_viewer.specs.declared.fault.ViewerFault.{ViewerFault}
use Rattle.rfb_viewer.specs.declared.viewer.Viewer.{Viewer}
use Rattle.rfb_viewer.specs.declared.viewer.moved.Move.{Move}
use Rattle.rfb_viewer.specs.Damage.{damage_of, IsSameOutside}
use Rattle.rfb_viewer.specs.Moved.{moved_of}
use Rattle.rfb_session.specs.declared.share.Share.{Share}
use Rattle.rfb_session.specs.declared.share.mirror.Mirror.{Mirror}
use Rattle.rfb_session.specs.declared.share.screen.Screen.{Screen}
use Rattle.rfb_session.specs.declared.share.screen.Screen.TheVariants.{Seen}
use Rattle.rfb_session.specs.declared.share.seat.ShareSeat.{ShareSeat}
use Rattle.rfb_session.specs.Mirrors.{FailsAt, IsAsked, TakesBytes, seen_by, shown_of}
use Rattle.rfb_session.specs.Share.{seat_in, screen_of, serving_in}
use Rattle.rfb_session.specs.ShareMirrors.{FailsOn, FeedsOn, HasCopies, Relays}
use Rattle.rfb_session.specs.ShareMoves.{IsRelayed, GetsWhole}
use Rattle.rfb_session.specs.ShareScreen.{shown_on, viewer_on}
use Rattle.rfb_session.specs.ShareWork.{Rests, OthersRest}
use Rattle.rfb_session.specs.Slots.{seat_at, OnSlot}
use Rattle.rfb_session.proofs.FollowLemmas.{AllFollow}
use Rattle.rfb_session.proofs.HubDrawLemmas.{made_sized}
use Rattle.rfb_session.proofs.ShareMoveLemmas.{keeps_itself, none_same}
use Rattle.rfb_session.proofs.SlotLemmas.{on_seat, each_seat, all_seats}

-- what is so at each slot by one relation is so by one that follows from it
pub slot_by : (R S : ShareSeat → ShareSeat → Type 0) (a b : Option ShareSeat) →
    ((x y : ShareSeat) → R x y → S x y) → OnSlot R a b → OnSlot S a b
slot_by R S None None goes is = tt
slot_by R S None (Some y) goes is = absurd is
slot_by R S (Some x) None goes is = absurd is
slot_by R S (Some x) (Some y) goes is = goes x y is

pub all_alike : (screen after : Grid Colour) (slots : List (Option ShareSeat)) →
    AllFollow (λ seat. seat.session) screen slots → IsAlike after screen →
    All (λ slot. ForSome slot (λ seat. IsAlike after (notes_in seat.session).known)) slots
all_alike screen after slots follow alike = λ k d within seat is.
    let one = (follow k d within seat is).alike in
    record { columns = alike.columns ∙ one.columns; rows = alike.rows ∙ one.rows }

-- ---- where nothing was damaged or copied

pub not_some : (o : Option Rect) → is_some o ≡ false → o ≡ None
not_some None none = refl
not_some (Some r) none = absurd (let e = none in cc)

pub no_moves : (moves : List Move) → true ≡ (length moves == 0) → moves ≡ []
no_moves [] none = refl
no_moves (move ∷ moves) none = absurd (some (length (move ∷ moves)) none (omega arith))
  where
    some : (n : ℕ) → true ≡ (n == 0) → 0 < n → ⊥
    some n none less = let zero : n ≡ 0 = grind (arith, nat_tests) in omega (arith, zero, less)

pub quiet : (screen : Grid Colour) (damage : Option Rect) (moves : List Move) (slots : List (Option ShareSeat)) →
    IsGrid screen → damage ≡ None → moves ≡ [] → (k : ℕ) →
    OnSlot (λ a b. IsRelayed screen damage moves a b) (seat_at k slots) (seat_at k slots)
quiet screen damage moves slots whole none empty k = by (seat_at k slots)
  where
    one : (seat : ShareSeat) → IsRelayed screen None [] seat seat
    one seat = record {
      keeps = keeps_itself seat;
      hints = refl;
      follows = λ before alike outside follows.
          subst (λ (g : Grid Colour). Follows g seat.session)
          (sym (none_same before screen follows.whole whole alike outside)) follows;
    }

    by : (o : Option ShareSeat) → OnSlot (λ a b. IsRelayed screen damage moves a b) o o
    by None = tt
    by (Some seat) =
        subst (λ (d : Option Rect). IsRelayed screen d moves seat seat) (sym none)
        (subst (λ (ms : List Move). IsRelayed screen None ms seat seat) (sym empty) (one seat))

pub quiet_rests : (before screen : Grid Colour) (old new : List (Option ShareSeat)) (bits : ℕ) →
    AllFollow (λ seat. seat.session) before old → ((k : ℕ) → seat_at k new ≡ seat_at k old) →
    IsGrid screen →
    IsAlike screen before → IsSameOutside None (Some before) (Some screen) → OthersRest before old bits →
    OthersRest screen new bits
quiet_rests before screen old new bits follow same whole alike outside rest k seat clear is =
    let was = sym (same k) ∙ is in
    let follows = each_seat (λ s. Follows before s.session) old follow k seat was in
    subst (λ (g : Grid Colour). Rests g seat) (sym (none_same before screen follows.whole whole alike outside))
    (rest k seat clear was)

-- ---- where something was

pub all_relayed : (before screen : Grid Colour) (damage : Option Rect) (moves : List Move)
    (old new : List (Option ShareSeat)) → AllFollow (λ seat. seat.session) before old →
    ((k : ℕ) → OnSlot (λ a b. IsRelayed screen damage moves a b) (seat_at k old) (seat_at k new)) →
    IsAlike screen before → IsSameOutside damage (Some before) (Some screen) →
    AllFollow (λ seat. seat.session) screen new
all_relayed before screen damage moves old new follow told alike outside =
    all_seats (λ seat. Follows screen seat.session) new (λ k seat there.
    let one = on_seat (λ a b. IsRelayed screen damage moves a b) (seat_at k old) (seat_at k new) seat (told k) there in
    one.2.follows before alike outside (each_seat (λ s. Follows before s.session) old follow k one.0 one.1))

pub all_whole : (before screen : Grid Colour) (old new : List (Option ShareSeat)) →
    AllFollow (λ seat. seat.session) before old →
    ((k : ℕ) → OnSlot (λ a b. GetsWhole screen a b) (seat_at k old) (seat_at k new)) →
    IsAlike screen before → AllFollow (λ seat. seat.session) screen new
all_whole before screen old new follow told alike =
    all_seats (λ seat. Follows screen seat.session) new (λ k seat there.
    let one = on_seat (λ a b. GetsWhole screen a b) (seat_at k old) (seat_at k new) seat (told k) there in
    one.2.follows before alike (each_seat (λ s. Follows before s.session) old follow k one.0 one.1))

-- ---- what is said of a viewer that there is

pub if_viewer : (o : Option Viewer) (P : Viewer → Type 0) (viewer : Viewer) → o ≡ Some viewer → P viewer →
    IfSome o P
if_viewer o P viewer is so = subst (λ (x : Option Viewer). IfSome x P) (sym is) so

-- ---- a viewer that was fed

-- the seats are told of what came to a viewer that was fed, where its picture keeps its size
relays_fed : (old new : Share) (was now : Mirror) (fed : Viewer) → old.screen ≡ Seen was →
    new.screen ≡ Seen now → serving_in new ≡ serving_with old.offer (screen_of new).width (screen_of new).height
    old.name.items old.text_limit → IsAsked fed now.viewer → IsAlike (seen_by fed) (seen_by was.viewer) →
    ((k : ℕ) → OnSlot (λ a b. IsRelayed (screen_of new) (damage_of fed) (moved_of fed) a b) (seat_in old k)
    (seat_in new k)) → Relays old fed new
relays_fed old new was now fed was_there is_there made asked alike told =
    let same : screen_of new ≡ seen_by fed = ap (λ (x : Screen). shown_on x) is_there
    ∙ ap (λ (o : Option (Grid Colour)). shown_of o) asked.keeps.picture in
    let before : screen_of old ≡ seen_by was.viewer = ap (λ (x : Screen). shown_on x) was_there in
    record {
      now = now.viewer;
      is_there = ap (λ (x : Screen). viewer_on x) is_there;
      asked = asked;
      seats = λ k. slot_by (λ a b. IsRelayed (screen_of new) (damage_of fed) (moved_of fed) a b)
          (λ a b. HasCopies (screen_of new) (moved_of fed) a b) (seat_in old k) (seat_in new k)
          (λ a b one. record { keeps = one.keeps; hints = one.hints }) (told k);
      made = made ∙ made_sized old.offer old.name.items old.text_limit _ _ _ _
          (ap (λ (g : Grid Colour). g.width) same ∙ alike.columns
          ∙ ap (λ (g : Grid Colour). g.width) (sym before))
          (ap (λ (g : Grid Colour). g.height) same ∙ alike.rows
          ∙ ap (λ (g : Grid Colour). g.height) (sym before));
    }

-- whether they were taken or came to a fault
pub fed_so : (old new : Share) (was now : Mirror) (bytes : List ℕ) (fed : Viewer)
    (result : Result (Fed ViewerEvent) ViewerFault) → old.screen ≡ Seen was → new.screen ≡ Seen now →
    serving_in new ≡ serving_with old.offer (screen_of new).width (screen_of new).height old.name.items
    old.text_limit → IsAsked fed now.viewer → IsAlike (seen_by fed) (seen_by was.viewer) →
    ((k : ℕ) → OnSlot (λ a b. IsRelayed (screen_of new) (damage_of fed) (moved_of fed) a b) (seat_in old k)
    (seat_in new k)) → IfOk result (λ told. TakesBytes was.viewer bytes told fed) →
    IfErr result (λ fault. FailsAt was.viewer bytes fault fed) →
    IfOk result (λ told. FeedsOn old bytes told new) × IfErr result (λ fault. FailsOn old bytes fault new)
fed_so old new was now bytes fed result was_there is_there made asked alike told takes fails =
    let there = ap (λ (x : Screen). viewer_on x) was_there in
    let relays = relays_fed old new was now fed was_there is_there made asked alike told in (
      IfOk-weaker result _ _ (λ one takes.
          record { was = was.viewer; mid = fed; was_there = there; takes = takes; relays = relays }) takes,
      IfErr-weaker result _ _ (λ fault fails.
          record { was = was.viewer; mid = fed; was_there = there; fails = fails; relays = relays }) fails,
    )
