-- The calls of a share, from what became of its seats.
use Rattle.std.proofs.Common.{◌≡◌, ◌≢◌, ◌⊎◌, ℕ, Bool, true, false, not, ◌&&◌, nat_eq, List, []}
use Rattle.std.proofs.Common.{take, Option, Some, None, inl, inr, refl, sym, ap, ◌∙◌, subst, arith}
use Rattle.std.proofs.Common.{length}
use Rattle.std.specs.Option.{ForSome}
use Rattle.std.proofs.lemmas.Bool.{cases_eq}
use Rattle.rfb_pixel.specs.declared.colour.Colour.{Colour}
use Rattle.rfb_picture.specs.Grid.{Grid, IsGrid}
use Rattle.rfb_picture.specs.Places.{has_bit}
use Rattle.rfb_hello.specs.Version.{version_text}
use Rattle.rfb_server.specs.declared.session.Session.{Session}
use Rattle.rfb_server.specs.KnownScreen.{Follows}
use Rattle.rfb_server.specs.Hints.{hints_in}
use Rattle.rfb_server.specs.Server.{Serving, first_server}
use Rattle.rfb_server.specs.Model.{SessionStandsFor, serving_with, with_screen}
use Rattle.rfb_server.specs.declared.event.ServerEvent.{ServerEvent}
use Rattle.rfb_server.specs.Told.{ServerTold, Reply, Ready, Key, Pointer, CutText}
use Rattle.rfb_server.specs.Told.{seen, event_told}
use Rattle.rfb_session.specs.declared.share.Share.{Share}
use Rattle.rfb_session.specs.declared.share.event.Heard.{Heard}
use Rattle.rfb_session.specs.declared.share.event.ShareFault.{ShareFault}
use Rattle.rfb_session.specs.declared.share.event.ShareFault.TheVariants.{NoSuchSeat, NoMemory}
use Rattle.rfb_session.specs.declared.share.event.ShareFault.TheVariants.{Session as SessionFault}
use Rattle.rfb_session.specs.declared.share.seat.ShareSeat.{ShareSeat}
use Rattle.rfb_session.specs.LinkBytes.{IsSole, sole_told}
use Rattle.rfb_session.specs.Share.{seat_in, screen_of, serving_in, IsFreshIn}
use Rattle.rfb_session.specs.ShareSeats.{IsSeatOf}
use Rattle.rfb_session.specs.ShareSlots.{HearsIn, EndsIn}
use Rattle.rfb_session.specs.ShareSteps.{KeepsScreen, OthersKept, HearsBy, RefusesAs, NoneHeard, SeatEmptied}
use Rattle.rfb_session.specs.ShareSteps.{SeatEnded, asks_alone, event_seen, seat_told}
use Rattle.rfb_session.specs.Slots.{is_taken, StaysUnless}
use Rattle.rfb_session.proofs.SlotLemmas.{other}

-- ---- what a seat follows

-- a slot that has another seat
pub one_follows : (screen : Grid Colour) (o : Option ShareSeat) (a b : ShareSeat) → o ≡ Some a →
    o ≡ Some b → Follows screen a.session → Follows screen b.session
one_follows screen o a b one two follows =
    let same : a ≡ b = cc in subst (λ (s : ShareSeat). Follows screen s.session) same follows

pub none_follows : (screen : Grid Colour) (o : Option ShareSeat) (seat : ShareSeat) → o ≡ None →
    o ≡ Some seat → Follows screen seat.session
none_follows screen o seat none some = absurd (apart none some)
  where
    apart : o ≡ None → o ≡ Some seat → ⊥
    apart is other = cc

pub follows_on : (screen : Grid Colour) (old new : Option ShareSeat) (a b : ShareSeat) →
    old ≡ Some a → new ≡ Some b → (Follows screen a.session → Follows screen b.session) →
    ForSome old (λ seat. Follows screen seat.session) →
    ForSome new (λ seat. Follows screen seat.session)
follows_on screen old new a b was is goes follow = λ seat there.
    one_follows screen new b seat is there (goes (follow a was))

-- ---- a fresh seat

-- over whatever screen a session stands for the first state
abbrev Serves : Serving → Session → Type 0
Serves serving session = (screen : Grid Colour) →
    SessionStandsFor serving screen session (with_screen screen (first_server serving)) []

pub fresh_in : (share : Share) (session : Session) (seat : ShareSeat) (w h : ℕ) (name : List ℕ) →
    w ≡ (screen_of share).width → h ≡ (screen_of share).height → name ≡ share.name.items →
    IsGrid (screen_of share) →
    ((screen : Grid Colour) → SessionStandsFor (serving_with share.offer w h name share.text_limit)
    screen session (with_screen screen
    (first_server (serving_with share.offer w h name share.text_limit))) []) →
    ((screen : Grid Colour) → IsGrid screen → screen.width ≡ w → screen.height ≡ h →
    Follows screen session) → hints_in session ≡ [] → IsSeatOf session seat →
    IsFreshIn share seat
fresh_in share session seat w h name wide high named whole stands follows hints seated =
    let made : ℕ → ℕ → List ℕ → Serving =
    λ x y t. serving_with share.offer x y t share.text_limit in
    let serves =
    subst (λ (x : ℕ). Serves (made x (screen_of share).height share.name.items) session) wide
    (subst (λ (y : ℕ). Serves (made w y share.name.items) session) high
    (subst (λ (t : List ℕ). Serves (made w h t) session) named stands)) in
    record {
      fresh = subst (λ (s : Session). SessionStandsFor (serving_in share) (screen_of share) s
          (with_screen (screen_of share) (first_server (serving_in share))) []) (sym seated.session_is)
          (serves (screen_of share));
      greets = seated.greets
          ∙ ap (λ hello. version_text hello.offer) (serves (screen_of share)).setup_is;
      memory = seated.memory;
      follows = subst (λ (s : Session). Follows (screen_of share) s) (sym seated.session_is)
          (follows (screen_of share) whole (sym wide) (sym high));
      hints = ap (λ (s : Session). hints_in s) seated.session_is ∙ hints;
    }

-- ---- bytes that were not taken

pub refused_as : (old new : Share) (k : ℕ) (bytes : List ℕ) (fault : ShareFault)
    (a b : Option ShareSeat) → EndsIn bytes fault a b → seat_in old k ≡ a → seat_in new k ≡ b →
    KeepsScreen old new → OthersKept old k new → RefusesAs old k bytes fault new
refused_as old new k bytes NoSuchSeat None None ends was is keeps others =
    NoneHeard refl was (record { screen = keeps; seats = λ j. by j (cases_eq j k) })
  where
    by : (j : ℕ) → ((j ≡ k) ⊎ (j ≢ k)) → seat_in new j ≡ seat_in old j
    by j (inl same) = ap (λ (i : ℕ). seat_in new i) same ∙ is
        ∙ sym (ap (λ (i : ℕ). seat_in old i) same ∙ was)
    by j (inr differ) = others j (other j k differ)
refused_as old new k bytes NoSuchSeat None (Some y) ends was is keeps others = absurd ends
refused_as old new k bytes NoSuchSeat (Some x) None ends was is keeps others = absurd ends
refused_as old new k bytes NoSuchSeat (Some x) (Some y) ends was is keeps others = absurd ends
refused_as old new k bytes NoMemory None None ends was is keeps others = absurd ends
refused_as old new k bytes NoMemory None (Some y) ends was is keeps others = absurd ends
refused_as old new k bytes NoMemory (Some x) (Some y) ends was is keeps others = absurd ends
refused_as old new k bytes NoMemory (Some x) None ends was is keeps others =
    SeatEmptied refl x was is keeps others
refused_as old new k bytes (SessionFault f) None None ends was is keeps others = absurd ends
refused_as old new k bytes (SessionFault f) None (Some y) ends was is keeps others = absurd ends
refused_as old new k bytes (SessionFault f) (Some x) None ends was is keeps others = absurd ends
refused_as old new k bytes (SessionFault f) (Some x) (Some y) ends was is keeps others =
    SeatEnded f refl x y was is ends keeps others

-- ---- bytes that were taken

-- whether its client asks for the screen alone
pub alone_is : (told : Option ServerTold) (b : Bool) → IsSole b (sole_told told) →
    b ≡ asks_alone told
alone_is None true sole = absurd (omega (arith, sole.some refl))
alone_is None false sole = refl
alone_is (Some (Reply bytes)) true sole = absurd (omega (arith, sole.some refl))
alone_is (Some (Reply bytes)) false sole = refl
alone_is (Some (Ready bytes true)) true sole = absurd (omega (arith, sole.some refl))
alone_is (Some (Ready bytes true)) false sole = refl
alone_is (Some (Ready bytes false)) true sole = refl
alone_is (Some (Ready bytes false)) false sole = absurd (omega (arith, sole.none refl))
alone_is (Some (Key down key)) true sole = absurd (omega (arith, sole.some refl))
alone_is (Some (Key down key)) false sole = refl
alone_is (Some (Pointer buttons x y)) true sole = absurd (omega (arith, sole.some refl))
alone_is (Some (Pointer buttons x y)) false sole = refl
alone_is (Some (CutText kept text_length)) true sole = absurd (omega (arith, sole.some refl))
alone_is (Some (CutText kept text_length)) false sole = refl

-- a session reports nothing only of no event
pub seen_none : (event : Option ServerEvent) → seen event ≡ None → event ≡ None
seen_none None none = refl
seen_none (Some event) none = absurd (apart none)
  where
    apart : Some (event_told event) ≡ None → ⊥
    apart e = cc

pub received_as : (heeds : Bool) (old new : Share) (k : ℕ) (bytes : List ℕ) (used : ℕ) (heard : Heard)
    (told : Option ServerTold) (a b : Option ShareSeat) → HearsIn (take used bytes) told a b →
    seat_in old k ≡ a → seat_in new k ≡ b → heard.used ≡ used →
    (told ≡ None → used ≡ length bytes) → heard.seat ≡ k →
    event_seen heard.event ≡ seat_told told →
    ((j : ℕ) → has_bit heard.ended j
    ≡ ((heeds && asks_alone told) && (not (nat_eq j k) && is_taken (seat_in old j)))) →
    ((j : ℕ) → nat_eq j k ≡ false →
    StaysUnless (has_bit heard.ended j) (seat_in old j) (seat_in new j)) →
    KeepsScreen old new → HearsBy heeds old k bytes heard new
received_as heeds old new k bytes used heard told None None hears was is some whole seat event ended others
    keeps = absurd hears
received_as heeds old new k bytes used heard told None (Some y) hears was is some whole seat event ended others
    keeps = absurd hears
received_as heeds old new k bytes used heard told (Some x) None hears was is some whole seat event ended others
    keeps = absurd hears
received_as heeds old new k bytes used heard told (Some x) (Some y) hears was is some whole seat event ended
    others keeps = record {
      was = x;
      now = y;
      told = told;
      was_there = was;
      is_there = is;
      hears = rw some hears;
      all = λ none. some ∙ whole none;
      seat_is = seat;
      event_is = event;
      ended = ended;
      others = others;
      keeps = keeps;
    }

-- ---- the place of a seat is its number

pub refused_there : (old new : Share) (place k : ℕ) (bytes : List ℕ) (fault : ShareFault) →
    place ≡ k → RefusesAs old place bytes fault new → RefusesAs old k bytes fault new
refused_there old new place k bytes fault is refuses =
    subst (λ (n : ℕ). RefusesAs old n bytes fault new) is refuses

pub received_there : (heeds : Bool) (old new : Share) (place k : ℕ) (bytes : List ℕ) (heard : Heard) →
    place ≡ k → HearsBy heeds old place bytes heard new → HearsBy heeds old k bytes heard new
received_there heeds old new place k bytes heard is receives =
    subst (λ (n : ℕ). HearsBy heeds old n bytes heard new) is receives
