-- Each call of a share carries the life of its seats on.
use Rattle.std.proofs.Common.{◌≡◌, ◌≢◌, ℕ, List, [], ◌++◌, take, Option, Some, None, refl, sym, ap, ◌∙◌}
use Rattle.std.proofs.Common.{subst, append-nil}
use Rattle.rfb_pixel.specs.declared.colour.Colour.{Colour}
use Rattle.rfb_picture.specs.Grid.{Grid}
use Rattle.rfb_server.specs.Server.{Serving}
use Rattle.rfb_server.specs.declared.fault.ServerFault.{ServerFault}
use Rattle.rfb_session.specs.declared.share.Share.{Share}
use Rattle.rfb_session.specs.declared.share.event.Composing.{Composing}
use Rattle.rfb_session.specs.declared.share.event.Composing.TheVariants.{Composed, NotDue, Waiting}
use Rattle.rfb_session.specs.declared.share.event.Composing.TheVariants.{NoSuchSeat}
use Rattle.rfb_session.specs.declared.share.event.Heard.{Heard}
use Rattle.rfb_session.specs.declared.share.event.ShareFault.{ShareFault}
use Rattle.rfb_session.specs.declared.share.event.ShareFault.TheVariants.{NoMemory}
use Rattle.rfb_session.specs.declared.share.event.ShareFault.TheVariants.{NoSuchSeat as Vacant}
use Rattle.rfb_session.specs.declared.share.event.ShareFault.TheVariants.{Session as OfSession}
use Rattle.rfb_session.specs.declared.share.seat.ShareSeat.{ShareSeat}
use Rattle.rfb_session.specs.Share.{seat_in, screen_of, serving_in, waits_at, waiting_for}
use Rattle.rfb_session.specs.ShareLives.{Lives, LivesAt, GoesOn}
use Rattle.rfb_session.specs.ShareSeats.{waiting_in, ComposesAt, WritesAt, IsNotifiedIn}
use Rattle.rfb_session.specs.ShareSlots.{ComposesIn, WantsRoomIn}
use Rattle.rfb_server.specs.Strokes.{Stroke, notice_of}
use Rattle.rfb_session.specs.ShareSteps.{JoinsAs, Full, Joined, DrawsOn, ReceivesAs}
use Rattle.rfb_session.specs.ShareSteps.{RefusesAs, NoneHeard, SeatEmptied, SeatEnded, WritesAs, ComposesAs}
use Rattle.rfb_session.specs.ShareSteps.{WantsRoomAs, KeepsScreen}
use Rattle.rfb_session.proofs.SlotLemmas.{became, one_seat, not_both}
use Rattle.rfb_session.proofs.ShareLifeLemmas.{lived_first, lives_heard, lives_ended, lives_written}
use Rattle.rfb_session.proofs.ShareLifeLemmas.{lives_kept, lives_drawn, lives_sent}

-- the same seat, over a screen that is the same
pub over : (serving : Serving) (old new : Share) (seat : ShareSeat) (heard taken : List ℕ) →
    KeepsScreen old new → Lives serving (screen_of old) seat heard taken →
    Lives serving (screen_of new) seat heard taken
over serving old new seat heard taken keeps lives =
    subst (λ (g : Grid Colour). Lives serving g seat heard taken) (sym keeps.screen) lives

pub joined_lives : (old new : Share) (joined : Option ℕ) (k : ℕ) → JoinsAs old joined new →
    joined ≡ Some k → LivesAt (serving_in old) new k [] []
joined_lives old new joined k (Full taken none same) is = absurd (apart joined none is)
  where
    apart : (o : Option ℕ) → o ≡ None → o ≡ Some k → ⊥
    apart o none some = cc
joined_lives old new joined k (Joined j told within free first seat there fresh keeps others) is =
    let same : j ≡ k = one joined told is in
    record {
      seat = seat;
      there = subst (λ (i : ℕ). seat_in new i ≡ Some seat) same there;
      lives = over (serving_in old) old new seat [] [] keeps
          (GoesOn [] (lived_first (serving_in old) (screen_of old) seat.session fresh.fresh)
          (fresh.greets ∙ sym (append-nil _)));
    }
  where
    one : (o : Option ℕ) → o ≡ Some j → o ≡ Some k → j ≡ k
    one o some other = cc

-- a drawing leaves what waits, and all that the session stands for
pub drawn_lives : (serving : Serving) (old new : Share) (s : Stroke) (k : ℕ)
    (heard taken : List ℕ) → DrawsOn old s new → LivesAt serving old k heard taken →
    LivesAt serving new k heard taken
drawn_lives serving old new s k heard taken draws was =
    let one = became (λ a b. IsNotifiedIn (notice_of s) a b) (seat_in old k) (seat_in new k) was.seat
    (draws.seats k) was.there in
    let keeps = one.2.keeps in
    record {
      seat = one.0;
      there = one.1;
      lives = lives_drawn serving (screen_of old) (screen_of new) was.seat one.0 heard taken
          keeps.session keeps.waits was.lives;
    }

pub received_lives : (serving : Serving) (old new : Share) (k : ℕ) (bytes : List ℕ) (told : Heard)
    (heard taken : List ℕ) → ReceivesAs old k bytes told new →
    LivesAt serving old k heard taken →
    LivesAt serving new k (heard ++ take told.used bytes) taken
received_lives serving old new k bytes told heard taken r was =
    let same = one_seat (seat_in old k) was.seat r.was was.there r.was_there in
    record {
      seat = r.now;
      there = r.is_there;
      lives = over serving old new r.now (heard ++ take told.used bytes) taken r.keeps
          (lives_heard serving (screen_of old) r.was r.now heard taken (take told.used bytes) r.told
          r.hears
          (subst (λ (s : ShareSeat). Lives serving (screen_of old) s heard taken) same was.lives));
    }

pub refused_lives : (serving : Serving) (old new : Share) (k : ℕ) (bytes : List ℕ)
    (fault : ShareFault) (heard taken : List ℕ) → fault ≢ NoMemory →
    RefusesAs old k bytes fault new →
    LivesAt serving old k heard taken → LivesAt serving new k (heard ++ bytes) taken
refused_lives serving old new k bytes fault heard taken other (NoneHeard is none all) was =
    absurd (not_both (seat_in old k) was.seat was.there none)
refused_lives serving old new k bytes fault heard taken other
    (SeatEmptied is before there gone keeps others) was = absurd (other is)
refused_lives serving old new k bytes fault heard taken other
    (SeatEnded of is before now there here ends keeps others) was =
    let same = one_seat (seat_in old k) was.seat before was.there there in
    record {
      seat = now;
      there = here;
      lives = over serving old new now (heard ++ bytes) taken keeps
          (lives_ended serving (screen_of old) before now heard taken bytes of ends
          (subst (λ (s : ShareSeat). Lives serving (screen_of old) s heard taken) same was.lives));
    }

pub written_lives : (serving : Serving) (old new : Share) (k count : ℕ) (heard taken : List ℕ) →
    WritesAs old k count new → LivesAt serving old k heard taken →
    LivesAt serving new k heard (taken ++ take count (waits_at old k))
written_lives serving old new k count heard taken writes was =
    let one = became (λ a b. WritesAt count a b) (seat_in old k) (seat_in new k) was.seat
    writes.seat was.there in
    let bytes : waits_at old k ≡ waiting_in was.seat =
    ap (λ (o : Option ShareSeat). waiting_for o) was.there in
    record {
      seat = one.0;
      there = one.1;
      lives = over serving old new one.0 heard (taken ++ take count (waits_at old k)) writes.keeps
          (subst (λ (l : List ℕ). Lives serving (screen_of old) one.0 heard (taken ++ take count l))
          (sym bytes)
          (lives_written serving (screen_of old) was.seat one.0 heard taken count one.2 was.lives));
    }

-- what a composing makes of the seat's life, whatever is answered
pub composed_seat : (serving : Serving) (screen : Grid Colour) (told : Composing) (a b : ShareSeat)
    (heard taken : List ℕ) → ComposesAt screen told a b → Lives serving screen a heard taken →
    Lives serving screen b heard taken
composed_seat serving screen Composed a b heard taken composes lives =
    lives_sent serving screen a b heard taken composes lives
composed_seat serving screen NotDue a b heard taken composes lives =
    lives_kept serving screen a b heard taken composes.none.kept
    (composes.none.appended ∙ sym composes.written) lives
composed_seat serving screen Waiting a b heard taken composes lives =
    subst (λ (s : ShareSeat). Lives serving screen s heard taken) (sym composes.same) lives
composed_seat serving screen NoSuchSeat a b heard taken composes lives = absurd composes

-- of a seat that is there the composing says so
pub composes_at : (screen : Grid Colour) (told : Composing) (a b : Option ShareSeat)
    (seat : ShareSeat) → ComposesIn screen told a b → a ≡ Some seat →
    (new : ShareSeat) × (b ≡ Some new) × ComposesAt screen told seat new
composes_at screen told None b seat is there = absurd (none_some there)
  where
    none_some : None ≡ Some seat → ⊥
    none_some e = cc
composes_at screen NoSuchSeat (Some a) None seat is there = absurd is
composes_at screen Composed (Some a) None seat is there = absurd is
composes_at screen NotDue (Some a) None seat is there = absurd is
composes_at screen Waiting (Some a) None seat is there = absurd is
composes_at screen told (Some a) (Some b) seat is there = (
  b,
  refl,
  subst (λ (s : ShareSeat). ComposesAt screen told s b) (one there) (as_said told is),
)
  where
    one : Some a ≡ Some seat → a ≡ seat
    one e = cc

    as_said : (t : Composing) → ComposesIn screen t (Some a) (Some b) → ComposesAt screen t a b
    as_said Composed said = said
    as_said NotDue said = said
    as_said Waiting said = said
    as_said NoSuchSeat said = said

pub composed_lives : (serving : Serving) (old new : Share) (k : ℕ) (told : Composing)
    (heard taken : List ℕ) → ComposesAs old k told new → LivesAt serving old k heard taken →
    LivesAt serving new k heard taken
composed_lives serving old new k told heard taken composes was =
    let one = composes_at (screen_of old) told (seat_in old k) (seat_in new k) was.seat
    composes.seat was.there in
    record {
      seat = one.0;
      there = one.1;
      lives = over serving old new one.0 heard taken composes.keeps
          (composed_seat serving (screen_of old) told was.seat one.0 heard taken one.2 was.lives);
    }

pub wanted_in : (serving : Serving) (screen : Grid Colour) (a b : Option ShareSeat)
    (seat : ShareSeat) (heard taken : List ℕ) → WantsRoomIn screen a b → a ≡ Some seat →
    Lives serving screen seat heard taken →
    (new : ShareSeat) × (b ≡ Some new) × Lives serving screen new heard taken
wanted_in serving screen None b seat heard taken is there lives = absurd is
wanted_in serving screen (Some a) None seat heard taken is there lives = absurd is
wanted_in serving screen (Some a) (Some b) seat heard taken is there lives = (
  b,
  refl,
  lives_kept serving screen a b heard taken is.kept (is.waits ∙ sym is.written)
      (subst (λ (s : ShareSeat). Lives serving screen s heard taken) (one there) lives),
)
  where
    one : Some a ≡ Some seat → seat ≡ a
    one e = cc

pub wanted_lives : (serving : Serving) (old new : Share) (k : ℕ) (heard taken : List ℕ) →
    WantsRoomAs old k new → LivesAt serving old k heard taken → LivesAt serving new k heard taken
wanted_lives serving old new k heard taken wants was =
    let one = wanted_in serving (screen_of old) (seat_in old k) (seat_in new k) was.seat heard
    taken wants.seat was.there was.lives in
    record {
      seat = one.0;
      there = one.1;
      lives = over serving old new one.0 heard taken wants.keeps one.2;
    }

pub alone_lives : (serving : Serving) (old new : Share) (k : ℕ) (heard taken : List ℕ) →
    KeepsScreen old new → seat_in new k ≡ seat_in old k → LivesAt serving old k heard taken →
    LivesAt serving new k heard taken
alone_lives serving old new k heard taken keeps same was = record {
  seat = was.seat;
  there = same ∙ was.there;
  lives = over serving old new was.seat heard taken keeps was.lives;
}

-- want of memory for a session is none of the other faults
pub not_vacant : Vacant ≡ NoMemory → ⊥
not_vacant is = cc

pub not_ended : (fault : ServerFault) → OfSession fault ≡ NoMemory → ⊥
not_ended fault is = cc

-- a seat whose session there is no memory for is emptied
pub refused_emptied : (old new : Share) (k : ℕ) (bytes : List ℕ) →
    RefusesAs old k bytes NoMemory new → seat_in new k ≡ None
refused_emptied old new k bytes (NoneHeard is none all) = absurd (not_vacant (sym is))
refused_emptied old new k bytes (SeatEmptied is before there gone keeps others) = gone
refused_emptied old new k bytes (SeatEnded of is before now there here ends keeps others) =
    absurd (not_ended of (sym is))
