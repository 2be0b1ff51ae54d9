-- The life of one seat of a share, from one call to the next.
use Rattle.std.proofs.Common.{◌≡◌, ◌⊎◌, ◌++◌, ◌∙◌, ℕ, Bool, true, false, List, [], cond, Option}
use Rattle.std.proofs.Common.{Some, None, refl, sym}
use Rattle.std.proofs.Common.{ap, subst, inl, inr, take, nat_eq, not, append-nil, append_assoc}
use Rattle.std.proofs.Math.Seq.{take-length}
use Rattle.std.proofs.lemmas.Bool.Decides.{eqb_tells}
use Rattle.rfb_pixel.specs.declared.colour.Colour.{Colour}
use Rattle.rfb_picture.specs.Grid.{Grid}
use Rattle.rfb_picture.specs.Places.{has_bit}
use Rattle.rfb_server.specs.Strokes.{Stroke, notice_of}
use Rattle.rfb_server.specs.Server.{Serving}
use Rattle.rfb_session.specs.declared.console.desk.Desk.{Desk}
use Rattle.rfb_session.specs.declared.share.Share.{Share}
use Rattle.rfb_session.specs.declared.share.event.Composing.{Composing}
use Rattle.rfb_session.specs.declared.share.event.Composing.TheVariants.{Composed, NotDue, Waiting, NoSuchSeat}
use Rattle.rfb_session.specs.declared.share.event.Heard.{Heard}
use Rattle.rfb_session.specs.declared.share.event.ShareFault.{ShareFault}
use Rattle.rfb_session.specs.declared.share.seat.ShareSeat.{ShareSeat}
use Rattle.rfb_session.specs.doors.Events.{left}
use Rattle.rfb_session.specs.owner.OwnerStroke.{DrawsOne, Drawn, Outside}
use Rattle.rfb_session.specs.Share.{seat_in, screen_of, canvas_of, viewer_of, serving_in, waits_at}
use Rattle.rfb_session.specs.ShareLives.{Lives, LivesAt}
use Rattle.rfb_session.specs.ShareSeats.{IsNotifiedIn}
use Rattle.rfb_session.specs.ShareSlots.{ComposesIn, WantsRoomIn}
use Rattle.rfb_session.specs.ShareSteps.{KeepsScreen, LeavesAs, JoinsAs, Full, Joined, HearsBy, NoneHeard, SeatEmptied}
use Rattle.rfb_session.specs.ShareSteps.{SeatEnded, RefusesAs, WritesAs}
use Rattle.rfb_session.specs.Slots.{OnSlot}
use Rattle.rfb_session.specs.declared.share.event.SeatEvent.{SeatEvent}
use Rattle.rfb_session.specs.console.Viewers.{HearsAt, Took, Refused, Admits, MakesRoom}
use Rattle.rfb_session.specs.console.Updates.{OrPutOff, Serves, Rested, Tried, Wanted, ServesUnless}
use Rattle.rfb_session.proofs.ShareLifeLemmas.{lives_heard}
use Rattle.rfb_session.proofs.ShareLawLemmas.{over, drawn_lives, refused_lives, written_lives, alone_lives, composes_at}
use Rattle.rfb_session.proofs.ShareLawLemmas.{composed_seat, wanted_in, not_vacant, not_ended}
use Rattle.rfb_session.proofs.SlotLemmas.{one_seat}
use Rattle.rfb_session.proofs.ConsoleMoveLemmas.{none_some}

-- bytes more were received there and others written, or it was emptied; and where nobody was nobody is
pub record GoesOn (serving : Serving) (k : ℕ) (x y : List ℕ) (a b : Share) : Type 0 where
  pub lives : (heard taken : List ℕ) → LivesAt serving a k heard taken →
      LivesAt serving b k (heard ++ x) (taken ++ y) ⊎ (seat_in b k ≡ None)
  pub gone : seat_in a k ≡ None → seat_in b k ≡ None

empty_stays : (R : ShareSeat → ShareSeat → Type 0) (a b : Option ShareSeat) → OnSlot R a b → a ≡ None →
    b ≡ None
empty_stays R None None becomes none = refl
empty_stays R None (Some b) becomes none = absurd becomes
empty_stays R (Some a) b becomes none = cc

-- what lives on by one thing, or is gone, and by another, lives on by both or is gone
pub lives_then : {X : Type 0} (LivesBy : X → List ℕ → List ℕ → Type 0) (IsGone : X → Type 0)
    (x y x' y' : List ℕ) (a b c : X) →
    ((heard taken : List ℕ) → LivesBy a heard taken → LivesBy b (heard ++ x) (taken ++ y) ⊎ IsGone b) →
    ((heard taken : List ℕ) → LivesBy b heard taken → LivesBy c (heard ++ x') (taken ++ y') ⊎ IsGone c) →
    (IsGone b → IsGone c) → (heard taken : List ℕ) → LivesBy a heard taken →
    LivesBy c (heard ++ (x ++ x')) (taken ++ (y ++ y')) ⊎ IsGone c
lives_then LivesBy IsGone x y x' y' a b c first second gone heard taken was = elim (first heard taken was) [
  | inl mid ↦ elim (second (heard ++ x) (taken ++ y) mid) [
    | inl last ↦ inl (rw (sym (append_assoc heard x x'), sym (append_assoc taken y y')) last)
    | inr none ↦ inr none
  ]
  | inr none ↦ inr (gone none)
]

module _ (serving : Serving) (k : ℕ) where
  let_go : (x y : List ℕ) (a b : Share) → seat_in b k ≡ None → GoesOn serving k x y a b
  let_go x y a b none = record { lives = λ heard taken was. inr none; gone = λ was. none }

  as_was : (a b : Share) (heard taken : List ℕ) → LivesAt serving b k heard taken →
      LivesAt serving b k (heard ++ []) (taken ++ [])
  as_was a b heard taken was = rw (append-nil heard, append-nil taken) was

  pub stayed : (a b : Share) → KeepsScreen a b → seat_in b k ≡ seat_in a k → GoesOn serving k [] [] a b
  stayed a b keeps same = record {
    lives = λ heard taken was. inl (as_was a b heard taken
        (alone_lives serving a b k heard taken keeps same was));
    gone = λ none. same ∙ none;
  }

  pub same_share : (a b : Share) → b ≡ a → GoesOn serving k [] [] a b
  same_share a b same = stayed a b (record {
    screen = ap (λ (s : Share). screen_of s) same;
    canvas = ap (λ (s : Share). canvas_of s) same;
    viewer = ap (λ (s : Share). viewer_of s) same;
    made = ap (λ (s : Share). serving_in s) same;
  }) (ap (λ (s : Share). seat_in s k) same)

  pub go_on : (x y x' y' : List ℕ) (a b c : Share) → GoesOn serving k x y a b → GoesOn serving k x' y' b c →
      GoesOn serving k (x ++ x') (y ++ y') a c
  go_on x y x' y' a b c first second = record {
    lives = lives_then (λ share heard taken. LivesAt serving share k heard taken) (λ share. seat_in share k ≡ None)
        x y x' y' a b c first.lives second.lives second.gone;
    gone = λ none. second.gone (first.gone none);
  }

  pub left_by_one : (n : ℕ) (taken : Bool) (a b : Share) → LeavesAs a n taken b → GoesOn serving k [] [] a b
  left_by_one n taken a b leaves = elim (eqb_tells k n) [
    | inl same ↦ let_go [] [] a b (ap (λ (m : ℕ). seat_in b m) same.1 ∙ leaves.gone)
    | inr other ↦ stayed a b leaves.keeps (leaves.others k other.0)
  ]

  -- ---- updates

  served : (screen : Grid Colour) (wants : Bool) (a b : Option ShareSeat) (seat : ShareSeat)
      (heard taken : List ℕ) → Serves screen wants a b → a ≡ Some seat →
      Lives serving screen seat heard taken →
      (new : ShareSeat) × (b ≡ Some new) × Lives serving screen new heard taken
  served screen wants a b seat heard taken (Rested rests same) is lives = (seat, same ∙ is, lives)
  served screen wants a b seat heard taken (Tried told composes) is lives =
      let one = composes_at screen told a b seat composes is in
      (one.0, one.1, composed_seat serving screen told seat one.0 heard taken one.2 lives)
  served screen wants a b seat heard taken (Wanted told wanted) is lives =
      wanted_in serving screen a b seat heard taken wanted is lives

  none_composed : (screen : Grid Colour) (told : Composing) (b : Option ShareSeat) → ComposesIn screen told None b →
      b ≡ None
  none_composed screen told None composes = refl
  none_composed screen NoSuchSeat (Some b) composes = absurd composes
  none_composed screen Composed (Some b) composes = absurd composes
  none_composed screen NotDue (Some b) composes = absurd composes
  none_composed screen Waiting (Some b) composes = absurd composes

  served_none : (screen : Grid Colour) (wants : Bool) (a b : Option ShareSeat) → Serves screen wants a b →
      a ≡ None →
      b ≡ None
  served_none screen wants a b (Rested rests same) none = same ∙ none
  served_none screen wants a b (Tried told composes) none =
      none_composed screen told b (subst (λ (o : Option ShareSeat). ComposesIn screen told o b) none composes)
  served_none screen wants a b (Wanted told wanted) none =
      absurd (subst (λ (o : Option ShareSeat). WantsRoomIn screen o b) none wanted)

  -- a seat that is served, over the same screen
  pub served_on : (wants : Bool) (a b : Share) → KeepsScreen a b →
      Serves (screen_of a) wants (seat_in a k) (seat_in b k) → GoesOn serving k [] [] a b
  served_on wants a b keeps serves = record {
    lives = λ heard taken was.
        let one = served (screen_of a) wants (seat_in a k) (seat_in b k) was.seat heard taken serves was.there
        was.lives in
        inl (as_was a b heard taken (record {
          seat = one.0;
          there = one.1;
          lives = over serving a b one.0 heard taken keeps one.2;
        }));
    gone = λ none. served_none (screen_of a) wants (seat_in a k) (seat_in b k) serves none;
  }

  -- one that is left is served, or kept back
  unless_none : (held wants : Bool) (screen : Grid Colour) (b : Option ShareSeat) →
      ServesUnless held screen wants None b → b ≡ None
  unless_none true wants screen b (inl same) = same
  unless_none true wants screen b (inr given) = none_composed screen Composed b given
  unless_none false wants screen b serves = served_none screen wants None b serves refl

  unless_on : (held wants late done : Bool) (a b : Share) → KeepsScreen a b →
      ServesUnless held (screen_of a) wants (cond late None (cond done None (seat_in a k))) (seat_in b k) →
      GoesOn serving k [] [] a b
  unless_on held wants true done a b keeps serves =
      let_go [] [] a b (unless_none held wants (screen_of a) (seat_in b k) serves)
  unless_on held wants false true a b keeps serves =
      let_go [] [] a b (unless_none held wants (screen_of a) (seat_in b k) serves)
  unless_on true wants false false a b keeps (inl same) = stayed a b keeps same
  unless_on true wants false false a b keeps (inr given) = served_on wants a b keeps (Tried Composed given)
  unless_on false wants false false a b keeps serves = served_on wants a b keeps serves

  -- or it is put off
  pub turned_on : (busy held wants late done : Bool) (a b : Share) → KeepsScreen a b →
      OrPutOff busy
      (ServesUnless held (screen_of a) wants (cond late None (cond done None (seat_in a k))) (seat_in b k))
      (cond late None (cond done None (seat_in a k))) (seat_in b k) →
      GoesOn serving k [] [] a b
  turned_on false held wants late done a b keeps serves = unless_on held wants late done a b keeps serves
  turned_on true held wants true done a b keeps (inl same) = let_go [] [] a b same
  turned_on true held wants false true a b keeps (inl same) = let_go [] [] a b same
  turned_on true held wants false false a b keeps (inl same) = stayed a b keeps same
  turned_on true held wants late done a b keeps (inr serves) = unless_on held wants late done a b keeps serves

  -- ---- bytes of a viewer

  heard_on : (heeds : Bool) (bytes : List ℕ) (told : Heard) (a b : Share) → HearsBy heeds a k bytes told b →
      GoesOn serving k (take told.used bytes) [] a b
  heard_on heeds bytes told a b r = record {
    lives = λ heard taken was.
        let same = one_seat (seat_in a k) was.seat r.was was.there r.was_there in
        inl (rw (append-nil taken) (record {
          seat = r.now;
          there = r.is_there;
          lives = over serving a b r.now (heard ++ take told.used bytes) taken r.keeps
              (lives_heard serving (screen_of a) r.was r.now heard taken (take told.used bytes) r.told r.hears
              (subst (λ (s : ShareSeat). Lives serving (screen_of a) s heard taken) same was.lives));
        }));
    gone = λ none. absurd (none_some (seat_in a k) r.was none r.was_there);
  }

  refused_on : (bytes : List ℕ) (fault : ShareFault) (a b : Share) → RefusesAs a k bytes fault b →
      GoesOn serving k bytes [] a b
  refused_on bytes fault a b refuses = record {
    lives = λ heard taken was. stays heard taken was refuses;
    gone = none_still refuses;
  }
    where
      stays : (heard taken : List ℕ) → LivesAt serving a k heard taken → RefusesAs a k bytes fault b →
          LivesAt serving b k (heard ++ bytes) (taken ++ []) ⊎ (seat_in b k ≡ None)
      stays heard taken was (NoneHeard is none all) =
          inl (rw (append-nil taken) (refused_lives serving a b k bytes fault heard taken
          (λ wants. not_vacant (sym is ∙ wants)) (NoneHeard is none all) was))
      stays heard taken was (SeatEmptied is before there gone keeps others) = inr gone
      stays heard taken was (SeatEnded of is before now there here ends keeps others) =
          inl (rw (append-nil taken) (refused_lives serving a b k bytes fault heard taken
          (λ wants. not_ended of (sym is ∙ wants))
          (SeatEnded of is before now there here ends keeps others) was))

      none_still : RefusesAs a k bytes fault b → seat_in a k ≡ None → seat_in b k ≡ None
      none_still (NoneHeard is none all) was = all.seats k ∙ was
      none_still (SeatEmptied is before there gone keeps others) was = gone
      none_still (SeatEnded of is before now there here ends keeps others) was =
          absurd (none_some (seat_in a k) before was there)

  -- at another seat
  heard_beside : (heeds : Bool) (n : ℕ) (bytes : List ℕ) (told : Heard) (a b : Share) → nat_eq k n ≡ false →
      HearsBy heeds a n bytes told b → GoesOn serving k [] [] a b
  heard_beside heeds n bytes told a b other r = by (has_bit told.ended k) refl
    where
      by : (goes : Bool) → has_bit told.ended k ≡ goes → GoesOn serving k [] [] a b
      by true is = let_go [] [] a b ((r.others k other).0 is)
      by false is = stayed a b r.keeps ((r.others k other).1 is)

  refused_beside : (n : ℕ) (bytes : List ℕ) (fault : ShareFault) (a b : Share) → nat_eq k n ≡ false →
      RefusesAs a n bytes fault b → GoesOn serving k [] [] a b
  refused_beside n bytes fault a b other (NoneHeard is none all) = stayed a b all.screen (all.seats k)
  refused_beside n bytes fault a b other (SeatEmptied is before there gone keeps others) =
      stayed a b keeps (others k other)
  refused_beside n bytes fault a b other (SeatEnded of is before now there here ends keeps others) =
      stayed a b keeps (others k other)

  pub hears_here : (bytes : List ℕ) (used ended : ℕ) (event : Option SeatEvent) (a b : Desk) →
      HearsAt a k bytes used ended event b →
      GoesOn serving k (take used bytes) [] a.share b.share
  hears_here bytes used ended event a b (Took heard is gone event_is hears progress told guests lines rules) =
      subst (λ (n : ℕ). GoesOn serving k (take n bytes) [] a.share b.share) (sym is)
      (heard_on (not a.rules.always_shared) bytes heard a.share b.share hears)
  hears_here bytes used ended event a b (Refused fault is gone none refuses tells progress guests rules) =
      subst (λ (l : List ℕ). GoesOn serving k l [] a.share b.share)
      (sym (ap (λ (n : ℕ). take n bytes) is ∙ take-length bytes))
      (refused_on bytes fault a.share b.share refuses)

  pub hears_beside : (n : ℕ) (bytes : List ℕ) (used ended : ℕ) (event : Option SeatEvent) (a b : Desk) →
      nat_eq k n ≡ false → HearsAt a n bytes used ended event b → GoesOn serving k [] [] a.share b.share
  hears_beside n bytes used ended event a b other (Took heard is gone event_is hears progress told guests lines rules) =
      heard_beside (not a.rules.always_shared) n bytes heard a.share b.share other hears
  hears_beside n bytes used ended event a b other (Refused fault is gone none refuses tells progress guests rules) =
      refused_beside n bytes fault a.share b.share other refuses

  -- ---- connections

  makes_room : (left : Option ℕ) (a b : Desk) → MakesRoom a left b → GoesOn serving k [] [] a.share b.share
  makes_room None a b room = same_share a.share b.share (ap (λ (d : Desk). d.share) (room.none refl))
  makes_room (Some n) a b room =
      let goes = (room.one n refl).2 in
      left_by_one n goes.1.taken a.share b.share goes.1.share

  joined_beside : (n : ℕ) (a b : Share) → nat_eq k n ≡ false → JoinsAs a (Some n) b →
      GoesOn serving k [] [] a b
  joined_beside n a b other (Full all none same) = same_share a b same
  joined_beside n a b other (Joined j is within empty before seat there fresh keeps others) =
      stayed a b keeps (others k (ap (λ (m : ℕ). nat_eq k m) (sym (one is)) ∙ other))
    where
      one : Some n ≡ Some j → n ≡ j
      one same = cc

  pub comes_beside : (from : List ℕ) (n : ℕ) (left : Option ℕ) (a b : Desk) → nat_eq k n ≡ false →
      Admits a from (Some n) left b → GoesOn serving k [] [] a.share b.share
  comes_beside from n left a b other admits =
      go_on [] [] [] [] a.share admits.mid.share b.share (makes_room left a admits.mid admits.room)
      (joined_beside n admits.mid.share b.share other admits.admits.joins)

  pub refuses_all : (from : List ℕ) (left : Option ℕ) (a b : Desk) → Admits a from None left b →
      GoesOn serving k [] [] a.share b.share
  refuses_all from left a b admits =
      go_on [] [] [] [] a.share admits.mid.share b.share (makes_room left a admits.mid admits.room)
      (same_share admits.mid.share b.share admits.admits.share)

  -- ---- what is drawn

  pub drawn_on : (stroke : Stroke) (done : Bool) (a b : Share) → DrawsOne a stroke b done →
      GoesOn serving k [] [] a b
  drawn_on stroke true a b (Drawn draws) = record {
    lives = λ heard taken was.
        inl (as_was a b heard taken (drawn_lives serving a b stroke k heard taken draws was));
    gone = λ none. drawn_none (draws.seats k) none;
  }
    where
      drawn_none : OnSlot (λ x y. IsNotifiedIn (notice_of stroke) x y) (seat_in a k) (seat_in b k) →
          seat_in a k ≡ None → seat_in b k ≡ None
      drawn_none told none = empty_stays _ (seat_in a k) (seat_in b k) told none
  drawn_on stroke false a b (Outside outside same) = same_share a b same

  pub written_on : (count : ℕ) (a b : Share) → WritesAs a k count b →
      GoesOn serving k [] (take count (waits_at a k)) a b
  written_on count a b writes = record {
    lives = λ heard taken was.
        inl (rw (append-nil heard) (written_lives serving a b k count heard taken writes was));
    gone = λ none. empty_stays _ (seat_in a k) (seat_in b k) writes.seat none;
  }
