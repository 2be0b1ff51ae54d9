-- What the seats of a share are told of a viewer's picture.
use Rattle.std.proofs.Common.{◌≡◌, ◌<◌, ◌+◌, ◌*◌, ◌&&◌, nat_lt, ℕ}
use Rattle.std.proofs.Common.{Bool, true, false, List, [], ◌∷◌, ◌++◌}
use Rattle.std.proofs.Common.{if◌then◌else◌, Option, Some, None, inl, inr, refl, sym, ap, subst}
use Rattle.std.proofs.Common.{◌∙◌, arith}
use Rattle.std.proofs.lemmas.Bool.Decides.{nat_tests}
use Rattle.std.proofs.lemmas.List.{get_or_default}
use Rattle.rfb_pixel.specs.declared.colour.Colour.{Colour}
use Rattle.rfb_picture.specs.declared.rect.Rect.{Rect}
use Rattle.rfb_picture.specs.Rect.{rect, contains}
use Rattle.rfb_picture.specs.Grid.{Grid, IsGrid, at_or}
use Rattle.rfb_picture.proofs.GridLaws.{same_grid, place_below}
use Rattle.rfb_codec.specs.Effect.{IsAlike}
use Rattle.rfb_server.specs.declared.drawing.notice.Notice.{Notice}
use Rattle.rfb_server.specs.declared.hint.Hint.{Hint}
use Rattle.rfb_server.specs.Strokes.{Hint as Hinted, notice_of, hint_told}
use Rattle.rfb_server.specs.KnownScreen.{Follows, IsTold}
use Rattle.rfb_server.specs.KnownScreen.{IsSameOutside as IsOutside}
use Rattle.rfb_server.specs.Hints.{hints_in}
use Rattle.rfb_server.specs.Server.{black}
use Rattle.rfb_server.proofs.DrawingLaws.{follows_stroke}
use Rattle.rfb_viewer.specs.declared.viewer.moved.Move.{Move}
use Rattle.rfb_viewer.specs.Damage.{IsSameOutside}
use Rattle.rfb_session.specs.declared.share.seat.ShareSeat.{ShareSeat}
use Rattle.rfb_session.specs.ShareMoves.{IsOnScreen, GetsCopies, GetsMoves, GetsChange}
use Rattle.rfb_session.specs.ShareMoves.{IsRelayed, GetsWhole}
use Rattle.rfb_session.specs.ShareSeats.{session_at, KeepsShareSeat, IsNotifiedIn}

-- ---- a seat that keeps what it has

pub keeps_itself : (seat : ShareSeat) → KeepsShareSeat seat seat
keeps_itself seat = record {
  waits = refl;
  update = refl;
  memory = refl;
  session = record {
    fault_is = refl;
    made_is = refl;
    notes_are = refl;
    stands = λ serving screen s prefix stands. stands;
  };
}

pub keeps_on : (a b c : ShareSeat) → KeepsShareSeat a b → KeepsShareSeat b c → KeepsShareSeat a c
keeps_on a b c one two = record {
  waits = two.waits ∙ one.waits;
  update = two.update ∙ one.update;
  memory = two.memory ∙ one.memory;
  session = record {
    fault_is = two.session.fault_is ∙ one.session.fault_is;
    made_is = two.session.made_is ∙ one.session.made_is;
    notes_are = two.session.notes_are ∙ one.session.notes_are;
    stands = λ serving screen s prefix stands.
        two.session.stands serving screen s prefix (one.session.stands serving screen s prefix stands);
  };
}

-- ---- copies one after another

pub copies_more : (screen : Grid Colour) (moves : List Move) (more : List Move) (a b c : List Hint) →
    GetsCopies screen moves a b → GetsCopies screen more b c → GetsCopies screen (moves ++ more) a c
copies_more screen [] more a b c same rest = subst (λ (h : List Hint). GetsCopies screen more h c) same rest
copies_more screen (move ∷ moves) more a b c one rest =
    (one.0, one.1, copies_more screen moves more one.0 b c one.2 rest)

pub moves_none : (screen : Grid Colour) (seat : ShareSeat) → GetsMoves screen [] seat seat
moves_none screen seat = record {
  keeps = keeps_itself seat;
  hints = refl;
  follows = λ shown follows. follows;
}

pub moves_then : (screen : Grid Colour) (moves more : List Move) (a b c : ShareSeat) →
    GetsMoves screen moves a b → GetsMoves screen more b c → GetsMoves screen (moves ++ more) a c
moves_then screen moves more a b c one two = record {
  keeps = keeps_on a b c one.keeps two.keeps;
  hints = copies_more screen moves more (hints_in (session_at a)) (hints_in (session_at b)) (hints_in (session_at c))
      one.hints two.hints;
  follows = λ shown follows. two.follows shown (one.follows shown follows);
}

-- one that leaves the screen is not told
pub move_left : (screen : Grid Colour) (move : Move) (seat : ShareSeat) → (IsOnScreen screen move → ⊥) →
    GetsMoves screen (move ∷ []) seat seat
move_left screen move seat outside = record {
  keeps = keeps_itself seat;
  hints = (hints_in (session_at seat), inr (outside, refl), refl);
  follows = λ shown follows. follows;
}

-- any other is
pub move_told : (screen : Grid Colour) (move : Move) (notice : Notice) (a b : ShareSeat) →
    IsOnScreen screen move → notice ≡ notice_of (Hinted move.to move.sx move.sy) → IsNotifiedIn notice a b →
    GetsMoves screen (move ∷ []) a b
move_told screen move notice a b inside is told =
    let one = subst (λ (n : Notice). IsNotifiedIn n a b) is told in
    record {
      keeps = one.keeps;
      hints = (hints_in (session_at b), inl (inside, one.hints), refl);
      follows = λ shown follows.
          follows_stroke (Hinted move.to move.sx move.sy) (session_at a) (session_at b) shown follows one.follows;
    }

-- ---- a change

-- what is said of two pictures is said of their colours
same_colour : (before after : Grid Colour) (x y : ℕ) → IsAlike after before → x < before.width →
    y < before.height →
    (if nat_lt x after.width && nat_lt y after.height then Some (at_or after x y black) else None)
    ≡ (if nat_lt x before.width && nat_lt y before.height then Some (at_or before x y black) else None) →
    at_or after x y black ≡ at_or before x y black
same_colour before after x y alike wide high e =
    let within : nat_lt x before.width ≡ true = grind (arith, nat_tests) in
    let above : nat_lt y before.height ≡ true = grind (arith, nat_tests) in
    let inside : nat_lt x after.width ≡ true = ap (λ (n : ℕ). nat_lt x n) alike.columns ∙ within in
    let over : nat_lt y after.height ≡ true = ap (λ (n : ℕ). nat_lt y n) alike.rows ∙ above in
    let same : Some (at_or after x y black) ≡ Some (at_or before x y black) =
    rw (inside, over, within, above) at e in
    cc

pub outside_told : (area : Rect) (before after : Grid Colour) → IsAlike after before →
    IsSameOutside (Some area) (Some before) (Some after) → IsOutside area before after
outside_told area before after alike outside = record {
  columns = alike.columns;
  rows = alike.rows;
  same = λ x y wide high out. same_colour before after x y alike wide high (outside x y out);
}

no_place : (w h x y : ℕ) → x < w → y < h → contains (rect 0 0 w h) x y ≡ false → ⊥
no_place w h x y wide high out =
    let in_it : contains (rect 0 0 w h) x y ≡ true = grind (arith, nat_tests) in
    absurd (let e = sym in_it ∙ out in cc)

pub whole_outside : (before after : Grid Colour) → IsAlike after before →
    IsOutside (rect 0 0 after.width after.height) before after
whole_outside before after alike = record {
  columns = alike.columns;
  rows = alike.rows;
  same = λ x y wide high out.
      absurd (no_place after.width after.height x y (rw alike.columns wide) (rw alike.rows high) out);
}

-- where nothing is damaged the picture is the same
at_black : (g : Grid Colour) (x y : ℕ) (d : Colour) → IsGrid g → x < g.width → y < g.height →
    at_or g x y d ≡ at_or g x y black
at_black g x y d whole wide high =
    let below = place_below g.width g.height x y wide high in
    get_or_default g.places (y * g.width + x) d black (rw whole below)

pub none_same : (before after : Grid Colour) → IsGrid before → IsGrid after → IsAlike after before →
    IsSameOutside None (Some before) (Some after) → after ≡ before
none_same before after was is alike outside =
    same_grid after before is was alike.columns alike.rows (λ x y d wide high.
    let x_in : x < before.width = rw (sym alike.columns) wide in
    let y_in : y < before.height = rw (sym alike.rows) high in
    at_black after x y d is wide high
    ∙ same_colour before after x y alike x_in y_in (outside x y refl)
    ∙ sym (at_black before x y d was x_in y_in))

-- ---- what a seat is told of a change

-- nothing changed
pub change_none : (screen : Grid Colour) (seat : ShareSeat) → IsGrid screen → GetsChange screen None seat seat
change_none screen seat whole = record {
  keeps = keeps_itself seat;
  hints = refl;
  follows = λ before alike outside follows.
      subst (λ (g : Grid Colour). Follows g (session_at seat))
      (sym (none_same before screen follows.whole whole alike outside)) follows;
}

pub change_some : (screen : Grid Colour) (area : Rect) (notice : Notice) (a b : ShareSeat) →
    hint_told notice ≡ None →
    ((before : Grid Colour) → IsAlike screen before → IsSameOutside (Some area) (Some before) (Some screen) →
    IsTold notice before screen) →
    IsNotifiedIn notice a b → GetsChange screen (Some area) a b
change_some screen area notice a b none told one = record {
  keeps = one.keeps;
  hints = one.hints ∙ rw none refl;
  follows = λ before alike outside follows. one.follows before screen follows (told before alike outside);
}

-- all changed
no_places : (w h x y : ℕ) → contains (rect 0 0 w h) x y ≡ false → (nat_lt x w && nat_lt y h) ≡ false
no_places w h x y out = by (nat_lt x w) (nat_lt y h) refl refl
  where
    by : (a b : Bool) → nat_lt x w ≡ a → nat_lt y h ≡ b → (nat_lt x w && nat_lt y h) ≡ false
    by true true a b = grind (arith, nat_tests)
    by true false a b = rw (a, b) refl
    by false c a b = rw a refl

whole_same : (before screen : Grid Colour) → IsAlike screen before →
    IsSameOutside (Some (rect 0 0 screen.width screen.height)) (Some before) (Some screen)
whole_same before screen alike x y out =
    let none : (nat_lt x screen.width && nat_lt y screen.height) ≡ false =
    no_places screen.width screen.height x y out in
    let still : (nat_lt x before.width && nat_lt y before.height) ≡ false =
    subst (λ (w : ℕ). (nat_lt x w && nat_lt y before.height) ≡ false) alike.columns
    (subst (λ (h : ℕ). (nat_lt x screen.width && nat_lt y h) ≡ false) alike.rows none) in
    rw (none, still) refl

pub whole_told : (screen : Grid Colour) (whole : Rect) (a b : ShareSeat) →
    whole ≡ rect 0 0 screen.width screen.height → IsRelayed screen (Some whole) [] a b → GetsWhole screen a b
whole_told screen whole a b is one = record {
  keeps = one.keeps;
  hints = one.hints;
  follows = λ before alike follows. one.follows before alike
      (subst (λ (r : Rect). IsSameOutside (Some r) (Some before) (Some screen)) (sym is)
      (whole_same before screen alike))
      follows;
}

-- of a change and then of copies
pub relayed : (screen : Grid Colour) (damage : Option Rect) (moves : List Move) (a b c : ShareSeat) →
    GetsChange screen damage a b → GetsMoves screen moves b c → IsRelayed screen damage moves a c
relayed screen damage moves a b c one two = record {
  keeps = keeps_on a b c one.keeps two.keeps;
  hints = subst (λ (h : List Hint). GetsCopies screen moves h (hints_in (session_at c))) one.hints two.hints;
  follows = λ before alike outside follows. two.follows screen (one.follows before alike outside follows);
}
