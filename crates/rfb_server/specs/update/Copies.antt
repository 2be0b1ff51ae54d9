-- Rectangles that are copied, one after another, at the front of an update.
use Rattle.std.specs.Prelude.{◌≡◌, ◌≢◌, ℕ, ◌+◌, ◌-◌, ◌<◌, Bool, true, false, not, List, [], ◌++◌, length, take, map}
use Rattle.std.specs.Prelude.{slice_get, Option, Some, None, if◌then◌else◌}
use Rattle.rfb_pixel.specs.declared.colour.Colour.{Colour}
use Rattle.rfb_pixel.specs.Format.{PixelFormat}
use Rattle.rfb_picture.specs.declared.rect.Rect.{Rect}
use Rattle.rfb_picture.specs.Rect.{contains}
use Rattle.rfb_picture.specs.Grid.{Grid, IsGrid, Holds, at_or, copied}
use Rattle.rfb_picture.specs.Box.{is_in}
use Rattle.rfb_picture.specs.Area.{asked_at, whole_at}
use Rattle.rfb_wire.specs.declared.encoding.Encoding.TheVariants.{CopyRect}
use Rattle.rfb_wire.specs.RectHead.{SpellsRectHead}
use Rattle.rfb_codec.specs.RectData.{SpellsSource}
use Rattle.rfb_codec.specs.Effect.{effects, IsAlike, Agrees}
use Rattle.rfb_codec.specs.WholeUpdate.{item_of, SpellsRectangles}
use Rattle.rfb_server.specs.Encodings.{is_listed}
use Rattle.rfb_server.specs.declared.hint.Hint.{Hint}
use Rattle.rfb_server.specs.declared.session.Session.{Session}
use Rattle.rfb_server.specs.Server.{ServerState}
use Rattle.rfb_server.specs.Request.{wanted_at, recorded, is_asked, is_whole, differs}
use Rattle.rfb_server.specs.UsedHints.{move_of, AreUsed}
use Rattle.rfb_server.specs.Composition.{Part, Move, sent_as, between, all_moved, IsGain, AllGain, AreCopies}
use Rattle.rfb_server.specs.Composition.{HaveTheirData, IsPlace, is_in_some}
use Rattle.rfb_server.specs.update.Sends.{state_of}

-- whether a place of a rectangle has the wanted pixel, if it takes over what is known of its place
-- of the rectangle at (sx, sy)
abbrev pub is_right_from : Grid Colour → Grid (Option ℕ) → PixelFormat → Rect → ℕ → ℕ → ℕ → ℕ → Bool
is_right_from screen known form to sx sy x y =
    not (differs (wanted_at screen form x y) (at_or known (sx + (x - to.x)) (sy + (y - to.y)) None))

-- the bytes are these copies, which gain places and leave that known
pub record Copies (s : ServerState) (moves : List Move) (copies : List Part)
    (known : Grid (Option ℕ)) (bytes : List ℕ) : Type 0 where
  pub moved_is : all_moved moves s ≡ record s { known = known }
  pub whole : IsGrid known
  pub alike : IsAlike s.known known
  pub spelled : SpellsRectangles (between s) (map sent_as copies) bytes
  pub data_are : HaveTheirData s copies
  pub agrees : (picture : Grid Colour) → IsGrid picture → IsAlike picture s.known →
      Agrees s.form picture s.known →
      Agrees s.form (effects (between s) (map item_of (map sent_as copies)) picture) known
  pub copies_are : AreCopies moves copies
  pub copies_listed : moves ≢ [] → is_listed CopyRect s.encodings ≡ true
  pub gains : AllGain s moves
  pub free : (x y : ℕ) → IsPlace s x y → is_in_some copies x y ≡ true →
      (is_asked s x y ≡ true) × (is_whole s x y ≡ false)
  pub others : (x y : ℕ) → IsPlace s x y → is_in_some copies x y ≡ false →
      at_or known x y None ≡ recorded s x y

-- ---- a session's hints

-- each place of the rectangle is asked and not whole, and is marked
pub record IsFree (session : Session) (to : Rect) : Type 0 where
  pub asked : (x y : ℕ) → contains to x y ≡ true → asked_at session.area x y ≡ true
  pub not_whole : (x y : ℕ) → contains to x y ≡ true → whole_at session.area x y ≡ false
  pub marked : (x y : ℕ) → contains to x y ≡ true → is_in session.marks x y ≡ true

-- the copy gains places, and is of free ones
pub record IsUseful (screen : Grid Colour) (session : Session) (hint : Hint) : Type 0 where
  pub gain : IsGain (state_of screen session) (move_of hint)
  pub free : IsFree session hint.to

-- the bytes are a rectangle that is copied
pub record IsCopied (rect : Rect) (sx sy : ℕ) (bytes : List ℕ) : Type 0 where
  pub head : List ℕ
  pub body : List ℕ
  pub whole : bytes ≡ head ++ body
  pub head_is : SpellsRectHead (record { rect = rect; encoding = CopyRect }) head
  pub body_is : SpellsSource sx sy body

-- such bytes are appended
pub record AppendsCopy (rect : Rect) (sx sy : ℕ) (old new : List ℕ) : Type 0 where
  pub bytes : List ℕ
  pub appended : new ≡ old ++ bytes
  pub copied : IsCopied rect sx sy bytes

-- the bytes of the hint's copy were appended, or it is of no use, and nothing has changed
abbrev pub SendsHint : Bool → Grid Colour → Hint → Session → Session → List ℕ → List ℕ → Type 0
SendsHint true screen hint old new before after =
    IsUseful screen old hint × AppendsCopy hint.to hint.sx hint.sy before after ×
    (new.known ≡ copied hint.to hint.sx hint.sy old.known)
SendsHint false screen hint old new before after =
    (IsUseful screen old hint → ⊥) × (new.known ≡ old.known) × (after ≡ before)

-- the viewer has what the hint's copy brings, or it is of no use, and what is known is as it was
abbrev pub FollowsHint : Bool → Grid Colour → Hint → Session → Session → Type 0
FollowsHint true screen hint old new =
    IsUseful screen old hint × (new.known ≡ copied hint.to hint.sx hint.sy old.known)
FollowsHint false screen hint old new = (IsUseful screen old hint → ⊥) × (new.known ≡ old.known)

-- what was marked still is
abbrev pub KeepsMarks : Session → Session → Type 0
KeepsMarks old new = (x y : ℕ) → x < old.marks.width → y < old.marks.height →
    is_in old.marks x y ≡ true → is_in new.marks x y ≡ true

-- where the hint copies to is marked, if that is on the screen
abbrev pub IsMarkedFor : Grid Colour → Session → Hint → Type 0
IsMarkedFor screen session hint = Holds screen hint.to →
    (x y : ℕ) → contains hint.to x y ≡ true → is_in session.marks x y ≡ true

-- so it is for each of the first `n` hints
abbrev pub AreMarkedFor : Grid Colour → Session → ℕ → Type 0
AreMarkedFor screen session n = (index : ℕ) (hint : Hint) → index < n →
    slice_get session.hints.items index ≡ Some hint → IsMarkedFor screen session hint

-- the bytes of `count` copies were appended, by the first `n` hints
pub record AppendsCopies (screen : Grid Colour) (n : ℕ) (old new : Session)
    (before after : List ℕ) (count : ℕ) : Type 0 where
  pub moves : List Move
  pub copies : List Part
  pub bytes : List ℕ
  pub appended : after ≡ before ++ bytes
  pub count_is : count ≡ length copies
  pub taken : Copies (state_of screen old) moves copies new.known bytes
  pub used : AreUsed (state_of screen old) (take n old.hints.items) moves

-- how many hints a session may use: all that it keeps, where the viewer listed CopyRect
abbrev pub usable_hints : Session → ℕ
usable_hints session =
    if is_listed CopyRect session.encodings then length session.hints.items else 0
