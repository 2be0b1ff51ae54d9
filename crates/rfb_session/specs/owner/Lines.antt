-- The lines of a share's owner: what each says, and what is read of a stream of them.
use Rattle.std.specs.Prelude.{◌≡◌, ◌≢◌, ◌+◌, ◌*◌, ◌<◌, ◌≤◌, ◌⊎◌, ℕ, ℤ, pos, neg_ℤ, List, [], ◌∷◌, ◌++◌}
use Rattle.std.specs.Prelude.{All, Option, None, Some, codes, length}
use Rattle.std.specs.Str.Parse.{digits_value}
use Rattle.rfb_picture.specs.declared.rect.Rect.{Rect}
use Rattle.rfb_session.specs.declared.language.drawing.DrawingLine.TheVariants as Drawing
use Rattle.rfb_session.specs.declared.language.screen.Screen.{Screen as Size}
use Rattle.rfb_session.specs.declared.owner.order.OwnerLine.{OwnerLine}
use Rattle.rfb_session.specs.declared.owner.order.OwnerLine.TheVariants.{Screen, Fill, Copy, Hint}
use Rattle.rfb_session.specs.declared.owner.order.OwnerLine.TheVariants.{Scroll, Pixels, End, Hold, Show, Quit}
use Rattle.rfb_session.specs.declared.owner.order.Order.{Order}
use Rattle.rfb_session.specs.declared.owner.order.Refusal.{Refusal}
use Rattle.rfb_session.specs.declared.owner.order.Refusal.TheVariants.{Bad, NoMemory}
use Rattle.rfb_session.specs.language.Words.{IsSlotAlone, Begins, words_of, AreRect, AreSize}
use Rattle.rfb_session.specs.language.Lines.{SaysDrawing}
use Rattle.rfb_session.specs.language.Number.{IsNumber}

-- ---- words

-- a word is a number up to 32,767
abbrev pub IsStep : List ℕ → ℕ → Type 0
IsStep word n = IsNumber word × (n ≡ digits_value 10 word) × (n ≤ 32767)

-- a word is such a number, with a minus before it or without
abbrev pub IsShift : List ℕ → ℤ → Type 0
IsShift word by =
    ((n : ℕ) × IsStep word n × (by ≡ pos n))
    ⊎ ((digits : List ℕ) × (n : ℕ) × (word ≡ 45 ∷ digits) × IsStep digits n × (by ≡ neg_ℤ (pos n)))

-- words are a rectangle
abbrev pub ArePlaces : List (List ℕ) → Rect → Type 0
ArePlaces words rect =
    (x y w h : List ℕ) × (words ≡ x ∷ y ∷ w ∷ h ∷ []) × AreRect x y w h rect

-- words are a rectangle, and how far what lies there moves to the right and down
abbrev pub AreScroll : List (List ℕ) → Rect → ℤ → ℤ → Type 0
AreScroll words rect dx dy =
    (x y w h u v : List ℕ) × (words ≡ x ∷ y ∷ w ∷ h ∷ u ∷ v ∷ []) × AreRect x y w h rect
    × IsShift u dx × IsShift v dy

-- ---- lines

-- what the words of a line say; of drawings and hints the same as in scripts
abbrev pub SaysOwner : List (List ℕ) → OwnerLine → Type 0
SaysOwner words (Screen size) = Begins (codes "screen") words (λ rest. AreSize rest size)
SaysOwner words (Fill rect colour) = SaysDrawing words (Drawing.Fill rect colour)
SaysOwner words (Copy rect sx sy) = SaysDrawing words (Drawing.Copy rect sx sy)
SaysOwner words (Hint rect sx sy) = SaysDrawing words (Drawing.Hint rect sx sy)
SaysOwner words (Scroll rect dx dy) =
    Begins (codes "scroll") words (λ rest. AreScroll rest rect dx dy)
SaysOwner words (Pixels rect) = Begins (codes "pixels") words (λ rest. ArePlaces rest rect)
SaysOwner words (End seat) = Begins (codes "end") words (λ rest. IsSlotAlone rest seat)
SaysOwner words Hold = words ≡ codes "hold" ∷ []
SaysOwner words Show = words ≡ codes "show" ∷ []
SaysOwner words Quit = words ≡ codes "quit" ∷ []

-- they say nothing
abbrev pub SaysNoOwner : List (List ℕ) → Type 0
SaysNoOwner words = (line : OwnerLine) → SaysOwner words line → ⊥

-- there is no newline in it
abbrev pub IsOneLine : List ℕ → Type 0
IsOneLine text = All (λ byte. byte ≢ 10) text

-- a line of at most 96 bytes; the longest that says something has fewer
abbrev pub IsShort : List ℕ → Type 0
IsShort line = IsOneLine line × (length line ≤ 96)

-- a rectangle lies on a screen of this size
abbrev pub LiesOn : Size → Rect → Type 0
LiesOn size rect = (rect.x + rect.w ≤ size.width) × (rect.y + rect.h ≤ size.height)

-- it lies on the screen, whose size is known
abbrev pub LiesOnKnown : Option Size → Rect → Type 0
LiesOnKnown known rect = (size : Size) × (known ≡ Some size) × LiesOn size rect

-- a line before the screen is known says its size, and one after it something else
abbrev pub IsInPlace : Option Size → OwnerLine → Type 0
IsInPlace None line = (size : Size) × (line ≡ Screen size)
IsInPlace (Some known) line = (size : Size) → line ≢ Screen size

-- ---- pixels: a line that says where, three bytes for each place, and a newline

-- how many bytes these are
abbrev pub data_length : Rect → ℕ
data_length rect = 3 * rect.w * rect.h

-- a text begins with such a line, and has these bytes after it
pub record AreAfterPixels (rect : Rect) (text bytes : List ℕ) : Type 0 where
  pub head : List ℕ
  pub whole : text ≡ head ++ 10 ∷ bytes
  pub is_short : IsShort head
  pub says : SaysOwner (words_of head) (Pixels rect)

-- ---- orders

-- why the pixels of a rectangle are refused, if they have as many bytes as are due: it leaves the screen, or no screen
-- is known, or memory for them is wanting
abbrev pub RefusesPixels : Option Size → Rect → Refusal → Type 0
RefusesPixels known rect Bad = ¬ (LiesOnKnown known rect)
RefusesPixels known rect NoMemory = LiesOnKnown known rect

-- what is read is spoilt, and stays so up to the next newline: too long a line, or pixels with
-- anything after their bytes but a newline
abbrev pub IsSpoilt : List ℕ → Type 0
IsSpoilt text =
    (IsOneLine text × (96 < length text))
    ⊎ ((rect : Rect) × (bytes : List ℕ) × (rest : List ℕ)
    × AreAfterPixels rect text (bytes ++ rest) × (length bytes ≡ data_length rect)
    × (rest ≢ []) × IsOneLine rest)

-- what is read is refused for this, once its newline comes: it is spoilt; a line that says nothing or is in the wrong
-- place; or pixels that are refused
pub data IsRefused (known : Option Size) (text : List ℕ) : Refusal → Type 0 where
  spoilt : IsSpoilt text → IsRefused known text Bad
  senseless : IsShort text → text ≢ [] → SaysNoOwner (words_of text) → IsRefused known text Bad
  misplaced : (line : OwnerLine) → IsShort text → SaysOwner (words_of text) line →
      ((rect : Rect) → line ≢ Pixels rect) → ¬ (IsInPlace known line) → IsRefused known text Bad
  pixels : (rect : Rect) (bytes : List ℕ) (why : Refusal) → AreAfterPixels rect text bytes →
      length bytes ≡ data_length rect → RefusesPixels known rect why → IsRefused known text why

-- what a text gives, without the newline at its end
abbrev pub Orders : Option Size → List ℕ → Order → Type 0
Orders known text Order.Nothing = text ≡ []
Orders known text (Order.Line line) =
    IsShort text × SaysOwner (words_of text) line × ((rect : Rect) → line ≢ Pixels rect)
    × IsInPlace known line
Orders known text (Order.Pixels rect bytes) =
    AreAfterPixels rect text bytes.items × (length bytes.items ≡ data_length rect)
    × LiesOnKnown known rect
Orders known text (Order.Refused why) = IsRefused known text why
