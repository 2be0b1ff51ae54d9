-- What the words of a line mean, in scripts and in what owners of shares say.
use Rattle.std.specs.Prelude.{◌≡◌, ◌==◌, ◌+◌, ◌*◌, ◌≤◌, ◌⊎◌, ℕ, List, [], ◌∷◌, Ok, codes, length, map}
use Rattle.std.specs.Borrow.{Bor}
use Rattle.std.specs.List.{AllPass, slice_split}
use Rattle.std.specs.Str.Parse.{digits_value}
use Rattle.hex.specs.Hex.{decode_of, is_hex_digit}
use Rattle.rfb_picture.specs.declared.rect.Rect.{Rect}
use Rattle.rfb_pixel.specs.declared.colour.Colour.{Colour}
use Rattle.rfb_pixel.specs.Format.{PixelFormat, colour_of_bytes, rgb888, rgb565, bgr233, rgb101010}
use Rattle.rfb_wire.specs.declared.encoding.Encoding.{Encoding}
use Rattle.rfb_wire.specs.declared.encoding.Encoding.TheVariants.{Raw, CopyRect, Rre, Hextile}
use Rattle.rfb_session.specs.declared.language.screen.Screen.{Screen as Size}
use Rattle.rfb_session.specs.language.Number.{IsNumber}

-- the words after references to them
abbrev pub texts : List (Bor (List ℕ)) → List (List ℕ)
texts words = map (λ word. word.now) words

-- the words of a line, parted by spaces; two spaces in a row have an empty word between them
abbrev pub words_of : List ℕ → List (List ℕ)
words_of line = slice_split (λ byte. byte == 32) line

-- the parts of a list, parted by commas; two commas in a row have an empty part between them
abbrev pub parts_of : List ℕ → List (List ℕ)
parts_of list = slice_split (λ byte. byte == 44) list

-- the words are that one, and others after it for which this holds
abbrev pub Begins : List ℕ → List (List ℕ) → (List (List ℕ) → Type 0) → Type 0
Begins keyword words Holds = (rest : List (List ℕ)) × (words ≡ keyword ∷ rest) × Holds rest

-- ---- one word

-- the word is the number of a side of the screen
abbrev pub IsSide : List ℕ → Type 0
IsSide word = IsNumber word × (1 ≤ digits_value 10 word) × (digits_value 10 word ≤ 4096)

-- it is this number
abbrev pub IsNumberOf : List ℕ → ℕ → Type 0
IsNumberOf word n = IsNumber word × (n ≡ digits_value 10 word)

-- a word has six hexadecimal digits, or twelve
abbrev pub IsColourText : List ℕ → Type 0
IsColourText word =
    ((length word ≡ 6) × AllPass is_hex_digit word)
    ⊎ ((length word ≡ 12) × AllPass is_hex_digit word)

-- its digits are those of three bytes, of red, green and blue; a component is 257 times its byte
abbrev pub SaysBytes : List ℕ → Colour → Type 0
SaysBytes word colour =
    (r g b : ℕ) × (decode_of word ≡ Ok (r ∷ g ∷ b ∷ [])) × (colour ≡ colour_of_bytes r g b)

-- they are those of six bytes: of red, green and blue the high byte, and then the low one
abbrev pub SaysComponents : List ℕ → Colour → Type 0
SaysComponents word colour =
    (r low_r g low_g b low_b : ℕ)
    × (decode_of word ≡ Ok (r ∷ low_r ∷ g ∷ low_g ∷ b ∷ low_b ∷ []))
    × (colour.r ≡ r * 256 + low_r) × (colour.g ≡ g * 256 + low_g) × (colour.b ≡ b * 256 + low_b)

-- six digits say bytes, and twelve components
abbrev pub SaysColour : List ℕ → Colour → Type 0
SaysColour word colour =
    ((length word ≡ 6) × SaysBytes word colour) ⊎ ((length word ≡ 12) × SaysComponents word colour)

-- a word is a colour
abbrev pub IsColourWord : List ℕ → Colour → Type 0
IsColourWord word colour = IsColourText word × SaysColour word colour

-- a word is one digit, and that is the slot
abbrev pub IsSlotWord : List ℕ → ℕ → Type 0
IsSlotWord word slot = (word ≡ (48 + slot) ∷ []) × (slot ≤ 9)

-- a word is the name of a format
abbrev pub IsFormatWord : List ℕ → PixelFormat → Type 0
IsFormatWord word format =
    ((word ≡ codes "rgb888") × (format ≡ rgb888))
    ⊎ ((word ≡ codes "rgb565") × (format ≡ rgb565))
    ⊎ ((word ≡ codes "bgr233") × (format ≡ bgr233))
    ⊎ ((word ≡ codes "rgb101010") × (format ≡ rgb101010))

-- the name of an encoding
abbrev pub name_of : Encoding → List ℕ
name_of Raw = codes "raw"
name_of CopyRect = codes "copyrect"
name_of Rre = codes "rre"
name_of Hextile = codes "hextile"

-- ---- more than one

-- four words are numbers
abbrev pub AreNumbers : List ℕ → List ℕ → List ℕ → List ℕ → Type 0
AreNumbers x y w h = IsNumber x × IsNumber y × IsNumber w × IsNumber h

-- four words are a rectangle
pub record AreRect (x y w h : List ℕ) (rect : Rect) : Type 0 where
  pub numbers : AreNumbers x y w h
  pub x_is : rect.x ≡ digits_value 10 x
  pub y_is : rect.y ≡ digits_value 10 y
  pub w_is : rect.w ≡ digits_value 10 w
  pub h_is : rect.h ≡ digits_value 10 h

-- words are one to four encodings, each by its name
abbrev pub AreEncodings : List (List ℕ) → List Encoding → Type 0
AreEncodings words encodings =
    (words ≡ map name_of encodings) × (1 ≤ length words) × (length words ≤ 4)

-- ---- the words after the first of a line

-- the size of a screen
abbrev pub AreSize : List (List ℕ) → Size → Type 0
AreSize words size =
    (w h : List ℕ) × (words ≡ w ∷ h ∷ []) × (IsSide w × IsSide h)
    × (size.width ≡ digits_value 10 w) × (size.height ≡ digits_value 10 h)

-- a rectangle and a colour
abbrev pub AreFill : List (List ℕ) → Rect → Colour → Type 0
AreFill words rect colour =
    (x y w h c : List ℕ) × (words ≡ x ∷ y ∷ w ∷ h ∷ c ∷ []) × AreRect x y w h rect
    × IsColourWord c colour

-- a rectangle, and the column and the row of another
abbrev pub AreMove : List (List ℕ) → Rect → ℕ → ℕ → Type 0
AreMove words rect sx sy =
    (x y w h u v : List ℕ) × (words ≡ x ∷ y ∷ w ∷ h ∷ u ∷ v ∷ []) × AreRect x y w h rect
    × IsNumberOf u sx × IsNumberOf v sy

-- words are a slot, and nothing after it
abbrev pub IsSlotAlone : List (List ℕ) → ℕ → Type 0
IsSlotAlone words slot = (s : List ℕ) × (words ≡ s ∷ []) × IsSlotWord s slot
