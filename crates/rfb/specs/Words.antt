-- What the words of a script's line mean, beside those that owners of shares say.
use Rattle.std.specs.Prelude.{◌≡◌, ℕ, Bool, true, false, List, [], ◌∷◌, codes}
use Rattle.std.specs.Str.Parse.{digits_value}
use Rattle.rfb_picture.specs.declared.rect.Rect.{Rect}
use Rattle.rfb_pixel.specs.Format.{PixelFormat}
use Rattle.rfb.specs.declared.script.line.Wants.{Wants}
use Rattle.rfb_session.specs.language.Number.{IsCount}
use Rattle.rfb_session.specs.language.Words.{AreEncodings, AreRect, IsFormatWord}

-- a request for what has changed is incremental, one for all is full
abbrev pub kind_of : Bool → List ℕ
kind_of true = codes "inc"
kind_of false = codes "full"

-- what the viewer wants
abbrev pub AreWants : List (List ℕ) → Wants → Type 0
AreWants words wants =
    (f : List ℕ) × (names : List (List ℕ)) × (words ≡ f ∷ names) × IsFormatWord f wants.format
    × AreEncodings names wants.encodings.items

-- the kind of a request, and its area
abbrev pub AreRequest : List (List ℕ) → Bool → Rect → Type 0
AreRequest words incremental rect =
    (x y w h : List ℕ) × (words ≡ kind_of incremental ∷ x ∷ y ∷ w ∷ h ∷ [])
    × AreRect x y w h rect

-- one number of bytes
abbrev pub IsCountAlone : List (List ℕ) → ℕ → Type 0
IsCountAlone words n =
    (c : List ℕ) × (words ≡ c ∷ []) × IsCount c × (n ≡ digits_value 10 c)

-- one format
abbrev pub IsFormatAlone : List (List ℕ) → PixelFormat → Type 0
IsFormatAlone words format = (f : List ℕ) × (words ≡ f ∷ []) × IsFormatWord f format
