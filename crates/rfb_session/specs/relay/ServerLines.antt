-- The lines of a relay that report its server.
use Rattle.std.specs.Prelude.{◌≡◌, ℕ, List, [], ◌∷◌, ◌++◌, codes, take}
use Rattle.std.specs.Fmt.{decimal}
use Rattle.hex.specs.Hex.{encode_lower}
use Rattle.rfb_session.specs.declared.relay.gone.Gone.{Gone}
use Rattle.rfb_session.specs.declared.relay.gone.Gone.TheVariants.{Closed, Device, Failed, Size}

-- the server shows its screen, of this size and this name, which is told by hexadecimal digits
abbrev pub up_line : ℕ → ℕ → List ℕ → List ℕ
up_line width height name =
    codes "server up " ++ decimal width ++ codes " " ++ decimal height ++ codes " "
    ++ encode_lower (take 1024 name) ++ 10 ∷ []

-- it rang a bell, RFC 6143 section 7.6.3
abbrev pub bell_line : List ℕ
bell_line = codes "server bell" ++ 10 ∷ []

-- it cut a text, section 7.6.4: of its first 1,024 bytes the hexadecimal digits
abbrev pub server_text_line : List ℕ → List ℕ
server_text_line text = codes "server text " ++ encode_lower (take 1024 text) ++ 10 ∷ []

-- it went away, and how: a fault is named in some words
abbrev pub down_line : List ℕ → List ℕ
down_line why = codes "server down " ++ why ++ 10 ∷ []

-- for a fault, which is named in some words
abbrev pub IsDownFor : List ℕ → Type 0
IsDownFor line = (name : List ℕ) × (line ≡ codes "server down " ++ name ++ 10 ∷ [])

abbrev pub IsDownLine : Gone → List ℕ → Type 0
IsDownLine Closed line = line ≡ down_line (codes "closed")
IsDownLine Device line = line ≡ down_line (codes "failed")
IsDownLine (Failed fault) line = IsDownFor line
IsDownLine (Size width height) line =
    line ≡ down_line (codes "size " ++ decimal width ++ codes " " ++ decimal height)
