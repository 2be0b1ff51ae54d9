-- The lines that report to a rig what happens.
use Rattle.std.specs.Prelude.{ℕ, List, [], ◌∷◌, ◌++◌, codes, take}
use Rattle.std.specs.Fmt.{decimal}
use Rattle.hex.specs.Hex.{encode_lower}
use Rattle.rfb_picture.specs.declared.rect.Rect.{Rect}

-- the first picture is shown: the size of the screen, and of the server's name the hexadecimal digits
abbrev pub ready_line : ℕ → ℕ → List ℕ → List ℕ
ready_line width height name =
    codes "ready " ++ decimal width ++ codes " " ++ decimal height ++ codes " "
    ++ encode_lower (take 1024 name) ++ 10 ∷ []

-- the line of this number is done
abbrev pub done_line : ℕ → List ℕ
done_line number = codes "done " ++ decimal number ++ 10 ∷ []

-- an update changed this rectangle
abbrev pub changed_line : Rect → List ℕ
changed_line rect =
    codes "changed " ++ decimal rect.x ++ codes " " ++ decimal rect.y ++ codes " " ++ decimal rect.w
    ++ codes " " ++ decimal rect.h ++ 10 ∷ []

-- the server rang a bell, RFC 6143 section 7.6.3
abbrev pub drive_bell_line : List ℕ
drive_bell_line = codes "bell" ++ 10 ∷ []

-- it cut a text, section 7.6.4: of its first 1,024 bytes the hexadecimal digits
abbrev pub drive_text_line : List ℕ → List ℕ
drive_text_line text = codes "text " ++ encode_lower (take 1024 text) ++ 10 ∷ []
