-- The lines that `share` writes: of what viewers do, and of its owner's bad lines.
use Rattle.std.specs.Prelude.{ℕ, Bool, true, false, List, [], ◌∷◌, ◌++◌, codes, take}
use Rattle.std.specs.Fmt.{decimal}
use Rattle.hex.specs.Hex.{encode_lower}
use Rattle.rfb_session.specs.declared.share.event.SeatEvent.{SeatEvent}
use Rattle.rfb_session.specs.declared.share.event.SeatEvent.TheVariants.{Ready, Key, Pointer, CutText}
use Rattle.rfb_session.specs.declared.owner.order.Refusal.{Refusal}
use Rattle.rfb_session.specs.declared.owner.order.Refusal.TheVariants.{Bad, NoMemory}

-- a viewer came to a seat
abbrev pub join_line : ℕ → List ℕ
join_line seat = codes "join " ++ decimal seat ++ 10 ∷ []

-- it went, with nothing wrong
abbrev pub leave_line : ℕ → List ℕ
leave_line seat = codes "leave " ++ decimal seat ++ codes " ok" ++ 10 ∷ []

-- which way a key went
abbrev pub way_of : Bool → List ℕ
way_of true = codes "down"
way_of false = codes "up"

-- a key, by its keysym
abbrev pub key_line : ℕ → Bool → ℕ → List ℕ
key_line seat down key =
    codes "key " ++ decimal seat ++ codes " " ++ way_of down ++ codes " " ++ decimal key ++ 10 ∷ []

-- a text that was cut: of its first 1,024 bytes the hexadecimal digits
abbrev pub text_line : ℕ → List ℕ → List ℕ
text_line seat text =
    codes "text " ++ decimal seat ++ codes " " ++ encode_lower (take 1024 text) ++ 10 ∷ []

-- what a viewer did; nothing is reported of the end of its handshake
abbrev pub event_line : ℕ → SeatEvent → List ℕ
event_line seat (Ready shared) = []
event_line seat (Key down key) = key_line seat down key
event_line seat (Pointer buttons x y) =
    codes "pointer " ++ decimal seat ++ codes " " ++ decimal buttons ++ codes " " ++ decimal x
    ++ codes " " ++ decimal y ++ 10 ∷ []
event_line seat (CutText kept text_length) = text_line seat kept.items

-- why a line is not done, with its number
abbrev pub refusal_line : ℕ → Refusal → List ℕ
refusal_line line Bad = codes "line " ++ decimal line ++ codes ": bad line" ++ 10 ∷ []
refusal_line line NoMemory =
    codes "line " ++ decimal line ++ codes ": fault 30 NoMemory" ++ 10 ∷ []
