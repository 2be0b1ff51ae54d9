-- The lines of a console that report seats, beside those of `owner`.
use Rattle.std.specs.Prelude.{◌≡◌, ℕ, suc, zero, Bool, cond, List, [], ◌∷◌, ◌++◌, codes, Option, Some, None}
use Rattle.std.specs.Fmt.{decimal}
use Rattle.rfb_session.specs.declared.share.event.SeatEvent.{SeatEvent}
use Rattle.rfb_session.specs.declared.share.event.SeatEvent.TheVariants.{Ready, Key, Pointer, CutText}
use Rattle.rfb_session.specs.owner.ShareLines.{join_line, leave_line, event_line}

-- a connection from there takes a seat
abbrev pub come_line : ℕ → List ℕ → List ℕ
come_line seat from = codes "come " ++ decimal seat ++ codes " " ++ from ++ 10 ∷ []

-- there is none for it
abbrev pub busy_line : List ℕ → List ℕ
busy_line from = codes "busy " ++ from ++ 10 ∷ []

-- the viewer of a seat is disconnected for a fault, which is named in some words
abbrev pub IsFaultLine : ℕ → List ℕ → Type 0
IsFaultLine seat line =
    (name : List ℕ) × (line ≡ codes "leave " ++ decimal seat ++ codes " fault " ++ name ++ 10 ∷ [])

-- a line for each of the first `count` seats whose viewer's going is reported: it went, with nothing wrong
abbrev pub leave_lines : (ℕ → Bool) → ℕ → List ℕ
leave_lines tells zero = []
leave_lines tells (suc count) = leave_lines tells count ++ cond (tells count) (leave_line count) []

-- what is reported of a viewer's doing: the end of its handshake always, and the rest unless that is to be left out
abbrev pub told_line : Bool → ℕ → Option SeatEvent → List ℕ
told_line view_only seat None = []
told_line view_only seat (Some (Ready shared)) = join_line seat
told_line view_only seat (Some (Key down key)) = cond view_only [] (event_line seat (Key down key))
told_line view_only seat (Some (Pointer buttons x y)) = cond view_only [] (event_line seat (Pointer buttons x y))
told_line view_only seat (Some (CutText kept text_length)) =
    cond view_only [] (event_line seat (CutText kept text_length))
