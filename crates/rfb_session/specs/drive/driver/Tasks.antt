-- The line that is under way: what it waits for, and what changes that. Times are in milliseconds.
use Rattle.std.specs.Prelude.{◌≡◌, ℕ, ◌-◌, ◌==◌, nat_le, nat_lt, min, Bool, true, false}
use Rattle.std.specs.Prelude.{Option, Some, None, if◌then◌else◌}
use Rattle.rfb_pixel.specs.declared.colour.Colour.{Colour}
use Rattle.rfb_picture.specs.declared.rect.Rect.{Rect}
use Rattle.rfb_picture.specs.Grid.{Grid}
use Rattle.rfb_wire.specs.stream.FaultPlace.{counted_on}
use Rattle.rfb_session.specs.console.Time.{begun as first_of}
use Rattle.rfb_session.specs.declared.drive.driver.saying.Lateness.{Lateness}
use Rattle.rfb_session.specs.declared.drive.driver.saying.Lateness.TheVariants as Late
use Rattle.rfb_session.specs.declared.drive.driver.saying.Unlike.{Unlike}
use Rattle.rfb_session.specs.declared.drive.driver.task.Expected.{Expected}
use Rattle.rfb_session.specs.declared.drive.driver.task.Task.{Task}
use Rattle.rfb_session.specs.declared.drive.driver.task.Task.TheVariants.{Idle, Sending, Still, Wait, Change, Expect}
use Rattle.rfb_session.specs.declared.drive.words.Likeness.{Likeness}
use Rattle.rfb_session.specs.declared.netpbm.Pixmap.{Pixmap}
use Rattle.rfb_session.specs.drive.driver.Sight.{IsSame, IsUnlike, Fits, rect_of, touches}

abbrev pub is_idle : Task → Bool
is_idle Idle = true
is_idle (Sending left) = false
is_idle (Still span since) = false
is_idle (Wait span) = false
is_idle (Change part) = false
is_idle (Expect expected) = false

-- ---- updates

-- something of a part, or anything, lies in a rectangle
abbrev pub is_touched : Option Rect → Rect → Bool
is_touched None rect = true
is_touched (Some part) rect = touches rect part

-- after an update that changed a rectangle. Where that has no place of the picture's, nothing is looked at; else the
-- line is done if the screen shows the picture, and where it does not, that is kept
pub data LooksAgain (old : Expected) (rect : Rect) (screen : Grid Colour) (done : Bool) (new : Expected) : Type 0 where
  Elsewhere : touches rect (rect_of old.wanted old.likeness.at) ≡ false → done ≡ false → new ≡ old →
      LooksAgain old rect screen done new
  Met : touches rect (rect_of old.wanted old.likeness.at) ≡ true → IsSame screen old.wanted old.likeness →
      done ≡ true → new ≡ old → LooksAgain old rect screen done new
  Unmet : (unlike : Unlike) → touches rect (rect_of old.wanted old.likeness.at) ≡ true →
      IsUnlike screen old.wanted old.likeness unlike → done ≡ false → new ≡ record old { unlike = unlike } →
      LooksAgain old rect screen done new
  LeftScreen : ¬ (Fits screen old.wanted old.likeness.at) → done ≡ false → new ≡ old →
      LooksAgain old rect screen done new

-- an update changed a rectangle: whether the line is done by that, and what it waits for then
abbrev pub HearsChange : Task → Rect → Grid Colour → Bool → Task → Type 0
HearsChange Idle rect screen done new = (done ≡ false) × (new ≡ Idle)
HearsChange (Sending left) rect screen done new = (done ≡ false) × (new ≡ Sending left)
HearsChange (Still span since) rect screen done new = (done ≡ false) × (new ≡ Still span None)
HearsChange (Wait span) rect screen done new = (done ≡ false) × (new ≡ Wait span)
HearsChange (Change part) rect screen done new = (done ≡ is_touched part rect) × (new ≡ Change part)
HearsChange (Expect expected) rect screen done new =
    (after : Expected) × LooksAgain expected rect screen done after × (new ≡ Expect after)

-- ---- bytes that leave

abbrev pub left_by : ℕ → Task → Task
left_by count Idle = Idle
left_by count (Sending left) = Sending (left - count)
left_by count (Still span since) = Still span since
left_by count (Wait span) = Wait span
left_by count (Change part) = Change part
left_by count (Expect expected) = Expect expected

-- all of its messages have left
abbrev pub is_sent : Task → Bool
is_sent Idle = false
is_sent (Sending left) = left == 0
is_sent (Still span since) = false
is_sent (Wait span) = false
is_sent (Change part) = false
is_sent (Expect expected) = false

-- ---- time

-- where no turn has told the time since something changed, it changed now
abbrev pub stamped : ℕ → Task → Task
stamped now Idle = Idle
stamped now (Sending left) = Sending left
stamped now (Still span since) = Still span (Some (first_of now since))
stamped now (Wait span) = Wait span
stamped now (Change part) = Change part
stamped now (Expect expected) = Expect expected

-- it is so for that long
abbrev pub has_lasted : ℕ → ℕ → Option ℕ → Bool
has_lasted span now None = false
has_lasted span now (Some since) = nat_le span (now - since)

-- a line that began then is done by time alone
abbrev pub is_passed : ℕ → ℕ → Task → Bool
is_passed begun now Idle = false
is_passed begun now (Sending left) = false
is_passed begun now (Still span since) = has_lasted span now since
is_passed begun now (Wait span) = nat_le span (now - begun)
is_passed begun now (Change part) = false
is_passed begun now (Expect expected) = false

-- what there is to say of a line that is late; a wait is never
abbrev pub reason : Task → Option Lateness
reason Idle = None
reason (Sending left) = Some Late.Unsent
reason (Still span since) = Some Late.Moving
reason (Wait span) = None
reason (Change part) = Some Late.Unchanged
reason (Expect expected) = Some (Late.Unlike expected.unlike)

abbrev pub lateness : ℕ → ℕ → ℕ → Task → Option Lateness
lateness begun limit now task = if nat_lt (now - begun) limit then None else reason task

-- the end of what has been so since then
abbrev pub sooner_end : ℕ → ℕ → Option ℕ → ℕ
sooner_end end span None = end
sooner_end end span (Some since) = min end (counted_on since span)

-- when something happens to it by time alone
abbrev pub due : ℕ → ℕ → Task → Option ℕ
due begun limit Idle = None
due begun limit (Sending left) = Some (counted_on begun limit)
due begun limit (Still span since) = Some (sooner_end (counted_on begun limit) span since)
due begun limit (Wait span) = Some (counted_on begun span)
due begun limit (Change part) = Some (counted_on begun limit)
due begun limit (Expect expected) = Some (counted_on begun limit)

-- ---- what it expects

abbrev pub wanted : Task → Option (Pixmap × Likeness)
wanted Idle = None
wanted (Sending left) = None
wanted (Still span since) = None
wanted (Wait span) = None
wanted (Change part) = None
wanted (Expect expected) = Some (expected.wanted, expected.likeness)
