-- What holds of all lines of a rig.
use Rattle.std.proofs.Common.{◌≡◌, ◌-◌, ◌<◌, ◌≤◌, ℕ, zero, suc, List, [], ◌∷◌, ◌++◌, map, refl}
use Rattle.std.proofs.Common.{Option, Some, None, Bool, true, false, arith, nat_le, nat_lt}
use Rattle.std.proofs.lemmas.Bool.Decides.{nat_tests}
use Rattle.std.specs.Prelude.{if◌then◌else◌}
use Rattle.std.specs.Str.{chars}
use Rattle.rfb_wire.specs.stream.FaultPlace.{counted_on}
use Rattle.rfb_session.specs.console.Time.{IsBefore}
use Rattle.rfb_session.specs.declared.drive.drive_line.DriveLine.{DriveLine}
use Rattle.rfb_session.specs.declared.drive.drive_line.DriveLine.TheVariants as Line
use Rattle.rfb_session.specs.declared.drive.driver.saying.Lateness.{Lateness}
use Rattle.rfb_session.specs.declared.drive.driver.task.Task.{Task}
use Rattle.rfb_session.specs.declared.drive.driver.task.Task.TheVariants.{Idle, Sending, Still, Wait, Change, Expect}
use Rattle.rfb_session.specs.declared.drive.key_event.KeyEvent.{KeyEvent}
use Rattle.rfb_session.specs.declared.drive.words.Place.{Place}
use Rattle.rfb_session.specs.drive.Keyboard.{typed}
use Rattle.rfb_session.specs.drive.driver.DriveLaws.{IsQuietBefore, IsSince, buttons_after}
use Rattle.rfb_session.specs.drive.driver.Acts.{Act, OfKey, OfPointer, OfText, acts_of, clicks, mask_of, pressed_at}
use Rattle.rfb_session.specs.drive.driver.Acts.{turning}
use Rattle.rfb_session.specs.drive.driver.Tasks.{due, lateness}

-- ---- buttons

after_both : (down : ℕ) (a b : List Act) → buttons_after down (a ++ b) ≡ buttons_after (buttons_after down a) b
after_both down [] b = refl
after_both down (OfKey event ∷ a) b = after_both down a b
after_both down (OfPointer buttons at ∷ a) b = after_both buttons a b
after_both down (OfText text ∷ a) b = after_both down a b

after_keys : (down : ℕ) (events : List KeyEvent) → buttons_after down (map (λ event. OfKey event) events) ≡ down
after_keys down [] = refl
after_keys down (event ∷ events) = after_keys down events

after_clicks : (buttons : ℕ) (at : Place) (times : ℕ) → buttons_after 0 (clicks buttons at times) ≡ 0
after_clicks buttons at zero = refl
after_clicks buttons at (suc times) =
    after_both 0 (clicks buttons at times) (OfPointer buttons at ∷ OfPointer 0 at ∷ [])

after_press : (place : Option Place) (button times : ℕ) (at : Place) →
    buttons_after 0 (pressed_at place button times at) ≡ 0
after_press None button times at = after_clicks (mask_of button) at times
after_press (Some place) button times at = after_clicks (mask_of button) place times

pub none_down : (at : Place) (said : DriveLine) → buttons_after 0 (acts_of at said) ≡ 0
none_down at (Line.Key events) = after_keys 0 events.items
none_down at (Line.Down key) = refl
none_down at (Line.Up key) = refl
none_down at (Line.Text text) = after_keys 0 (typed (chars text.now))
none_down at (Line.Move place) = refl
none_down at (Line.Click press) = after_press press.at press.button 1 at
none_down at (Line.Double press) = after_press press.at press.button 2 at
none_down at (Line.Drag place) = refl
none_down at (Line.Wheel way times) = after_clicks (turning way) at times
none_down at (Line.Paste digits) = refl
none_down at (Line.PasteFile name) = refl
none_down at (Line.Save name part) = refl
none_down at (Line.Expect name likeness) = refl
none_down at (Line.Still n) = refl
none_down at (Line.Wait n) = refl
none_down at (Line.UntilChange part) = refl
none_down at (Line.Timeout n) = refl

-- ---- times

early : (begun limit time : ℕ) → begun ≤ time → time < counted_on begun limit → nat_lt (time - begun) limit ≡ true
early begun limit time since before =
    let less : time - begun < limit = omega (arith, since, before) in grind (arith, nat_tests)

unpassed : (begun span time : ℕ) → begun ≤ time → time < counted_on begun span → nat_le span (time - begun) ≡ false
unpassed begun span time since before =
    let less : time - begun < span = omega (arith, since, before) in grind (arith, nat_tests)

on_time : (begun limit time : ℕ) (task : Task) → begun ≤ time → time < counted_on begun limit →
    lateness begun limit time task ≡ None
on_time begun limit time task since before = rw (early begun limit time since before) refl

no_reason : (b : Bool) (why : Option Lateness) → (if b then why else why) ≡ why
no_reason true why = refl
no_reason false why = refl

pub quiet_before : (begun limit time : ℕ) (task : Task) → IsSince begun time task →
    IsBefore time (due begun limit task) → IsQuietBefore begun limit time task
quiet_before begun limit time Idle since before = record { passed = refl; late = no_reason _ None }
quiet_before begun limit time (Sending left) since before =
    record { passed = refl; late = on_time begun limit time (Sending left) since before }
quiet_before begun limit time (Still span None) since before =
    record { passed = refl; late = on_time begun limit time (Still span None) since before }
quiet_before begun limit time (Still span (Some start)) since before = record {
  passed = unpassed start span time since.1 (omega (arith, before));
  late = on_time begun limit time (Still span (Some start)) since.0 (omega (arith, before));
}
quiet_before begun limit time (Wait span) since before =
    record { passed = unpassed begun span time since before; late = no_reason _ None }
quiet_before begun limit time (Change part) since before =
    record { passed = refl; late = on_time begun limit time (Change part) since before }
quiet_before begun limit time (Expect expected) since before =
    record { passed = refl; late = on_time begun limit time (Expect expected) since before }
