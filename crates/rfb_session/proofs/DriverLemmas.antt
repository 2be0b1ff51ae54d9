-- What a driver does, by cases.
use Rattle.std.proofs.Common.{◌≡◌, ℕ, List, true, false, Option, Some, None, Result, Ok, Err, refl, ap}
use Rattle.std.specs.Prelude.{OnOk, is_err, is_some, not}
use Rattle.std.specs.Borrow.{Bor}
use Rattle.std.specs.Option.{unwrap_or}
use Rattle.rfb_picture.specs.declared.rect.Rect.{Rect}
use Rattle.rfb_session.specs.declared.drive.drive_line.DriveLine.{DriveLine}
use Rattle.rfb_session.specs.declared.drive.drive_line.DriveLine.TheVariants as Line
use Rattle.rfb_session.specs.declared.drive.driver.Driver.{Driver}
use Rattle.rfb_session.specs.declared.drive.words.Likeness.{Likeness}
use Rattle.rfb_session.specs.declared.drive.words.Place.{Place}
use Rattle.rfb_session.specs.drive.driver.Rigs.{Rigging}
use Rattle.rfb_session.specs.drive.driver.LineRun.{Begins, SendsLine}
use Rattle.rfb_session.specs.drive.driver.Acts.{place_or}

true_not_false : true ≡ false → ⊥
true_not_false e = cc e

-- what a call that went well ensures
pub went : {A E : Type 0} (r : Result A E) (P : Type 0) → is_err r ≡ false → OnOk r P → P
went (Ok a) P none p = p
went (Err e) P none p = absurd (true_not_false none)

pub none_of : {A : Type 0} (o : Option A) → is_some o ≡ false → o ≡ None
none_of None none = refl
none_of (Some a) none = absurd (true_not_false none)

abbrev some_or : {A : Type 0} → A → Option A → A
some_or a None = a
some_or a (Some b) = b

-- values that are both there are the same
pub same_some : {A : Type 0} (a b : A) → Some a ≡ Some b → a ≡ b
same_some {A} a b is = ap (λ (o : Option A). some_or a o) is

pub none_some : {A : Type 0} (a : A) → None ≡ Some a → ⊥
none_some {A} a is = true_not_false (ap (λ (o : Option A). not (is_some o)) is)

pub place_is : (named : Option Place) (at : Place) → unwrap_or named at ≡ place_or named at
place_is None at = refl
place_is (Some place) at = refl

-- a line that waits for nothing but its messages is begun so
pub begins_sent : {R : Type 0} (steps : Rigging R) (now : ℕ) (said : DriveLine) (old new : Driver R) →
    ((name : Bor (List ℕ)) → said ≡ Line.PasteFile name → ⊥) →
    ((name : Bor (List ℕ)) (part : Option Rect) → said ≡ Line.Save name part → ⊥) →
    ((name : Bor (List ℕ)) (likeness : Likeness) → said ≡ Line.Expect name likeness → ⊥) →
    ((n : ℕ) → said ≡ Line.Still n → ⊥) → ((n : ℕ) → said ≡ Line.Wait n → ⊥) →
    ((part : Option Rect) → said ≡ Line.UntilChange part → ⊥) → ((n : ℕ) → said ≡ Line.Timeout n → ⊥) →
    SendsLine said old new → Begins steps now said old new
begins_sent steps now (Line.Key events) old new a b c d e f g sends = sends
begins_sent steps now (Line.Down key) old new a b c d e f g sends = sends
begins_sent steps now (Line.Up key) old new a b c d e f g sends = sends
begins_sent steps now (Line.Text text) old new a b c d e f g sends = sends
begins_sent steps now (Line.Move place) old new a b c d e f g sends = sends
begins_sent steps now (Line.Click press) old new a b c d e f g sends = sends
begins_sent steps now (Line.Double press) old new a b c d e f g sends = sends
begins_sent steps now (Line.Drag place) old new a b c d e f g sends = sends
begins_sent steps now (Line.Wheel way times) old new a b c d e f g sends = sends
begins_sent steps now (Line.Paste digits) old new a b c d e f g sends = sends
begins_sent steps now (Line.PasteFile name) old new a b c d e f g sends = absurd (a name refl)
begins_sent steps now (Line.Save name part) old new a b c d e f g sends = absurd (b name part refl)
begins_sent steps now (Line.Expect name likeness) old new a b c d e f g sends = absurd (c name likeness refl)
begins_sent steps now (Line.Still n) old new a b c d e f g sends = absurd (d n refl)
begins_sent steps now (Line.Wait n) old new a b c d e f g sends = absurd (e n refl)
begins_sent steps now (Line.UntilChange part) old new a b c d e f g sends = absurd (f part refl)
begins_sent steps now (Line.Timeout n) old new a b c d e f g sends = absurd (g n refl)
