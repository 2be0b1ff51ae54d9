-- What a console does for its owner.
use Rattle.std.proofs.Common.{◌≡◌, ◌≢◌, ◌<◌, ◌≤◌, ◌+◌, ◌∙◌, ◌⊎◌, ℕ, List}
use Rattle.std.proofs.Common.{Option, Some, None, length, take, length-take, subst, ap, inl, inr, arith}
use Rattle.rfb_server.specs.Strokes.{Stroke, Fill as OneFill, Copy as OneCopy, Hint as OneHint, Scroll as OneScroll}
use Rattle.rfb_session.specs.declared.console.Console.{Console}
use Rattle.rfb_session.specs.declared.console.Outcome.{Outcome}
use Rattle.rfb_session.specs.declared.console.desk.Desk.{Desk}
use Rattle.rfb_session.specs.declared.console.plan.Rules.{Rules}
use Rattle.rfb_session.specs.declared.owner.order.OwnerLine.{OwnerLine}
use Rattle.rfb_session.specs.declared.owner.order.OwnerLine.TheVariants as Line
use Rattle.rfb_session.specs.owner.OwnerStroke.{stroke_of}
use Rattle.rfb_session.specs.console.Console.{ByDoor, Draws, ObeysLine, Does, DoesOnDesk, KeepsOwner, KeepsButRooms}
use Rattle.rfb_session.specs.console.Console.{KeepsDesk, Stays, Steps, waiting_at}
use Rattle.rfb_session.specs.console.Console.{HearsOwner, Ignored, Heard, EndsOwner, EndedBefore, EndsNow}
use Rattle.rfb_session.specs.doors.Events.{Received, Wrote}

same_some : {X : Type 0} (x y : X) → Some x ≡ Some y → y ≡ x
same_some x y same = cc

none_some : {X : Type 0} (x : X) → None ≡ Some x → ⊥
none_some x same = cc

module _ (name : List ℕ) (rules : Rules) (old : Option Desk) (ended : Option Outcome) (new : Option Desk)
    (ends : Option Outcome) where
  drawn_so : (s t : Stroke) → Some s ≡ Some t → Draws t old ended new ends → Draws s old ended new ends
  drawn_so s t same draws = subst (λ (x : Stroke). Draws x old ended new ends) (same_some s t same) draws

  -- a line is done that asks for a drawing which is made
  pub obeys_drawn : (line : OwnerLine) (s : Stroke) → stroke_of line ≡ Some s → Draws s old ended new ends →
      ObeysLine name rules line old ended new ends
  obeys_drawn (Line.Screen size) s is draws = absurd (none_some s is)
  obeys_drawn (Line.Fill rect colour) s is draws = drawn_so (OneFill rect colour) s is draws
  obeys_drawn (Line.Copy rect sx sy) s is draws = drawn_so (OneCopy rect sx sy) s is draws
  obeys_drawn (Line.Hint rect sx sy) s is draws = drawn_so (OneHint rect sx sy) s is draws
  obeys_drawn (Line.Scroll rect dx dy) s is draws = drawn_so (OneScroll rect dx dy) s is draws
  obeys_drawn (Line.Pixels rect) s is draws = absurd (none_some s is)
  obeys_drawn (Line.End number) s is draws = absurd (none_some s is)
  obeys_drawn Line.Hold s is draws = absurd (none_some s is)
  obeys_drawn Line.Show s is draws = absurd (none_some s is)
  obeys_drawn Line.Quit s is draws = absurd (none_some s is)

-- ---- one door

module _ (door : ℕ) (owner : Type 0) (seat : ℕ → Type 0) (lines other : Type 0) where
  pub by_owner : door ≡ 0 → owner → ByDoor door owner seat lines other
  by_owner is done = record {
    at_owner = λ same. done;
    at_seat = λ k within same. absurd (omega (arith, is, same));
    at_lines = λ same. absurd (omega (arith, is, same));
    at_other = λ far. absurd (omega (arith, is, far));
  }

  pub by_seat : (k : ℕ) → k < 8 → door ≡ k + 1 → seat k → ByDoor door owner seat lines other
  by_seat k within is done = record {
    at_owner = λ same. absurd (omega (arith, is, same));
    at_seat = λ j below same. subst (λ (n : ℕ). seat n) (omega (arith, is, same)) done;
    at_lines = λ same. absurd (omega (arith, within, is, same));
    at_other = λ far. absurd (omega (arith, within, is, far));
  }

  pub by_lines : door ≡ 9 → lines → ByDoor door owner seat lines other
  by_lines is done = record {
    at_owner = λ same. absurd (omega (arith, is, same));
    at_seat = λ k within same. absurd (omega (arith, within, is, same));
    at_lines = λ same. done;
    at_other = λ far. absurd (omega (arith, is, far));
  }

  pub by_notes : door ≡ 10 → other → ByDoor door owner seat lines other
  by_notes is done = record {
    at_owner = λ same. absurd (omega (arith, is, same));
    at_seat = λ k within same. absurd (omega (arith, within, is, same));
    at_lines = λ same. absurd (omega (arith, is, same));
    at_other = λ far. done;
  }

  -- at a door of no seat
  pub by_none : ((k : ℕ) → k < 8 → door ≢ k + 1) → (door ≡ 0 → owner) → (door ≡ 9 → lines) → other →
      ByDoor door owner seat lines other
  by_none none owner_does lines_do other_does = record {
    at_owner = owner_does;
    at_seat = λ k within same. absurd (none k within same);
    at_lines = lines_do;
    at_other = λ far. other_does;
  }

-- what ended it was its owner's
pub at_owner_ends : {A B : Type 0} (door : ℕ) → door ≡ 0 → A ⊎ B → A ⊎ ((door ≡ 0) × B)
at_owner_ends door is (inl goes) = inl goes
at_owner_ends door is (inr ends) = inr (is, ends)

pub at_owner_fails : {A B C : Type 0} (door : ℕ) → door ≡ 0 → A ⊎ B → A ⊎ ((door ≡ 0) × B) ⊎ C
at_owner_fails door is (inl goes) = inl goes
at_owner_fails door is (inr ends) = inr (inl (is, ends))

-- so many are taken
pub many : (n : ℕ) (w : List ℕ) → n ≤ length w → n ≡ length (take n w)
many n w bound = omega (arith, bound, length-take n w)

-- ---- after the last call of a step

module _ {S : Type 0} where
  -- nothing but how much is taken, or nothing at the desk and the owner's side, has changed after it
  pub does_then : (does : Desk → Desk → Type 0) (old mid new : Console S) → DoesOnDesk does old mid →
      new.desk ≡ mid.desk → new.outcome ≡ mid.outcome → KeepsOwner mid new → DoesOnDesk does old new
  does_then does old mid new done desk outcome owner = record {
    desk = rw (desk, outcome) done.desk;
    owner = record {
      reader = owner.reader ∙ done.owner.reader;
      input = owner.input ∙ done.owner.input;
    };
  }

  pub kept_by : (old new : Console S) → KeepsButRooms old new → KeepsDesk old new
  kept_by old new keeps = record { desk = keeps.desk; owner = keeps.owner }

  -- bytes that left, as many as waited at least, are those that waited first
  pub wrote_so : (old new : Console S) (door count : ℕ) → count ≤ length (waiting_at old door) →
      Does old (Wrote door (take count (waiting_at old door))) new → new.outcome ≡ old.outcome → Stays old new →
      Steps old (Wrote door (take count (waiting_at old door))) new
  wrote_so old new door count bound does ends stays = record {
    does = does;
    ends = ends;
    left = ap (λ (n : ℕ). take n (waiting_at old door)) (many count (waiting_at old door) bound);
    stays = stays;
  }

  -- what was kept is kept, and so it stays
  pub keeps_then : (old mid new : Console S) → KeepsDesk old mid → KeepsButRooms mid new → KeepsDesk old new
  keeps_then old mid new kept keeps = record {
    desk = keeps.desk ∙ kept.desk;
    owner = record {
      reader = keeps.owner.reader ∙ kept.owner.reader;
      input = keeps.owner.input ∙ kept.owner.input;
    };
  }

  -- what is kept of one is kept of one that is the same
  pub rooms_kept : {old was new : Console S} → old ≡ was → KeepsButRooms old new → KeepsButRooms was new
  rooms_kept {old} {was} {new} same keeps = subst (λ (s : Console S). KeepsButRooms s new) same keeps

  pub stays_then : (old mid new : Console S) → Stays old mid → Stays mid new → Stays old new
  stays_then old mid new first second = record {
    rules = second.rules ∙ first.rules;
    name = second.name ∙ first.name;
    ended = λ was. second.ended (first.ended was);
  }

  pub hears_then : (old mid new : Console S) (part : List ℕ) → HearsOwner old part mid →
      KeepsButRooms mid new → HearsOwner old part new
  hears_then old mid new part (Ignored ended desk owner) keeps =
      Ignored ended (keeps.desk ∙ desk) (record {
        reader = keeps.owner.reader ∙ owner.reader;
        input = keeps.owner.input ∙ owner.input;
      })
  hears_then old mid new part (Heard order feeds obeys input) keeps =
      Heard order (rw keeps.owner.reader feeds) (rw (keeps.desk, keeps.outcome) obeys)
      (keeps.owner.input ∙ input)

  pub ends_then : (old mid new : Console S) → EndsOwner old mid → KeepsButRooms mid new → EndsOwner old new
  ends_then old mid new (EndedBefore before desk reader) keeps =
      EndedBefore before (keeps.desk ∙ desk) (keeps.owner.reader ∙ reader)
  ends_then old mid new (EndsNow order closes ends obeys outcome input) keeps =
      EndsNow order (rw keeps.owner.reader closes) ends (rw keeps.desk obeys)
      (λ some. keeps.outcome ∙ outcome some) (keeps.owner.input ∙ input)

  pub received_then : (old mid new : Console S) (door : ℕ) (part : List ℕ) →
      Does old (Received door part) mid → KeepsButRooms mid new → Does old (Received door part) new
  received_then old mid new door part done keeps = record {
    at_owner = λ is. hears_then old mid new part (done.at_owner is) keeps;
    at_seat = λ k within is.
        let hears = done.at_seat k within is in (
          hears.0,
          hears.1,
          hears.2,
          hears.3,
          does_then _ old mid new hears.4 keeps.desk keeps.outcome keeps.owner,
        );
    at_lines = λ is. keeps_then old mid new (done.at_lines is) keeps;
    at_other = λ far. keeps_then old mid new (done.at_other far) keeps;
  }
