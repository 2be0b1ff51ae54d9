-- What becomes of the viewers of a desk: who is disconnected, what they send, and who comes.
use Rattle.std.specs.Prelude.{◌≡◌, ◌<◌, ◌≤◌, ◌-◌, ℕ, suc, Bool, true, false, ◌&&◌, not}
use Rattle.std.specs.Prelude.{nat_eq, nat_le, nat_lt}
use Rattle.std.specs.Prelude.{cond, length}
use Rattle.std.specs.Prelude.{List, [], ◌++◌, Option, Some, None, IfSome}
use Rattle.rfb_picture.specs.Places.{has_bit}
use Rattle.rfb_session.specs.declared.console.desk.Desk.{Desk}
use Rattle.rfb_session.specs.declared.console.guest.Progress.{Progress}
use Rattle.rfb_session.specs.declared.console.guest.Progress.TheVariants.{Ready, Failing}
use Rattle.rfb_session.specs.declared.share.event.Heard.{Heard}
use Rattle.rfb_session.specs.declared.share.event.SeatEvent.{SeatEvent}
use Rattle.rfb_session.specs.declared.share.event.SeatEvent.TheVariants.{Key, Pointer, CutText}
use Rattle.rfb_session.specs.declared.share.event.SeatEvent.TheVariants.{Ready as IsReady}
use Rattle.rfb_session.specs.declared.share.event.ShareFault.{ShareFault}
use Rattle.rfb_wire.specs.stream.FaultPlace.{counted_on}
use Rattle.rfb_session.specs.Share.{seat_in}
use Rattle.rfb_session.specs.ShareSteps.{LeavesAs, JoinsAs, KeepsScreen, RefusesAs, HearsBy}
use Rattle.rfb_session.specs.owner.ShareLines.{leave_line}
use Rattle.rfb_session.specs.console.SeatLines.{IsFaultLine, leave_lines, told_line, come_line, busy_line}
use Rattle.rfb_session.specs.console.Desk.{nobody, newcomer, guest_at, lines_of, is_over, gives_way, tells_in}
use Rattle.rfb_session.specs.console.Desk.{KeepsRules, OtherGuests, seated}
use Rattle.rfb_session.specs.console.Time.{undone_since}

-- ---- viewers that are disconnected

-- a seat is emptied, and the lines are so then; nothing else has changed. `told` says whether that is to be reported:
-- somebody was there, and not reported to have failed
pub record Empties (lines_are : List ℕ → Type 0) (old : Desk) (k : ℕ) (told : Bool) (new : Desk) : Type 0 where
  pub taken : Bool
  pub told_is : told ≡ (taken && not (is_over (guest_at old k).progress))
  pub share : LeavesAs old.share k taken new.share
  pub guest : guest_at new k ≡ nobody
  pub others : OtherGuests old k new
  pub lines : lines_are (lines_of new)
  pub rules : KeepsRules old new

-- no line reports it
abbrev pub Vacates : Desk → ℕ → Bool → Desk → Type 0
Vacates old k told new = Empties (λ lines. lines ≡ lines_of old) old k told new

-- the line is added where that is to be reported
abbrev pub LetsGo : Desk → ℕ → Bool → List ℕ → Desk → Type 0
LetsGo old k told line new = Empties (λ lines. lines ≡ lines_of old ++ cond told line []) old k told new

-- where it is reported, one line is added that names a fault of a seat; else none is
pub record AddsFault (k : ℕ) (told : Bool) (before after : List ℕ) : Type 0 where
  pub line : told ≡ true → (line : List ℕ) × IsFaultLine k line × (after ≡ before ++ line)
  pub none : told ≡ false → after ≡ before

-- the same, where the line names a fault
abbrev pub LetsGoFor : Desk → ℕ → Bool → Desk → Type 0
LetsGoFor old k told new = Empties (λ lines. AddsFault k told (lines_of old) lines) old k told new

-- nothing more is known of the viewer of a seat if it goes, and a line says so where that is to be reported
pub record Forgets (old : Desk) (k : ℕ) (goes : Bool) (new : Desk) : Type 0 where
  pub guest : guest_at new k ≡ cond goes nobody (guest_at old k)
  pub others : OtherGuests old k new
  pub lines : lines_of new
      ≡ lines_of old ++ cond (goes && not (is_over (guest_at old k).progress)) (leave_line k) []
  pub rules : KeepsRules old new

-- a seat, if it is one of them, is emptied, and a line says so where that is to be reported
pub record LetsGoIf (old : Desk) (k : ℕ) (goes : Bool) (new : Desk) : Type 0 where
  pub seat : seat_in new.share k ≡ cond goes None (seat_in old.share k)
  pub seats : (j : ℕ) → nat_eq j k ≡ false → seat_in new.share j ≡ seat_in old.share j
  pub screen : KeepsScreen old.share new.share
  pub forgets : Forgets old k goes new

-- of the viewers of the first `count` seats those in a set are forgotten, in order, and a line reports each
pub record ForgetsUpTo (count : ℕ) (old : Desk) (set : ℕ) (new : Desk) : Type 0 where
  pub guests : (k : ℕ) → k < count → guest_at new k ≡ cond (has_bit set k) nobody (guest_at old k)
  pub later : (k : ℕ) → count ≤ k → guest_at new k ≡ guest_at old k
  pub lines : lines_of new ≡ lines_of old ++ leave_lines (tells_in old set) count
  pub rules : KeepsRules old new

-- of the first `count` seats those in a set are emptied, in order, and a line reports each
pub record LetsGoUpTo (count : ℕ) (old : Desk) (set : ℕ) (new : Desk) : Type 0 where
  pub seats : (k : ℕ) → k < count → seat_in new.share k ≡ cond (has_bit set k) None (seat_in old.share k)
  pub seats_later : (k : ℕ) → count ≤ k → seat_in new.share k ≡ seat_in old.share k
  pub screen : KeepsScreen old.share new.share
  pub forgets : ForgetsUpTo count old set new

abbrev pub LetsAllGo : Desk → ℕ → Desk → Type 0
LetsAllGo old set new = LetsGoUpTo 8 old set new

-- nothing more is known of a seat if it is one of them, and a line says so
pub record PartsAt (old : Desk) (k : ℕ) (parts : Bool) (new : Desk) : Type 0 where
  pub share : new.share ≡ old.share
  pub forgets : Forgets old k parts new

-- of the first `count` seats those in a set, in their order
pub record PartsUpTo (count : ℕ) (old : Desk) (set : ℕ) (new : Desk) : Type 0 where
  pub share : new.share ≡ old.share
  pub forgets : ForgetsUpTo count old set new

abbrev pub Parts : Desk → ℕ → Desk → Type 0
Parts old set new = PartsUpTo 8 old set new

-- ---- bytes of a viewer

-- its time begins anew
pub record Stirs (old : Desk) (k : ℕ) (new : Desk) : Type 0 where
  pub share : new.share ≡ old.share
  pub progress : (guest_at new k).progress ≡ (guest_at old k).progress
  pub since : (guest_at new k).since ≡ (guest_at old k).since
  pub idle : (guest_at new k).idle ≡ None
  pub told : (guest_at new k).told ≡ (guest_at old k).told
  pub others : OtherGuests old k new
  pub lines : lines_of new ≡ lines_of old
  pub rules : KeepsRules old new

-- how far a viewer is after it has done something
abbrev pub progress_after : Option SeatEvent → Progress → Progress
progress_after None progress = progress
progress_after (Some (IsReady shared)) progress = Ready
progress_after (Some (Key down key)) progress = progress
progress_after (Some (Pointer buttons x y)) progress = progress
progress_after (Some (CutText kept text_length)) progress = progress

-- a viewer came before, or its handshake is done now
abbrev pub came_after : Option SeatEvent → Bool → Bool
came_after (Some (IsReady shared)) came = true
came_after event came = came

-- a line reports to the owner what a viewer did
pub record TellsEvent (old : Desk) (k : ℕ) (event : Option SeatEvent) (new : Desk) : Type 0 where
  pub share : new.share ≡ old.share
  pub progress : (guest_at new k).progress ≡ progress_after event (guest_at old k).progress
  pub since : (guest_at new k).since ≡ (guest_at old k).since
  pub idle : (guest_at new k).idle ≡ (guest_at old k).idle
  pub told : (guest_at new k).told ≡ (guest_at old k).told
  pub others : OtherGuests old k new
  pub lines : lines_of new ≡ lines_of old ++ told_line old.rules.view_only k event
  pub came : new.came ≡ came_after event old.came
  pub rules : KeepsRules old new

-- the bytes that wait for the owner beyond so many report a viewer, and are counted
pub record CountsTold (old : Desk) (k before : ℕ) (new : Desk) : Type 0 where
  pub share : new.share ≡ old.share
  pub progress : (guest_at new k).progress ≡ (guest_at old k).progress
  pub since : (guest_at new k).since ≡ (guest_at old k).since
  pub idle : (guest_at new k).idle ≡ (guest_at old k).idle
  pub told : (guest_at new k).told ≡ counted_on (guest_at old k).told (length (lines_of old) - before)
  pub others : OtherGuests old k new
  pub lines : lines_of new ≡ lines_of old
  pub rules : KeepsRules old new

-- how many bytes of lines wait that report a viewer, after it has done something
abbrev pub told_after : Bool → ℕ → Option SeatEvent → ℕ → ℕ
told_after view_only k event told = counted_on told (length (told_line view_only k event))

-- and before that who was disconnected for it, which it is not itself
pub record TellsOf (old : Desk) (k : ℕ) (heard : Heard) (new : Desk) : Type 0 where
  pub share : new.share ≡ old.share
  pub progress : has_bit heard.ended k ≡ false →
      (guest_at new k).progress ≡ progress_after heard.event (guest_at old k).progress
  pub since : has_bit heard.ended k ≡ false → (guest_at new k).since ≡ (guest_at old k).since
  pub idle : has_bit heard.ended k ≡ false → (guest_at new k).idle ≡ (guest_at old k).idle
  pub told : has_bit heard.ended k ≡ false →
      (guest_at new k).told ≡ told_after old.rules.view_only k heard.event (guest_at old k).told
  pub others : (j : ℕ) → j < 8 → nat_eq j k ≡ false →
      guest_at new j ≡ cond (has_bit heard.ended j) nobody (guest_at old j)
  pub lines : lines_of new
      ≡ lines_of old ++ (leave_lines (tells_in old heard.ended) 8 ++ told_line old.rules.view_only k heard.event)
  pub rules : KeepsRules old new

-- its session has failed, which is reported once
pub record Fails (old : Desk) (k : ℕ) (told : Bool) (new : Desk) : Type 0 where
  pub share : new.share ≡ old.share
  pub told_is : told ≡ not (is_over (guest_at old k).progress)
  pub progress : (guest_at new k).progress ≡ cond told Failing (guest_at old k).progress
  pub since : (guest_at new k).since ≡ cond told None (guest_at old k).since
  pub idle : (guest_at new k).idle ≡ (guest_at old k).idle
  pub others : OtherGuests old k new
  pub lines : AddsFault k told (lines_of old) (lines_of new)
  pub rules : KeepsRules old new

-- a line says that it failed, unless nobody is there or it has failed before
pub record TellsFault (old : Desk) (k : ℕ) (new : Desk) : Type 0 where
  pub line : is_over (guest_at old k).progress ≡ false →
      (line : List ℕ) × IsFaultLine k line × (lines_of new ≡ lines_of old ++ line)
  pub none : is_over (guest_at old k).progress ≡ true → lines_of new ≡ lines_of old

-- how far it is after its session has failed
abbrev pub progress_failed : Progress → Progress
progress_failed progress = cond (is_over progress) progress Failing

-- they were taken at the seat's session, and what its viewer did is reported, and is the event. Or that session has
-- ended, or there is none, and it is reported once that it failed
pub data HearsAt (old : Desk) (k : ℕ) (bytes : List ℕ) (used ended : ℕ) (event : Option SeatEvent)
    (new : Desk) : Type 0
  where
    Took : (heard : Heard) → used ≡ heard.used → ended ≡ heard.ended → event ≡ heard.event →
        HearsBy (not old.rules.always_shared) old.share k bytes heard new.share →
        (guest_at new k).progress ≡ progress_after heard.event (guest_at old k).progress →
        (guest_at new k).told ≡ told_after old.rules.view_only k heard.event (guest_at old k).told →
        ((j : ℕ) → j < 8 → nat_eq j k ≡ false →
        guest_at new j ≡ cond (has_bit heard.ended j) nobody (guest_at old j)) →
        lines_of new ≡ lines_of old
        ++ (leave_lines (tells_in old heard.ended) 8 ++ told_line old.rules.view_only k heard.event) →
        KeepsRules old new → HearsAt old k bytes used ended event new
    Refused : (fault : ShareFault) → used ≡ length bytes → ((j : ℕ) → has_bit ended j ≡ false) →
        event ≡ None →
        RefusesAs old.share k bytes fault new.share → TellsFault old k new →
        (guest_at new k).progress ≡ progress_failed (guest_at old k).progress →
        OtherGuests old k new → KeepsRules old new →
        HearsAt old k bytes used ended event new

-- ---- connections

-- there are as many viewers as may be
abbrev pub is_full : Desk → Bool
is_full desk = nat_le desk.rules.viewers (seated desk)

-- a viewer gives way, and none began before it that gives way at one of the first `count` seats
pub record IsOldest (desk : Desk) (count k : ℕ) : Type 0 where
  pub within : k < count
  pub gives : gives_way (guest_at desk k).progress ≡ true
  pub oldest : (j : ℕ) → j < count → gives_way (guest_at desk j).progress ≡ true →
      undone_since (guest_at desk k) ≤ undone_since (guest_at desk j)

-- a viewer gives way, and it began before the one that was found
abbrev pub is_older : Desk → ℕ → Option ℕ → Bool
is_older desk k None = gives_way (guest_at desk k).progress
is_older desk k (Some other) =
    gives_way (guest_at desk k).progress
    && nat_lt (undone_since (guest_at desk k)) (undone_since (guest_at desk other))

-- it is that one; or at none of these seats there is a viewer that gives way
pub record FindsOldest (desk : Desk) (count : ℕ) (found : Option ℕ) : Type 0 where
  pub some : IfSome found (λ k. IsOldest desk count k)
  pub none : found ≡ None → (k : ℕ) → k < count → gives_way (guest_at desk k).progress ≡ false

-- where there are as many viewers as may be, the oldest that gives way is disconnected for a newcomer; where there are
-- fewer, or none gives way, nobody is
pub record MakesRoom (old : Desk) (left : Option ℕ) (new : Desk) : Type 0 where
  pub none : left ≡ None → new ≡ old
  pub one : (k : ℕ) → left ≡ Some k →
      (k < 8) × (gives_way (guest_at old k).progress ≡ true)
      × ((taken : Bool) × LetsGo old k taken (leave_line k) new)
  pub only_full : (k : ℕ) → left ≡ Some k → is_full old ≡ true
  pub none_gives_way : left ≡ None → is_full old ≡ true →
      (k : ℕ) → k < 8 → gives_way (guest_at old k).progress ≡ false
  pub oldest : (k : ℕ) → left ≡ Some k →
      (j : ℕ) → j < 8 → gives_way (guest_at old j).progress ≡ true →
      undone_since (guest_at old k) ≤ undone_since (guest_at old j)

-- a viewer has just taken a seat
pub record Welcomes (old : Desk) (k : ℕ) (new : Desk) : Type 0 where
  pub share : new.share ≡ old.share
  pub more : seated new ≤ suc (seated old)
  pub guest : guest_at new k ≡ newcomer
  pub came : new.came ≡ old.came
  pub others : OtherGuests old k new
  pub lines : lines_of new ≡ lines_of old
  pub rules : KeepsRules old new

-- a line says that there is no seat for a connection from there
pub record TurnsAway (old : Desk) (from : List ℕ) (seat : Option ℕ) (new : Desk) : Type 0 where
  pub none : seat ≡ None
  pub share : new.share ≡ old.share
  pub guests : (k : ℕ) → guest_at new k ≡ guest_at old k
  pub lines : lines_of new ≡ lines_of old ++ busy_line from
  pub rules : KeepsRules old new

-- a viewer from there has taken that seat, and a line says so; there are no more viewers than may be
pub record SeatsOne (old : Desk) (from : List ℕ) (k : ℕ) (new : Desk) : Type 0 where
  pub joins : JoinsAs old.share (Some k) new.share
  pub guest : guest_at new k ≡ newcomer
  pub others : OtherGuests old k new
  pub lines : lines_of new ≡ lines_of old ++ come_line k from
  pub few : seated new ≤ new.rules.viewers
  pub rules : KeepsRules old new

-- one of the two
abbrev pub AdmitsAs : Desk → List ℕ → Option ℕ → Desk → Type 0
AdmitsAs old from None new = TurnsAway old from None new
AdmitsAs old from (Some k) new = SeatsOne old from k new

pub record Admits (old : Desk) (from : List ℕ) (seat left : Option ℕ) (new : Desk) : Type 0 where
  pub mid : Desk
  pub room : MakesRoom old left mid
  pub admits : AdmitsAs mid from seat new
