-- Nothing but a turn changes which seat is first in the next one.
use Rattle.std.proofs.Common.{◌≡◌, ◌∙◌, ℕ, false, List, Option, Some, None, refl, sym, ap, subst}
use Rattle.std.proofs.lemmas.Bool.{false≢true}
use Rattle.rfb_session.specs.declared.console.Console.{Console}
use Rattle.rfb_session.specs.declared.console.desk.Desk.{Desk}
use Rattle.rfb_session.specs.doors.Tenants.{Happening}
use Rattle.rfb_session.specs.declared.share.event.SeatEvent.{SeatEvent}
use Rattle.rfb_session.specs.console.Viewers.{HearsAt, Took, Refused, MakesRoom}
use Rattle.rfb_session.specs.console.History.{Happens, HasRead, is_turn, KeepsFirst}
use Rattle.rfb_session.proofs.ConsoleMoveLemmas.{DeskMove, Alike, Draws, Goes, Loses, Holds, Shows, Hears, Writes}
use Rattle.rfb_session.proofs.ConsoleMoveLemmas.{WritesOut, Turns, Comes, Refuses, Moves, None_yet, Begun, Moved}
use Rattle.rfb_session.proofs.ConsoleStepLemmas.{moves_so, stays_so, went_on}

heard_first : (k : ℕ) (bytes : List ℕ) (used ended : ℕ) (event : Option SeatEvent) (a b : Desk) →
    HearsAt a k bytes used ended event b → b.first ≡ a.first
heard_first k bytes used ended event a b (Took heard used_is ended_is event_is hears progress told others lines rules) =
    rules.first
heard_first k bytes used ended event a b (Refused fault used_is none quiet refuses tells progress others rules) =
    rules.first

room_first : (left : Option ℕ) (a mid : Desk) → MakesRoom a left mid → mid.first ≡ a.first
room_first None a mid room = ap (λ (d : Desk). d.first) (room.none refl)
room_first (Some k) a mid room = (room.one k refl).2.1.rules.first

moved_first : (h : Happening) (a b : Desk) → is_turn h ≡ false → DeskMove h a b → b.first ≡ a.first
moved_first h a b none (Alike silent same) = ap (λ (d : Desk). d.first) same
moved_first h a b none (Draws stroke done silent draws) = draws.beside.rules.first
moved_first h a b none (Goes k taken silent lets) = lets.rules.first
moved_first h a b none (Loses k taken silent lets) = lets.rules.first
moved_first h a b none (Holds silent holds) = holds.first
moved_first h a b none (Shows silent shows) = shows.composes.beside.rules.first ∙ shows.holds.first
moved_first h a b none (Hears k bytes part used ended event low is parts hears) =
    heard_first k bytes used ended event a b hears
moved_first h a b none (Writes k bytes low is waited writes) = writes.rules.first
moved_first h a b none (WritesOut bytes is waited writes) = writes.rules.first
moved_first h a b none (Turns now slow stuck is silent turns) =
    absurd (false≢true (sym (subst (λ (e : Happening). is_turn e ≡ false) is none)))
moved_first h a b none (Comes from k left is admits) =
    admits.admits.rules.first ∙ room_first left a admits.mid admits.room
moved_first h a b none (Refuses from left silent admits) =
    admits.admits.rules.first ∙ room_first left a admits.mid admits.room

moves_first : (h : Happening) (old new : Option Desk) → is_turn h ≡ false → Moves h old new → KeepsFirst old new
moves_first h old new none (None_yet quiet was is) =
    subst (λ (o : Option Desk). KeepsFirst o new) (sym was) tt
moves_first h old new none (Begun size name rules desk silent was is fresh) =
    subst (λ (o : Option Desk). KeepsFirst o new) (sym was) tt
moves_first h old new none (Moved a b was is moves) =
    subst (λ (o : Option Desk). KeepsFirst o new) (sym was)
    (subst (λ (o : Option Desk). KeepsFirst (Some a) o) (sym is) (moved_first h a b none moves))

module _ {S : Type 0} where
  pub first_kept : (old new : Console S) (h : Happening) (part : List ℕ) → HasRead old part → new.outcome ≡ None →
      Happens old h new → is_turn h ≡ false → KeepsFirst old.desk new.desk
  first_kept old new h part read goes happens none =
      moves_first h old.desk new.desk none
      (moves_so old new h part read (went_on old new (stays_so h old new happens) goes) goes happens)
