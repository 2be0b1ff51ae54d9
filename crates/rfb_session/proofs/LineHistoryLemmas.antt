-- What a console's owner is told, and what of the owner's bytes is obeyed, over all that happens.
use Rattle.std.proofs.Common.{◌≡◌, ◌+◌, ◌++◌, ◌∙◌, ◌==◌, ◌∷◌}
use Rattle.std.proofs.Common.{ℕ, zero, suc, Bool, true, false, List, []}
use Rattle.std.proofs.Common.{Option, Some, None, refl, sym, ap, subst, arith, inl, inr, length, take, drop, cond}
use Rattle.std.proofs.Common.{append-nil, append_assoc, take-append-drop}
use Rattle.std.proofs.lemmas.Bool.Decides.{eqb_tells}
use Rattle.rfb_session.specs.declared.console.Console.{Console}
use Rattle.rfb_session.specs.declared.console.Outcome.{Outcome}
use Rattle.rfb_session.specs.declared.console.desk.Desk.{Desk}
use Rattle.rfb_session.specs.declared.language.screen.Screen.{Screen as Size}
use Rattle.rfb_session.specs.declared.owner.order.Order.{Order}
use Rattle.rfb_session.specs.declared.owner.reader.OwnerReader.{OwnerReader}
use Rattle.rfb_session.specs.doors.Events.{Received, Ended, Failed, Wrote, Turned, came, left, ends}
use Rattle.rfb_session.specs.doors.Tenants.{Happening, Told, Opened, Declined, events_in}
use Rattle.rfb_session.specs.owner.Reader.{Feeds, ComesTo}
use Rattle.rfb_session.specs.owner.ShareLines.{leave_line}
use Rattle.rfb_session.specs.console.SeatLines.{leave_lines, come_line, busy_line}
use Rattle.rfb_session.specs.console.Desk.{guest_at, lines_of, is_over}
use Rattle.rfb_session.specs.declared.share.event.SeatEvent.{SeatEvent}
use Rattle.rfb_session.specs.console.Viewers.{HearsAt, Took, Refused, MakesRoom}
use Rattle.rfb_session.specs.console.Turns.{tells_late}
use Rattle.rfb_session.specs.console.Console.{IsFreshConsole, Stays, HearsOwner, Ignored, Heard, ObeysSome, Obeys}
use Rattle.rfb_session.specs.console.Console.{lines_on}
use Rattle.rfb_session.specs.console.History.{Happens, Lasts, HasRead, left_in, TellsEach, TellsAll, joined}
use Rattle.rfb_session.specs.console.History.{Reads, Part, Line, Deed, Obeyed, Met, orders_in}
use Rattle.rfb_session.specs.console.History.{but_owners}
use Rattle.rfb_session.specs.console.History.{DoesAll, IsObeyed}
use Rattle.rfb_session.proofs.ConsoleMoveLemmas.{Moves, None_yet, Begun, Moved, DeskMove, IsSilent}
use Rattle.rfb_session.proofs.ConsoleMoveLemmas.{Alike, Draws, Goes, Loses, Holds, Shows, Hears, Writes, WritesOut}
use Rattle.rfb_session.proofs.ConsoleMoveLemmas.{Turns, Comes, Refuses, if_other}
use Rattle.rfb_session.proofs.ConsoleStepLemmas.{moves_so, read_on, stays_so, went_on, lasts_on, IsBeside}
use Rattle.rfb_session.proofs.ConsoleStepLemmas.{kept_so, kept_read, heard_read, left_over}
use Rattle.rfb_session.proofs.FirstHappeningLemmas.{bytes_first}

-- ---- lines

-- what is told of a happening waits after what waited, but for what left by it
record Tells (h : Happening) (old new : List ℕ) : Type 0 where
  text : List ℕ
  lines : new ≡ drop (length (left_in 9 h)) old ++ text
  first : left_in 9 h ≡ take (length (left_in 9 h)) old

tells_more : (h : Happening) (old new text : List ℕ) → left_in 9 h ≡ [] → new ≡ old ++ text → Tells h old new
tells_more h old new text none more = record {
  text = text;
  lines = rw none more;
  first = rw none refl;
}

tells_none : (h : Happening) (old new : List ℕ) → left_in 9 h ≡ [] → new ≡ old → Tells h old new
tells_none h old new none same = tells_more h old new [] none (same ∙ sym (append-nil old))

silent_9 : (h : Happening) → IsSilent h → left_in 9 h ≡ []
silent_9 h silent = silent.gone 9 (omega arith) (omega arith)

-- what a newcomer has somebody give way for
room_text : (left : Option ℕ) (a b : Desk) → MakesRoom a left b → (text : List ℕ) × (lines_of b ≡ lines_of a ++ text)
room_text None a b room =
    ([], ap (λ (d : Desk). lines_of d) (room.none refl) ∙ sym (append-nil (lines_of a)))
room_text (Some k) a b room = let goes = (room.one k refl).2 in (cond goes.0 (leave_line k) [], goes.1.lines)

heard_tells : (h : Happening) (k : ℕ) (bytes : List ℕ) (used ended : ℕ) (event : Option SeatEvent)
    (a b : Desk) →
    left_in 9 h ≡ [] → HearsAt a k bytes used ended event b → Tells h (lines_of a) (lines_of b)
heard_tells h k bytes used ended event a b none (Took heard is gone event_is hears progress told guests lines rules) =
    tells_more h (lines_of a) (lines_of b) _ none lines
heard_tells h k bytes used ended event a b none (Refused fault is gone quiet refuses tells progress guests rules) =
    by (is_over (guest_at a k).progress) refl
  where
    by : (over : Bool) → is_over (guest_at a k).progress ≡ over → Tells h (lines_of a) (lines_of b)
    by false going = let line = tells.line going in tells_more h (lines_of a) (lines_of b) line.0 none line.2
    by true over = tells_none h (lines_of a) (lines_of b) none (tells.none over)

move_tells : (h : Happening) (a b : Desk) → DeskMove h a b → Tells h (lines_of a) (lines_of b)
move_tells h a b (Alike silent same) = tells_none h _ _ (silent_9 h silent) (ap (λ (d : Desk). lines_of d) same)
move_tells h a b (Draws stroke done silent draws) = tells_none h _ _ (silent_9 h silent) draws.beside.lines
move_tells h a b (Goes k taken silent lets) =
    tells_more h (lines_of a) (lines_of b) (cond taken (leave_line k) []) (silent_9 h silent) lets.lines
move_tells h a b (Loses k true silent lets) =
    let line = lets.lines.line refl in tells_more h (lines_of a) (lines_of b) line.0 (silent_9 h silent) line.2
move_tells h a b (Loses k false silent lets) = tells_none h _ _ (silent_9 h silent) (lets.lines.none refl)
move_tells h a b (Holds silent holds) = tells_none h _ _ (silent_9 h silent) holds.lines
move_tells h a b (Shows silent shows) =
    tells_none h _ _ (silent_9 h silent) (shows.composes.beside.lines ∙ shows.holds.lines)
move_tells h a b (Hears k bytes part used ended event low is parts hears) =
    heard_tells h k bytes used ended event a b (ap (λ (e : Happening). left_in 9 e) is) hears
move_tells h a b (Writes k bytes low is waited writes) =
    tells_none h _ _ (ap (λ (e : Happening). left_in 9 e) is
    ∙ if_other 9 (k + 1) bytes (λ same. omega (arith, same, low))) writes.lines
move_tells h a b (WritesOut bytes is waited writes) =
    subst (λ (e : Happening). Tells e (lines_of a) (lines_of b)) (sym is) (record {
      text = [];
      lines = writes.lines ∙ sym (append-nil (drop (length bytes) (lines_of a)));
      first = waited;
    })
move_tells h a b (Turns now slow stuck is silent turns) =
    tells_more h (lines_of a) (lines_of b) (leave_lines (tells_late a now) 8) (silent_9 h silent) turns.lines
move_tells h a b (Comes from k left is admits) =
    let room = room_text left a admits.mid admits.room in
    tells_more h (lines_of a) (lines_of b) (room.0 ++ come_line k from) (ap (λ (e : Happening). left_in 9 e) is)
    (admits.admits.lines ∙ ap (λ (l : List ℕ). l ++ come_line k from) room.1
    ∙ append_assoc (lines_of a) room.0 (come_line k from))
move_tells h a b (Refuses from left silent admits) =
    let room = room_text left a admits.mid admits.room in
    tells_more h (lines_of a) (lines_of b) (room.0 ++ busy_line from) (silent_9 h silent)
    (admits.admits.lines ∙ ap (λ (l : List ℕ). l ++ busy_line from) room.1
    ∙ append_assoc (lines_of a) room.0 (busy_line from))

happening_tells : (h : Happening) (old new : Option Desk) → Moves h old new → Tells h (lines_on old) (lines_on new)
happening_tells h old new (None_yet none was is) =
    rw (was, is) (tells_none h [] [] none refl)
happening_tells h old new (Begun size name rules desk silent was is fresh) =
    rw (was, is) (tells_none h [] (lines_of desk) (silent_9 h silent) fresh.lines)
happening_tells h old new (Moved a b was is moves) = rw (was, is) (move_tells h a b moves)

not_owner : (door : ℕ) → (suc door == 0) ≡ false
not_owner door = elim (eqb_tells (suc door) 0) [
  | inl same ↦ absurd (omega (arith, same.1))
  | inr other ↦ other.0
]

module _ {S : Type 0} where
  -- one happening, and all that come after it
  tells_then : (h : Happening) (old mid new : Console S) (all more : List Happening) →
      Tells h (lines_on old.desk) (lines_on mid.desk) → TellsAll mid more new →
      left 9 (events_in all) ≡ left_in 9 h ++ left 9 (events_in more) →
      ((texts : List (List ℕ)) (text : List ℕ) → TellsEach mid more texts new →
      lines_on mid.desk ≡ drop (length (left_in 9 h)) (lines_on old.desk) ++ text →
      TellsEach old all (text ∷ texts) new) → TellsAll old all new
  tells_then h old mid new all more tells after parts each = record {
    texts = tells.text ∷ after.texts;
    each = each after.texts tells.text after.each tells.lines;
    order =
        let gone = left_in 9 h in
        let rest = drop (length gone) (lines_on old.desk) in
        ap (λ (l : List ℕ). l ++ lines_on new.desk) parts
        ∙ append_assoc gone (left 9 (events_in more)) (lines_on new.desk)
        ∙ ap (λ (l : List ℕ). gone ++ l) (after.order
        ∙ ap (λ (l : List ℕ). l ++ joined after.texts) tells.lines
        ∙ append_assoc rest tells.text (joined after.texts))
        ∙ sym (append_assoc gone rest (tells.text ++ joined after.texts))
        ∙ ap (λ (l : List ℕ). l ++ (tells.text ++ joined after.texts))
        (ap (λ (l : List ℕ). l ++ rest) tells.first ∙ take-append-drop (length gone) (lines_on old.desk));
  }

  pub tells_all : (old new : Console S) (happenings : List Happening) (part : List ℕ) → HasRead old part →
      new.outcome ≡ None → Lasts old happenings new → TellsAll old happenings new
  tells_all old new [] part read goes lasts = record {
    texts = [];
    each = lasts;
    order = ap (λ (c : Console S). lines_on c.desk) lasts ∙ sym (append-nil (lines_on old.desk));
  }
  tells_all old new (h ∷ more) part read goes one =
      let on = lasts_on one.0 new more one.2 goes in
      let was = went_on old one.0 (stays_so h old one.0 one.1) on in
      let next = read_on old one.0 h part read was on one.1 in
      tells_then h old one.0 new (h ∷ more) more
      (happening_tells _ _ _ (moves_so old one.0 h part read was on one.1))
      (tells_all one.0 new more next.0 next.1 goes one.2) (bytes_first 9 h more).1
      (λ texts text each lines. (one.0, one.1, lines, each))

  -- ---- the owner's bytes

  as_made : (old mid : Console S) → Stays old mid → (deeds : List Deed) (a b : Option Desk) →
      DoesAll S mid.name.items mid.rules a deeds b → DoesAll S old.name.items old.rules a deeds b
  as_made old mid stays deeds a b does = rw (sym stays.rules, sym stays.name) does

  -- something else happens
  beside : (h : Happening) (old mid new : Console S) (part : List ℕ) (all more : List Happening) → IsBeside h →
      mid.outcome ≡ None → Happens old h mid → came 0 (events_in all) ≡ came 0 (events_in more) →
      but_owners all ≡ h ∷ but_owners more → IsObeyed mid part more new → IsObeyed old part all new
  beside h old mid new part all more is on happens none parts after =
      let kept = kept_so old mid h on happens is in
      let stays = stays_so h old mid happens in
      record {
        deeds = Met h ∷ after.deeds;
        rest = after.rest;
        reads = rw (ap (λ (r : OwnerReader). r.screen) (sym kept.reader), none) after.reads;
        stands = after.stands;
        others = ap (λ (l : List Happening). h ∷ l) after.others ∙ sym parts;
        does = (
          mid.desk,
          (old, mid, refl, refl, on, happens),
          as_made old mid stays after.deeds mid.desk new.desk after.does,
        );
      }

  -- and what has come of a line stays
  by_beside : (h : Happening) (old mid new : Console S) (part : List ℕ) (all more : List Happening) → IsBeside h →
      new.outcome ≡ None → Happens old h mid → Lasts mid more new → HasRead old part →
      came 0 (events_in all) ≡ came 0 (events_in more) → but_owners all ≡ h ∷ but_owners more →
      (HasRead mid part → IsObeyed mid part more new) → IsObeyed old part all new
  by_beside h old mid new part all more is goes happens lasts read none parts after =
      let on = lasts_on mid new more lasts goes in
      beside h old mid new part all more is on happens none parts
      (after (kept_read old mid part (kept_so old mid h on happens is) read))

  -- bytes of the owner's, which are part of a line, or end one
  heard : (old mid new : Console S) (part bytes : List ℕ) (more : List Happening) (order : Option Order) →
      HasRead old part → old.outcome ≡ None → mid.outcome ≡ None → Feeds old.reader bytes order mid.reader →
      ObeysSome old.name.items old.rules order old.desk old.outcome mid.desk mid.outcome → Stays old mid →
      IsObeyed mid (left_over order (part ++ bytes)) more new →
      IsObeyed old part (Told (Received zero bytes) ∷ more) new
  heard old mid new part bytes more None read was on feeds obeys stays after = record {
    deeds = after.deeds;
    rest = after.rest;
    reads = rw (sym feeds.known, sym (append_assoc part bytes (came 0 (events_in more)))) after.reads;
    stands = after.stands;
    others = after.others;
    does = subst (λ (d : Option Desk). DoesAll S old.name.items old.rules d after.deeds new.desk) obeys
        (as_made old mid stays after.deeds mid.desk new.desk after.does);
  }
  heard old mid new part bytes more (Some order) read was on feeds obeys stays after = record {
    deeds = Obeyed order ∷ after.deeds;
    rest = after.rest;
    reads = subst (λ (l : List ℕ). Reads old.reader.screen l (order ∷ orders_in after.deeds) after.rest)
        (append_assoc part bytes (came 0 (events_in more)))
        (Line (feeds.goes part read.stands).0
        (subst (λ (s : Option Size). Reads s (came 0 (events_in more)) (orders_in after.deeds) after.rest)
        feeds.known after.reads));
    stands = after.stands;
    others = after.others;
    does = (
      mid.desk,
      subst (λ (o : Option Outcome). Obeys old.name.items old.rules order old.desk o mid.desk None) was
          (subst (λ (o : Option Outcome). Obeys old.name.items old.rules order old.desk old.outcome mid.desk o)
          on obeys),
      as_made old mid stays after.deeds mid.desk new.desk after.does,
    );
  }

  pub fresh_read : (console : Console S) → IsFreshConsole console → HasRead console []
  fresh_read console fresh = record {
    stands = subst (λ (s : Option Size). ComesTo s [] console.reader.stage) (sym fresh.reader.1) fresh.reader.0;
    known = λ none. fresh.desk;
  }

  pub obeyed : (old new : Console S) (happenings : List Happening) (part : List ℕ) → HasRead old part →
      new.outcome ≡ None → ends 0 (events_in happenings) ≡ 0 → Lasts old happenings new →
      IsObeyed old part happenings new
  obeyed old new [] part read goes still lasts = record {
    deeds = [];
    rest = part;
    reads = subst (λ (l : List ℕ). Reads old.reader.screen l [] part) (sym (append-nil part)) Part;
    stands = subst (λ (c : Console S). HasRead c part) (sym lasts) read;
    others = refl;
    does = ap (λ (c : Console S). c.desk) lasts;
  }
  obeyed old new (Told (Received zero bytes) ∷ more) part read goes still lasts =
      let on = lasts_on lasts.0 new more lasts.2 goes in
      let stays = stays_so (Told (Received zero bytes)) old lasts.0 lasts.1 in
      let was = went_on old lasts.0 stays on in
      by on stays was (λ next read_next. obeyed lasts.0 new more next read_next goes (omega (arith, still)) lasts.2)
      (lasts.1.does.at_owner refl)
    where
      by : lasts.0.outcome ≡ None → Stays old lasts.0 → old.outcome ≡ None →
          ((next : List ℕ) → HasRead lasts.0 next → IsObeyed lasts.0 next more new) →
          HearsOwner old bytes lasts.0 → IsObeyed old part (Told (Received zero bytes) ∷ more) new
      by on stays was after (Ignored over same keeps) = absurd (over was)
      by on stays was after (Heard order feeds obeys input) =
          heard old lasts.0 new part bytes more order read was on feeds obeys stays
          (after (left_over order (part ++ bytes)) (heard_read old lasts.0 part bytes order on read feeds obeys))
  obeyed old new (Told (Ended zero) ∷ more) part read goes still lasts = absurd (omega (arith, still))
  obeyed old new (Told (Received (suc door) bytes) ∷ more) part read goes still lasts =
      by_beside (Told (Received (suc door) bytes)) old lasts.0 new part _ more (λ is. omega (arith, is)) goes lasts.1
      lasts.2 read
      (ap (λ (l : List ℕ). l ++ came 0 (events_in more)) (if_other 0 (suc door) bytes (λ is. omega (arith, is))))
      (ap (λ (b : Bool). cond b (but_owners more) (Told (Received (suc door) bytes) ∷ but_owners more))
      (not_owner door)) (λ next. obeyed lasts.0 new more part next goes (omega (arith, still)) lasts.2)
  obeyed old new (Told (Ended (suc door)) ∷ more) part read goes still lasts =
      by_beside (Told (Ended (suc door))) old lasts.0 new part _ more (λ is. omega (arith, is)) goes lasts.1 lasts.2
      read refl refl (λ next. obeyed lasts.0 new more part next goes (omega (arith, still)) lasts.2)
  obeyed old new (Told (Failed door) ∷ more) part read goes still lasts =
      by_beside (Told (Failed door)) old lasts.0 new part _ more tt goes lasts.1 lasts.2 read refl refl
      (λ next. obeyed lasts.0 new more part next goes (omega (arith, still)) lasts.2)
  obeyed old new (Told (Wrote door bytes) ∷ more) part read goes still lasts =
      by_beside (Told (Wrote door bytes)) old lasts.0 new part _ more tt goes lasts.1 lasts.2 read refl refl
      (λ next. obeyed lasts.0 new more part next goes (omega (arith, still)) lasts.2)
  obeyed old new (Told (Turned now) ∷ more) part read goes still lasts =
      by_beside (Told (Turned now)) old lasts.0 new part _ more tt goes lasts.1 lasts.2 read refl refl
      (λ next. obeyed lasts.0 new more part next goes (omega (arith, still)) lasts.2)
  obeyed old new (Opened door from ∷ more) part read goes still lasts =
      by_beside (Opened door from) old lasts.0 new part _ more tt goes lasts.1 lasts.2 read refl refl
      (λ next. obeyed lasts.0 new more part next goes (omega (arith, still)) lasts.2)
  obeyed old new (Declined from ∷ more) part read goes still lasts =
      by_beside (Declined from) old lasts.0 new part _ more tt goes lasts.1 lasts.2 read refl refl
      (λ next. obeyed lasts.0 new more part next goes (omega (arith, still)) lasts.2)
