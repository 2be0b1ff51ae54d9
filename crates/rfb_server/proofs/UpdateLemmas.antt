-- An update that is composed: its head, what it leaves, and where there is none.
use Rattle.std.proofs.Common.{◌≡◌, ℕ, ◌+◌, ◌-◌, ◌*◌, ◌<◌, ◌&&◌, ◌||◌, not, Bool, true, false, List, [], ◌∷◌, ◌++◌}
use Rattle.std.proofs.Common.{length, get_or, set, Option, Some, None, refl, sym, subst, ◌∙◌, arith, append_assoc}
use Rattle.std.proofs.Common.{length-append}
use Rattle.std.specs.Int.{div_ceil}
use Rattle.std.proofs.lemmas.List.{set-append_right}
use Rattle.std.proofs.lemmas.Bool.{both_ways}
use Rattle.rfb_pixel.specs.declared.colour.Colour.{Colour}
use Rattle.rfb_pixel.specs.Format.{PixelFormat}
use Rattle.rfb_picture.specs.Grid.{Grid, at_or}
use Rattle.rfb_picture.specs.Box.{is_in}
use Rattle.rfb_picture.specs.Area.{Places, nothing}
use Rattle.rfb_picture.specs.Places.{without}
use Rattle.rfb_picture.proofs.GridLaws.{at-changed, width-changed, height-changed, whole-changed, width-uniform}
use Rattle.rfb_picture.proofs.GridLaws.{height-uniform, contains_true}
use Rattle.rfb_picture.proofs.AreaLaws.{whole_at-no_places, area-no_places}
use Rattle.rfb_wire.specs.ServerHead.{SpellsUpdate}
use Rattle.rfb_wire.specs.stream.Sequel.{Second}
use Rattle.rfb_codec.specs.Effect.{IsAlike}
use Rattle.circular_buffer.specs.Buffer.{Buffer}
use Rattle.rfb_server.specs.declared.hint.Hint.{Hint}
use Rattle.rfb_server.specs.declared.session.Session.{Session}
use Rattle.rfb_server.specs.session.Sessions.{IsSame}
use Rattle.rfb_server.specs.Server.{ServerState}
use Rattle.rfb_server.specs.Request.{wanted, wanted_at, recorded, is_asked, is_whole, differs}
use Rattle.rfb_server.specs.session.Marks.{AreAlike}
use Rattle.rfb_server.specs.KnownScreen.{IsCaughtUp, Follows}
use Rattle.rfb_server.specs.update.Needs.{needs_of}
use Rattle.rfb_server.specs.Composition.{Part, Move, IsDue, Composes}
use Rattle.rfb_server.specs.update.Sends.{IsKept, Sends, state_of, AppendsCells, IsEnough, may_need}
use Rattle.rfb_server.specs.update.Copies.{Copies, AppendsCopies, usable_hints}
use Rattle.rfb_server.specs.UsedHints.{AreUsed, usable}
use Rattle.rfb_server.proofs.ClaimLemmas.{nothing_claimed}
use Rattle.rfb_server.proofs.UsingLemmas.{used_all}
use Rattle.rfb_server.specs.Progress.{is_ready}
use Rattle.rfb_server.specs.UpdateCall.{IsUpdate}
use Rattle.rfb_server.specs.update.Composed.{HasComposed, StaysIdle, IsSettled, IsCounted}
use Rattle.rfb_server.proofs.NeedingLemmas.{differs_not}
use Rattle.rfb_server.proofs.KeptLemmas.{setting_then, kept_then}
use Rattle.rfb_server.proofs.SentCells.{quiet_unless}
use Rattle.rfb_server.proofs.CellLemmas.{place_cell}
use Rattle.rfb_server.proofs.RoomLemmas.{none_without_room}
use Rattle.rfb_server.proofs.CopyingLemmas.{copied_due, none_copied}
use Rattle.rfb_server.proofs.CopiedLemmas.{state_copied, state_same}
use Rattle.rfb_server.proofs.ComposesLemmas.{all_cells, composes}

-- ---- the head

-- the last two of four bytes, written over those after a front
pub counted : (before bytes head : List ℕ) (at : ℕ) → length before ≡ at → length head ≡ 4 →
    get_or head 0 0 ≡ 0 → get_or head 1 0 ≡ 0 →
    set (set (before ++ (0 ∷ 0 ∷ 0 ∷ 0 ∷ bytes)) (at + 2) (get_or head 2 0)) (at + 3) (get_or head 3 0)
    ≡ before ++ (head ++ bytes)
counted before bytes [] at long size first second = absurd (omega arith)
counted before bytes (a ∷ []) at long size first second = absurd (omega arith)
counted before bytes (a ∷ b ∷ []) at long size first second = absurd (omega arith)
counted before bytes (a ∷ b ∷ c ∷ []) at long size first second = absurd (omega arith)
counted before bytes (a ∷ b ∷ c ∷ d ∷ []) at long size first second =
    let two : at + 2 - at ≡ 2 = omega arith in
    let three : at + 3 - at ≡ 3 = omega arith in
    let one = set-append_right before (0 ∷ 0 ∷ 0 ∷ 0 ∷ bytes) at (at + 2) c long (omega arith) in
    let other = set-append_right before (0 ∷ 0 ∷ c ∷ 0 ∷ bytes) at (at + 3) d long (omega arith) in
    rw (one, two) (rw (other, three) (rw (first, second) refl))
counted before bytes (a ∷ b ∷ c ∷ d ∷ e ∷ more) at long size first second = absurd (omega arith)

-- ---- whether an update is due

-- a rectangle has a place that needs sending
pub sent_due : (across n : ℕ) (s : ServerState) (known : Grid (Option ℕ)) (parts : List Part) (bytes : List ℕ) →
    s.point ≡ Second tt →
    (length parts ≡ 0 → ⊥) → Sends across n s known parts bytes → IsDue s
sent_due across n s known [] bytes ready some sends = absurd (some refl)
sent_due across n s known (part ∷ parts) bytes ready some sends =
    let rect = part.head.rect in
    let (j, c, need) = sends.blocks_are.0.tight.left in
    let (front, back, whole, here, rest) = sends.spelled in
    let (a, b, d, e) = contains_true rect rect.x j c in
    record {
      ready = ready;
      x = rect.x;
      y = j;
      is_place = (omega (arith, here.on_screen), omega (arith, here.on_screen));
      needs = need;
    }

needed : (asked whole differing : Bool) → (asked && (whole || differing)) ≡ true →
    (asked ≡ true → differing ≡ false) → (whole ≡ true → ⊥) → ⊥
needed true true differing e right renewed = renewed refl
needed true false true e right renewed = absurd (both_ways true (right refl) refl)
needed true false false e right renewed = cc
needed false whole differing e right renewed = cc

-- where there is none, none needs
pub idle_not_due : (s : ServerState) (known : Grid (Option ℕ)) (bytes : List ℕ) →
    Sends (div_ceil s.screen.width 64) (div_ceil s.screen.width 64 * div_ceil s.screen.height 64) s known [] bytes →
    IsDue s → ⊥
idle_not_due s known bytes sends due =
    let cell = all_cells s.screen.width s.screen.height due.x due.y due.is_place.0 due.is_place.1 in
    let same : known ≡ s.known = sends.idle refl in
    needed (is_asked s due.x due.y) (is_whole s due.x due.y)
    (differs (wanted s due.x due.y) (recorded s due.x due.y)) due.needs
    (λ asked.
    let right : recorded s due.x due.y ≡ Some (wanted s due.x due.y) =
    subst (λ (k : Grid (Option ℕ)). at_or k due.x due.y None ≡ Some (wanted s due.x due.y)) same
    (sends.answered due.x due.y due.is_place cell asked) in
    rw right (differs_not (wanted s due.x due.y)))
    (λ whole. let none : false ≡ true = sends.renewed due.x due.y due.is_place cell whole in cc)

-- ---- what is left

-- where a place is not marked it was not, or was asked
lost : (mark asked : Bool) → (mark && not asked) ≡ false → (mark ≡ true) → asked ≡ true
lost true true e m = refl
lost true false e m = cc
lost false asked e m = cc

pub caught_settled : (screen : Grid Colour) (known : Grid (Option ℕ)) (area : Places)
    (form : PixelFormat) (marks : Grid Bool) →
    AreAlike known area marks → IsCaughtUp screen known area form marks →
    ((x y : ℕ) → x < known.width → y < known.height → is_in area.asked x y ≡ true →
    at_or known x y None ≡ Some (wanted_at screen form x y)) →
    IsCaughtUp screen known (nothing area) form (without area.asked marks)
caught_settled screen known area form marks alike caught answered = record {
  right = λ x y p q e.
      let p' : x < marks.width = rw (← width-changed (λ i j (old : Bool). old && not (is_in area.asked i j)) marks) p in
      let q' : y < marks.height =
      rw (← height-changed (λ i j (old : Bool). old && not (is_in area.asked i j)) marks) q in
      let here = sym (at-changed (λ i j (old : Bool). old && not (is_in area.asked i j)) marks x y false
      alike.marks_whole p' q') ∙ e in
      by x y p' q' (is_in marks x y) refl here;
  not_whole = λ x y p q e.
      let p' : x < marks.width = rw (← width-changed (λ i j (old : Bool). old && not (is_in area.asked i j)) marks) p in
      let q' : y < marks.height =
      rw (← height-changed (λ i j (old : Bool). old && not (is_in area.asked i j)) marks) q in
      whole_at-no_places area.asked.width area.asked.height x y (rw (alike.area_wide, ← alike.marks_wide) p')
      (rw (alike.area_high, ← alike.marks_high) q');
}
  where
    by : (x y : ℕ) → x < marks.width → y < marks.height → (mark : Bool) → is_in marks x y ≡ mark →
        (mark && not (is_in area.asked x y)) ≡ false →
        at_or known x y None ≡ Some (wanted_at screen form x y)
    by x y p q true m e =
        answered x y (rw (← alike.marks_wide) p) (rw (← alike.marks_high) q) (lost true (is_in area.asked x y) e refl)
    by x y p q false m e = caught.right x y p q m

-- what is asked of one screen still is, once it is answered
pub alike_settled : (known : Grid (Option ℕ)) (area : Places) (marks : Grid Bool) → AreAlike known area marks →
    AreAlike known (nothing area) (without area.asked marks)
alike_settled known area marks alike = record {
  known_whole = alike.known_whole;
  area_is = area-no_places area.asked.width area.asked.height;
  marks_whole = whole-changed _ marks alike.marks_whole;
  area_wide = width-uniform area.asked.width area.asked.height false ∙ alike.area_wide;
  area_high = height-uniform area.asked.width area.asked.height false ∙ alike.area_high;
  marks_wide = width-changed _ marks ∙ alike.marks_wide;
  marks_high = height-changed _ marks ∙ alike.marks_high;
  columns = alike.columns;
  rows = alike.rows;
}

-- ---- a session

-- its state after an update
state_settled : (screen : Grid Colour) (old mid new : Session) → IsKept old mid → IsSettled mid new →
    state_of screen new ≡ record (state_of screen old) { known = mid.known; area = nothing old.area }
state_settled screen old mid new kept settled =
    let setting = setting_then old mid new kept.setting settled.setting in
    rw (settled.known, settled.area, setting.format, setting.encodings, kept.area) refl

-- the size of what is known is that of the screen
sends_here : (screen : Grid Colour) (old mid : Session) (parts : List Part) (bytes : List ℕ) → Follows screen old →
    Sends (div_ceil old.known.width 64) (div_ceil old.known.width 64 * div_ceil old.known.height 64)
    (state_of screen old) mid.known parts bytes →
    Sends (div_ceil screen.width 64) (div_ceil screen.width 64 * div_ceil screen.height 64)
    (state_of screen old) mid.known parts bytes
sends_here screen old mid parts bytes about sends =
    subst (λ (h : ℕ). Sends (div_ceil screen.width 64) (div_ceil screen.width 64 * div_ceil h 64) (state_of screen old)
    mid.known parts bytes) (sym about.alike.rows)
    (subst (λ (w : ℕ). Sends (div_ceil w 64) (div_ceil w 64 * div_ceil old.known.height 64) (state_of screen old)
    mid.known parts bytes) (sym about.alike.columns) sends)

-- after an update the session has caught up
pub about_updated : (screen : Grid Colour) (old mid new : Session) (before after : List ℕ) (count : ℕ) →
    Follows screen old → old.claim ≡ None → Follows screen mid → IsKept old mid →
    AppendsCells (div_ceil old.known.width 64) (div_ceil old.known.width 64 * div_ceil old.known.height 64)
    screen old mid before after count →
    IsSettled mid new → Follows screen new
about_updated screen old mid new before after count about unclaimed later kept cells settled = record {
  whole = later.whole;
  alike = rw (settled.known) later.alike;
  caught_up = rw (settled.known, settled.area, settled.setting.format, settled.marks)
      (caught_settled screen mid.known mid.area mid.format mid.marks mid.alike later.caught_up
      (λ x y p q asked.
      let p' : x < screen.width = rw (later.alike.columns) p in
      let q' : y < screen.height = rw (later.alike.rows) q in
      let p'' : x < old.known.width = rw (← about.alike.columns) p' in
      let q'' : y < old.known.height = rw (← about.alike.rows) q' in
      let asked' : is_in old.area.asked x y ≡ true = rw (kept.area) at asked in
      rw (kept.setting.format)
      (cells.sent.answered x y (p', q') (all_cells old.known.width old.known.height x y p'' q'') asked')));
  claimed = nothing_claimed screen new.known new.format new.claim (settled.claim ∙ (kept.claim ∙ unclaimed));
}

no_parts : (parts : List Part) → length parts ≡ 0 → parts ≡ []
no_parts [] e = refl
no_parts (part ∷ parts) e = absurd (omega arith)

-- ---- room

-- where no room is needed no update is due
pub nothing_due : (screen : Grid Colour) (session : Session) → Follows screen session →
    IsEnough session (div_ceil session.known.width 64)
    (div_ceil session.known.width 64 * div_ceil session.known.height 64) 0 →
    IsDue (state_of screen session) → ⊥
nothing_due screen session about enough due =
    let wide : due.x < session.known.width = rw (← about.alike.columns) due.is_place.0 in
    let high : due.y < session.known.height = rw (← about.alike.rows) due.is_place.1 in
    let (cell, is) = place_cell session.known.width session.known.height due.x due.y wide high in
    by (may_need session.marks session.area due.x due.y) refl wide high
    (λ here. none_without_room session.known.width session.known.height (div_ceil session.known.width 64)
    (may_need session.marks session.area) session.format enough.cost
    (div_ceil session.known.width 64 * div_ceil session.known.height 64) cell due.x due.y enough.costs enough.sum_is
    (all_cells session.known.width session.known.height due.x due.y wide high) is
    (is.all due.x due.y wide high refl) here)
  where
    by : (may : Bool) → may_need session.marks session.area due.x due.y ≡ may → due.x < session.known.width →
        due.y < session.known.height →
        (may ≡ true → ⊥) → ⊥
    by true e wide high some = some refl
    by false e wide high some = absurd (both_ways (needs_of screen session due.x due.y)
        (quiet_unless screen session due.x due.y about wide high e) due.needs)

-- ---- copies, and then cells

-- the room that was enough still is
pub enough_kept : (old mid : Session) (room : ℕ) → IsKept old mid → IsAlike old.known mid.known →
    IsEnough old (div_ceil old.known.width 64) (div_ceil old.known.width 64 * div_ceil old.known.height 64) room →
    IsEnough mid (div_ceil mid.known.width 64) (div_ceil mid.known.width 64 * div_ceil mid.known.height 64) room
enough_kept old mid room kept alike enough = record {
  cost = enough.cost;
  costs = rw (kept.marks, kept.area, kept.setting.format, ← alike.columns, ← alike.rows) enough.costs;
  sum_is = rw (← alike.columns, ← alike.rows) enough.sum_is;
}

module _ (screen : Grid Colour) (old mid sent : Session) (before middle after : List ℕ) (k n : ℕ)
    (about : Follows screen old) (aware : Follows screen mid) (kept : IsKept old mid) (kept_on : IsKept mid sent)
    (copies : AppendsCopies screen (usable_hints old) old mid (before ++ (0 ∷ 0 ∷ 0 ∷ 0 ∷ [])) middle k)
    (cells : AppendsCells (div_ceil mid.known.width 64) (div_ceil mid.known.width 64 * div_ceil mid.known.height 64)
    screen mid sent middle after n) where
  abbrev s : ServerState
  s = state_of screen old

  sends : Sends (div_ceil screen.width 64) (div_ceil screen.width 64 * div_ceil screen.height 64)
      (record (state_of screen old) { known = mid.known }) sent.known cells.parts cells.bytes
  sends =
      subst (λ (t : ServerState). Sends (div_ceil screen.width 64)
      (div_ceil screen.width 64 * div_ceil screen.height 64) t sent.known cells.parts cells.bytes)
      (state_copied screen old mid kept) (sends_here screen mid sent cells.parts cells.bytes aware cells.sent)

  both_kept : IsKept old sent
  both_kept = kept_then old mid sent kept kept_on

  -- all that was appended
  pub sent_whole : after ≡ before ++ (0 ∷ 0 ∷ 0 ∷ 0 ∷ (copies.bytes ++ cells.bytes))
  sent_whole =
      cells.appended
      ∙ (rw (copies.appended)
      (append_assoc (before ++ (0 ∷ 0 ∷ 0 ∷ 0 ∷ [])) copies.bytes cells.bytes
      ∙ append_assoc before (0 ∷ 0 ∷ 0 ∷ 0 ∷ []) (copies.bytes ++ cells.bytes)))

  -- where nothing was copied, the cells are those of what was known
  sends_alone : (moves : List Move) → Copies (state_of screen old) moves [] mid.known copies.bytes →
      Sends (div_ceil screen.width 64) (div_ceil screen.width 64 * div_ceil screen.height 64) (state_of screen old)
      sent.known cells.parts cells.bytes
  sends_alone moves taken =
      subst (λ (g : Grid (Option ℕ)). Sends (div_ceil screen.width 64) (div_ceil screen.width 64
      * div_ceil screen.height 64) (record (state_of screen old) { known = g }) sent.known cells.parts cells.bytes)
      (none_copied (state_of screen old) moves mid.known copies.bytes taken) sends

  due_by : (moves : List Move) (list : List Part) → Copies (state_of screen old) moves list mid.known copies.bytes →
      (length list + length cells.parts ≡ 0 → ⊥) → IsDue (state_of screen old)
  due_by moves [] taken some =
      sent_due (div_ceil screen.width 64) (div_ceil screen.width 64 * div_ceil screen.height 64) (state_of screen old)
      sent.known cells.parts cells.bytes refl
      (λ none. some (omega (arith, none))) (sends_alone moves taken)
  due_by moves (copy ∷ list) taken some = copied_due (state_of screen old) moves (copy ∷ list) mid.known copies.bytes
      refl (λ none. omega (arith, none)) taken

  -- where rectangles were sent the update is done
  pub updated : (new : Session) (last : List ℕ) → (k + n ≡ 0 → ⊥) → IsCounted (length before) (k + n) after last →
      IsSettled sent new → is_ready old.progress ≡ true → HasComposed screen old new before last
  updated new last some counts settled ready =
      let (head, spelled, is) = counts before (copies.bytes ++ cells.bytes) refl sent_whole in
      let total : k + n ≡ length (copies.copies ++ cells.parts) =
      rw (length-append copies.copies cells.parts) (omega (arith, copies.count_is, cells.count_is)) in
      let head_is : SpellsUpdate (length (copies.copies ++ cells.parts)) head =
      subst (λ (m : ℕ). SpellsUpdate m head) total spelled in
      let made : (c : Composes (state_of screen old) (state_of screen new) (head ++ (copies.bytes ++ cells.bytes))
      copies.copies cells.parts) × (c.moves ≡ copies.moves) =
      subst (λ (t : ServerState). (c : Composes (state_of screen old) t (head ++ (copies.bytes ++ cells.bytes))
      copies.copies cells.parts) × (c.moves ≡ copies.moves))
      (sym (state_settled screen old sent new both_kept settled))
      (composes (state_of screen old) copies.moves copies.copies cells.parts mid.known sent.known
      head copies.bytes cells.bytes
      old.alike.area_is (old.alike.area_wide ∙ sym about.alike.columns) (old.alike.area_high ∙ sym about.alike.rows)
      copies.taken sends head_is) in
      let whole_way = setting_then old sent new both_kept.setting settled.setting in
      record {
        ready = ready;
        update = record {
          due = due_by copies.moves copies.copies copies.taken
              (λ none. some (omega (arith, none, copies.count_is, cells.count_is)));
          bytes = head ++ (copies.bytes ++ cells.bytes);
          copies = copies.copies;
          blocks = cells.parts;
          appended = is;
          composes = made.0;
          used = subst (λ (moves : List Move). AreUsed (state_of screen old)
              (usable (state_of screen old) old.hints.items) moves) (sym made.1)
              (used_all (state_of screen old) old.hints.items copies.moves copies.used);
        };
        hello = whole_way.hello;
        progress = whole_way.progress;
        text_limit = whole_way.text_limit;
        hints = settled.hints;
      }

  -- where none was sent nothing has changed
  pub stayed : (last : List ℕ) → k + n ≡ 0 → last ≡ before → StaysIdle screen old sent before last
  stayed last none same =
      let no_copies : copies.copies ≡ [] = no_parts copies.copies (omega (arith, none, copies.count_is)) in
      let empty : cells.parts ≡ [] = no_parts cells.parts (omega (arith, none, cells.count_is)) in
      let alone : Copies (state_of screen old) copies.moves [] mid.known copies.bytes =
      subst (λ (list : List Part). Copies (state_of screen old) copies.moves list mid.known copies.bytes)
      no_copies copies.taken in
      let quiet : Sends (div_ceil screen.width 64) (div_ceil screen.width 64 * div_ceil screen.height 64)
      (state_of screen old) sent.known [] cells.bytes =
      subst (λ (parts : List Part). Sends (div_ceil screen.width 64)
      (div_ceil screen.width 64 * div_ceil screen.height 64) (state_of screen old) sent.known parts cells.bytes)
      empty (sends_alone copies.moves alone) in
      record {
        not_due = λ ready. idle_not_due (state_of screen old) sent.known cells.bytes quiet;
        appended = same;
        same = record { setting = both_kept.setting; known = quiet.idle refl; area = both_kept.area };
        hints = both_kept.hints;
      }

-- ---- marks

-- marks that were made before are no part of what a session is
pub composed_same : (screen : Grid Colour) (old mid new : Session) (before after : List ℕ) →
    IsSame old mid → mid.hints ≡ old.hints →
    HasComposed screen mid new before after → HasComposed screen old new before after
composed_same screen old mid new before after same hints done =
    record {
      ready = rw (← same.setting.progress) done.ready;
      update = subst (λ (kept : Buffer Hint).
          IsUpdate (state_of screen old) (state_of screen new) kept.items before after) hints
          (subst (λ (t : ServerState). IsUpdate t (state_of screen new) mid.hints.items before after)
          (state_same screen old mid same) done.update);
      hello = done.hello ∙ same.setting.hello;
      progress = done.progress ∙ same.setting.progress;
      text_limit = done.text_limit ∙ same.setting.text_limit;
      hints = done.hints;
    }
