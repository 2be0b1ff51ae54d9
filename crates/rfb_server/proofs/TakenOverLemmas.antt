-- What a session takes over of its twin's update, and what its viewer is sent by that.
use Rattle.std.proofs.Common.{◌≡◌, ℕ, ◌<◌, ◌+◌, ◌*◌, ◌&&◌, ◌||◌, Bool}
use Rattle.std.proofs.Common.{true, false, not, List, [], length, Option, Some, None}
use Rattle.std.proofs.Common.{ap, sym, subst, ◌∙◌, refl, arith, inl, inr, ◌==◌}
use Rattle.std.specs.Int.{div_ceil}
use Rattle.std.proofs.lemmas.Bool.{cases_eq, cases_lt, both_ways, eqb-true}
use Rattle.std.proofs.lemmas.List.{nil_from_length}
use Rattle.rfb_pixel.specs.declared.colour.Colour.{Colour}
use Rattle.rfb_pixel.specs.Format.{PixelFormat}
use Rattle.rfb_picture.specs.declared.rect.Rect.{Rect}
use Rattle.rfb_picture.specs.Rect.{contains}
use Rattle.rfb_picture.specs.Grid.{Grid, Holds, at_or}
use Rattle.rfb_picture.specs.Box.{is_in}
use Rattle.rfb_picture.specs.Area.{Places, asked_at, whole_at, nothing}
use Rattle.rfb_picture.proofs.GridLaws.{contains_true}
use Rattle.rfb_server.specs.declared.session.Session.{Session}
use Rattle.rfb_server.specs.Cells.{cell_of, IsCell}
use Rattle.rfb_server.specs.KnownScreen.{Follows, IsCaughtUp}
use Rattle.rfb_server.specs.Record.{AreKnown}
use Rattle.rfb_server.specs.Request.{wanted_at, differs}
use Rattle.rfb_server.specs.declared.session.update.quiet.Quiet.{Quiet}
use Rattle.rfb_server.specs.update.Needs.{IsQuiet, is_quiet}
use Rattle.rfb_server.specs.update.Sends.{NoneMayNeed, may_need, IsKept}
use Rattle.rfb_server.specs.session.Twins.{IsKnownAlike, ShowsAll, TakesSome, Agree}
use Rattle.rfb_hello.specs.declared.server_hello.ServerHello.{ServerHello}
use Rattle.rfb_wire.specs.stream.Sequel.{Second}
use Rattle.rfb_server.specs.declared.hint.Hint.{Hint}
use Rattle.rfb_server.specs.declared.session.input.progress.Progress.{Progress}
use Rattle.rfb_server.specs.declared.session.input.progress.Progress.TheVariants.{Handshake, Head, Encodings, CutText}
use Rattle.rfb_server.specs.declared.session.input.progress.Progress.TheVariants.{Failed}
use Rattle.rfb_server.specs.Hints.{hints_in}
use Rattle.rfb_server.specs.Model.{Notes, SessionStandsFor, session_serving}
use Rattle.rfb_server.specs.declared.fault.ServerFault.{ServerFault}
use Rattle.rfb_server.specs.declared.late.entrance.Entrance.{Entrance}
use Rattle.rfb_server.specs.Late.{entered}
use Rattle.rfb_server.specs.session.Ended.{progress_at}
use Rattle.rfb_server.specs.Progress.{is_ready, is_idle, fault_in, ProgressStandsFor, IsHeadBegun}
use Rattle.rfb_server.specs.Server.{Serving, ServerState}
use Rattle.rfb_server.specs.Twins.{AreTwins, HasSentTwin}
use Rattle.rfb_server.specs.UpdateCall.{HasSent, IsUpdate, SendsUpdate}
use Rattle.rfb_server.specs.session.Sessions.{KeepsSetting}
use Rattle.rfb_server.specs.session.Twins.{HasTakenOver}
use Rattle.rfb_server.specs.update.Sends.{state_of}
use Rattle.rfb_server.proofs.ComposesLemmas.{all_cells}
use Rattle.rfb_server.proofs.KeptLemmas.{setting_then}
use Rattle.rfb_server.proofs.RecordLemmas.{same_values}
use Rattle.rfb_server.proofs.ServerLaws.{same_notes}
use Rattle.rfb_server.proofs.UpdatingLemmas.{same_state, state_is, ready_point, stands_anew, sent_update}

-- ---- cell by cell

-- of a record that shows all of a screen each place is known
pub shown_known : (screen : Grid Colour) (form : PixelFormat) (known : Grid (Option ℕ)) (cell : Rect) →
    Holds known cell → ShowsAll screen form known → AreKnown known cell
shown_known screen form known cell held shown = λ x y e.
    let (a, b, c, d) = contains_true cell x y e in (
      wanted_at screen form x y,
      shown x y (omega (arith, b, held.0)) (omega (arith, d, held.1)),
    )

-- what two steps take is taken by both
pub some_more : (sent first mid last : Grid (Option ℕ)) → mid.width ≡ first.width →
    mid.height ≡ first.height →
    TakesSome sent first mid → TakesSome sent mid last → TakesSome sent first last
some_more sent first mid last wide high before more = λ x y p q.
    elim (more x y (rw wide p) (rw high q)) [
      | inl same ↦ elim (before x y p q) [
        | inl kept ↦ inl (same ∙ kept)
        | inr taken ↦ inr (same ∙ taken)
      ]
      | inr taken ↦ inr taken
    ]

-- the marked places of the first cells have what is sent
abbrev pub HasTakenBelow : Session → Grid (Option ℕ) → Grid (Option ℕ) → ℕ → Type 0
HasTakenBelow first sent now n = (x y : ℕ) → x < first.known.width → y < first.known.height →
    cell_of (div_ceil first.known.width 64) x y < n → is_in first.marks x y ≡ true → IsKnownAlike now sent x y

both_are : (a b : Bool) → a ≡ true → b ≡ true → (a && b) ≡ true
both_are a b e f = rw (e, f) refl

-- so it is of one cell more, where no other is marked before it
pub taken_more : (first mid last : Session) (sent : Grid (Option ℕ)) (n index : ℕ) (cell : Rect) →
    ((x y : ℕ) → x < first.known.width → y < first.known.height → asked_at first.area x y ≡ true) →
    IsKept first mid → mid.known.width ≡ first.known.width → mid.known.height ≡ first.known.height →
    IsCell first.known.width first.known.height (div_ceil first.known.width 64) index cell →
    NoneMayNeed mid n index → TakesSome sent mid.known last.known →
    ((x y : ℕ) → contains cell x y ≡ true → is_in mid.marks x y ≡ true →
    IsKnownAlike last.known sent x y) →
    HasTakenBelow first sent mid.known n → HasTakenBelow first sent last.known (index + 1)
taken_more first mid last sent n index cell asked kept wide high is none some here done = λ x y p q l m.
    elim (cases_eq (cell_of (div_ceil first.known.width 64) x y) index) [
      | inl same ↦ here x y (is.all x y p q same) (rw (kept.marks) m)
      | inr apart ↦ elim (cases_lt (cell_of (div_ceil first.known.width 64) x y) n) [
        | inl less ↦ elim (some x y (rw wide p) (rw high q)) [
          | inl as_it_was ↦ as_it_was ∙ done x y p q less m
          | inr taken ↦ taken
        ]
        | inr more ↦ absurd (both_ways (may_need mid.marks mid.area x y)
            (none x y (rw wide p) (rw high q) (rw wide more) (rw wide (omega (arith, l, apart))))
            (both_are (is_in mid.marks x y) (asked_at mid.area x y) (rw (kept.marks) m)
            (rw (kept.area) (asked x y p q))))
      ]
    ]

-- then each place is right
pub taken_all : (screen : Grid Colour) (first mid : Session) (sent : Grid (Option ℕ)) (n : ℕ) →
    Follows screen first →
    ((x y : ℕ) → x < first.known.width → y < first.known.height → asked_at first.area x y ≡ true) →
    IsKept first mid → mid.known.width ≡ first.known.width → mid.known.height ≡ first.known.height →
    sent.width ≡ first.known.width → sent.height ≡ first.known.height → ShowsAll screen first.format sent →
    NoneMayNeed mid n (div_ceil mid.known.width 64 * div_ceil mid.known.height 64) →
    TakesSome sent first.known mid.known → HasTakenBelow first sent mid.known n →
    ShowsAll screen first.format mid.known
taken_all screen first mid sent n about asked kept wide high wide_too high_too shown none some done = λ x y p q.
    let p' : x < first.known.width = rw (← wide) p in
    let q' : y < first.known.height = rw (← high) q in
    let right : at_or sent x y None ≡ Some (wanted_at screen first.format x y) =
    shown x y (rw wide_too p') (rw high_too q') in
    by x y p q p' q' right (is_in first.marks x y) refl
  where
    by : (x y : ℕ) → x < mid.known.width → y < mid.known.height → x < first.known.width →
        y < first.known.height →
        at_or sent x y None ≡ Some (wanted_at screen first.format x y) → (mark : Bool) →
        is_in first.marks x y ≡ mark →
        at_or mid.known x y None ≡ Some (wanted_at screen first.format x y)
    by x y p q p' q' right true m =
        elim (cases_lt (cell_of (div_ceil first.known.width 64) x y) n) [
          | inl less ↦ done x y p' q' less m ∙ right
          | inr more ↦ absurd (both_ways (may_need mid.marks mid.area x y)
              (none x y p q (rw wide more) (all_cells mid.known.width mid.known.height x y p q))
              (both_are (is_in mid.marks x y) (asked_at mid.area x y) (rw (kept.marks) m)
              (rw (kept.area) (asked x y p' q'))))
        ]
    by x y p q p' q' right false m =
        elim (some x y p' q') [
          | inl same ↦ same ∙ about.caught_up.right x y (rw (first.alike.marks_wide) p')
              (rw (first.alike.marks_high) q') m
          | inr taken ↦ taken ∙ right
        ]

-- a place that is asked and needs no sending has the wanted pixel
right_of : (asked whole : Bool) (wanted : ℕ) (known : Option ℕ) → asked ≡ true →
    (asked && (whole || differs wanted known)) ≡ false → known ≡ Some wanted
right_of false whole wanted known e f = absurd cc
right_of true true wanted known e f = absurd cc
right_of true false wanted None e f = absurd cc
right_of true false wanted (Some old) e f =
    ap (λ (pixel : ℕ). Some pixel) (eqb-true old wanted (not_false (old == wanted) f))
  where
    not_false : (b : Bool) → not b ≡ false → b ≡ true
    not_false true e = refl
    not_false false e = absurd cc

-- so it has what is sent
pub quiet_taken : (screen : Grid Colour) (first last : Session) (sent : Grid (Option ℕ)) (quiet : Quiet)
    (x y : ℕ) →
    x < first.known.width → y < first.known.height → asked_at first.area x y ≡ true →
    IsQuiet screen first quiet → is_quiet quiet x y ≡ true →
    at_or sent x y None ≡ Some (wanted_at screen first.format x y) →
    TakesSome sent first.known last.known → IsKnownAlike last.known sent x y
quiet_taken screen first last sent quiet x y p q asked none here right some =
    elim (some x y p q) [
      | inl same ↦ same ∙ (right_of (asked_at first.area x y) (whole_at first.area x y)
          (wanted_at screen first.format x y) (at_or first.known x y None) asked (none x y p q here) ∙ sym right)
      | inr taken ↦ taken
    ]

-- so the session has caught up
pub caught_by : (screen : Grid Colour) (first mid : Session) → Follows screen first → IsKept first mid →
    ShowsAll screen first.format mid.known → IsCaughtUp screen mid.known mid.area mid.format mid.marks
caught_by screen first mid about kept shown = record {
  right = λ x y p q e. rw (kept.setting.format)
      (shown x y (rw (← mid.alike.marks_wide) p) (rw (← mid.alike.marks_high) q));
  not_whole = λ x y p q e.
      rw (kept.area) (about.caught_up.not_whole x y (rw (← kept.marks) p) (rw (← kept.marks) q)
      (rw (← kept.marks) e));
}

-- what is taken over after what came by copies
pub taken_after : (screen : Grid Colour) (first mid last : Session) → KeepsSetting first mid →
    mid.known.width ≡ first.known.width → mid.known.height ≡ first.known.height → mid.area ≡ first.area →
    HasTakenOver screen mid last → HasTakenOver screen first last
taken_after screen first mid last setting wide high area taken = record {
  setting = setting_then first mid last setting taken.setting;
  width = taken.width ∙ wide;
  height = taken.height ∙ high;
  shown = rw (← setting.format) taken.shown;
  area = rw (taken.area, area) refl;
  hints = taken.hints;
}

-- ---- what twins are

none_of : (a b c d : Bool) → ((a && b) || (c && d)) ≡ false → b ≡ true → d ≡ true →
    (a ≡ false) × (c ≡ false)
none_of true true c d e f g = absurd cc
none_of true false c d e f g = absurd cc
none_of false b true true e f g = absurd cc
none_of false b true false e f g = absurd cc
none_of false b false d e f g = (refl, refl)

-- what is not marked is right in both, so where they agree on what is marked they know the same
pub twins_know : (screen : Grid Colour) (one other : Session) → Follows screen one → Follows screen other →
    one.format ≡ other.format → one.area ≡ other.area →
    ((x y : ℕ) → x < one.known.width → y < one.known.height → asked_at one.area x y ≡ true) →
    Agree one other →
    one.known ≡ other.known
twins_know screen one other about about_too form area asked agree =
    let wide : one.known.width ≡ other.known.width = sym about.alike.columns ∙ about_too.alike.columns in
    let high : one.known.height ≡ other.known.height = sym about.alike.rows ∙ about_too.alike.rows in
    same_values None one.known other.known one.alike.known_whole other.alike.known_whole wide high (λ x y p q.
    by x y p q (rw (← wide) p) (rw (← high) q)
    (may_need one.marks one.area x y || may_need other.marks other.area x y) refl)
  where
    by : (x y : ℕ) → x < one.known.width → y < one.known.height → x < other.known.width →
        y < other.known.height →
        (some : Bool) → (may_need one.marks one.area x y || may_need other.marks other.area x y) ≡ some →
        IsKnownAlike one.known other.known x y
    by x y p q p' q' true e = agree x y p q e
    by x y p q p' q' false e =
        let here : asked_at one.area x y ≡ true = asked x y p q in
        let (a, b) = none_of (is_in one.marks x y) (asked_at one.area x y) (is_in other.marks x y)
        (asked_at other.area x y) e here (rw (← area) here) in
        about.caught_up.right x y (rw (one.alike.marks_wide) p) (rw (one.alike.marks_high) q) a
        ∙ (ap (λ (f : PixelFormat). Some (wanted_at screen f x y)) form
        ∙ sym (about_too.caught_up.right x y (rw (other.alike.marks_wide) p') (rw (other.alike.marks_high) q') b))

pub twins : (screen : Grid Colour) (session other : Session) → Follows screen session → Follows screen other →
    is_ready session.progress ≡ true → is_idle other.progress ≡ true →
    session.hints.items ≡ other.hints.items →
    session.format ≡ other.format → session.encodings ≡ other.encodings →
    session.area ≡ other.area →
    ((x y : ℕ) → x < session.known.width → y < session.known.height → asked_at session.area x y ≡ true) →
    Agree session other → AreTwins other session
twins screen session other about about_too ready idle hints form list area asked agree = record {
  notes_are = same_notes session.known other.known session.area other.area session.format other.format
      session.encodings other.encodings (twins_know screen session other about about_too form area asked agree)
      area form list;
  idle = idle;
  ready = ready;
  hints_are = hints;
  all_asked = asked;
}

-- ---- what a twin's update leaves

-- a session between two messages stands for that
idle_stands : (serving : Serving) (hello : ServerHello) (progress : Progress) → is_idle progress ≡ true →
    ProgressStandsFor serving hello progress (Second tt) []
idle_stands serving hello Handshake e = absurd cc
idle_stands serving hello (Head bytes) e =
    let none : bytes.items ≡ [] = nil_from_length bytes.items (eqb-true (length bytes.items) 0 e) in
    subst (λ (items : List ℕ). ([] ≡ items) × IsHeadBegun items) (sym none) (refl, tt)
idle_stands serving hello (Encodings left number list) e = absurd cc
idle_stands serving hello (CutText text_length left kept) e = absurd cc
idle_stands serving hello (Failed fault) e = absurd cc

idle_session : (screen : Grid Colour) (session : Session) → is_idle session.progress ≡ true →
    SessionStandsFor (session_serving session) screen session (state_of screen session) []
idle_session screen session e = record {
  setup_is = refl;
  limit_is = refl;
  progress_is = idle_stands (session_serving session) session.hello session.progress e;
  screen_is = refl;
  known_is = refl;
  area_is = refl;
  form_is = refl;
  encodings_are = refl;
}

-- all of the screen is known then
pub record LeavesAll (screen : Grid Colour) (session sent : Session) : Type 0 where
  pub width : sent.known.width ≡ session.known.width
  pub height : sent.known.height ≡ session.known.height
  pub shown : ShowsAll screen session.format sent.known

module _ (screen : Grid Colour) (session was sent : Session) (before after : List ℕ)
    (about : Follows screen session) (twin : AreTwins was session)
    (sends : SendsUpdate screen was sent before after) where
  made : HasSent (session_serving was) (state_of screen was) [] (hints_in was) screen sent before after
  made = sends.sent (session_serving was) (state_of screen was) [] (idle_session screen was twin.idle)

  known_is : session.known ≡ was.known
  known_is = ap (λ (n : Notes). n.known) twin.notes_are

  area_is : session.area ≡ was.area
  area_is = ap (λ (n : Notes). n.area) twin.notes_are

  form_is : session.format ≡ was.format
  form_is = ap (λ (n : Notes). n.form) twin.notes_are

  list_is : session.encodings ≡ was.encodings
  list_is = ap (λ (n : Notes). n.encodings) twin.notes_are

  -- both stand for one state
  same_before : state_of screen session ≡ state_of screen was
  same_before = same_state (Second tt) (Second tt) screen screen session.known was.known session.area was.area
      session.format was.format session.encodings was.encodings refl refl known_is area_is form_is list_is

  wide : sent.known.width ≡ session.known.width
  wide = ap (λ (g : Grid (Option ℕ)). g.width) (sym made.stands.known_is)
      ∙ (made.update.composes.same_size.columns ∙ ap (λ (g : Grid (Option ℕ)). g.width) (sym known_is))

  high : sent.known.height ≡ session.known.height
  high = ap (λ (g : Grid (Option ℕ)). g.height) (sym made.stands.known_is)
      ∙ (made.update.composes.same_size.rows ∙ ap (λ (g : Grid (Option ℕ)). g.height) (sym known_is))

  pub leaves_all : LeavesAll screen session sent
  leaves_all = record {
    width = wide;
    height = high;
    shown = λ x y p q.
        let p' : x < session.known.width = rw (← wide) p in
        let q' : y < session.known.height = rw (← high) q in
        let asked : asked_at was.area x y ≡ true = rw (← area_is) (twin.all_asked x y p' q') in
        ap (λ (g : Grid (Option ℕ)). at_or g x y None) (sym made.stands.known_is)
        ∙ (made.update.composes.answered x y (rw (about.alike.columns) p', rw (about.alike.rows) q') asked
        ∙ ap (λ (f : PixelFormat). Some (wanted_at screen f x y)) (sym form_is));
  }

  -- it is past its handshake
  pub sent_ready : is_ready sent.progress ≡ true
  sent_ready = ready_point (session_serving was) sent.hello sent.progress made.resulting.point []
      made.update.composes.same_point made.stands.progress_is

  -- what one that takes it over knows is what the sent one knows
  pub taken_known : (new : Session) → HasTakenOver screen session new → new.known ≡ sent.known
  taken_known new taken =
      same_values None new.known sent.known new.alike.known_whole sent.alike.known_whole
      (taken.width ∙ sym wide) (taken.height ∙ sym high) (λ x y p q. taken.shown x y p q
      ∙ sym (leaves_all.shown x y (rw (wide, ← taken.width) p) (rw (high, ← taken.height) q)))

  -- so one that takes it over is sent that update too
  pub sends_too : (new : Session) → HasTakenOver screen session new → SendsUpdate screen session new before after
  sends_too new taken = record {
    fault_is = ap fault_in taken.setting.progress;
    made_is = rw (taken.setting.hello, taken.setting.text_limit) refl;
    sent = λ serving s prefix stands.
        let is : s ≡ state_of screen was = state_is serving screen session s prefix twin.ready stands
        ∙ same_before in
        let first : IsUpdate (state_of screen was) (state_of screen new) (hints_in was) before after =
        subst (λ (r : ServerState). IsUpdate (state_of screen was) r (hints_in was) before after) result_is
        made.update in
        sent_update serving s prefix (hints_in session) screen new before after
        (subst (λ (h : List Hint). IsUpdate s (state_of screen new) h before after) (sym twin.hints_are)
        (subst (λ (t : ServerState). IsUpdate t (state_of screen new) (hints_in was) before after) (sym is) first))
        (stands_anew serving screen session new s prefix twin.ready taken.setting.hello taken.setting.progress
        taken.setting.text_limit stands);
  }
    where
      known_now : made.resulting.known ≡ new.known
      known_now = made.stands.known_is ∙ sym (taken_known new taken)

      result_is : made.resulting ≡ state_of screen new
      result_is = same_state made.resulting.point
          (Second tt) made.resulting.screen screen made.resulting.known new.known
          made.resulting.area new.area made.resulting.form new.format made.resulting.encodings new.encodings
          made.update.composes.same_point made.stands.screen_is known_now
          (made.update.composes.emptied ∙ (ap (λ (a : Places). nothing a) (sym area_is) ∙ sym taken.area))
          (made.update.composes.same_format ∙ (sym form_is ∙ sym taken.setting.format))
          (made.update.composes.same_encodings ∙ (sym list_is ∙ sym taken.setting.encodings))

-- ---- before the handshake is done

none_ready : (ended : Option ServerFault) → is_ready (progress_at ended) ≡ true → ⊥
none_ready None e = cc
none_ready (Some fault) e = cc

-- one that enters is no twin
pub enters_alone : (was : Session) (entrance : Entrance) → AreTwins was (entered entrance) → ⊥
enters_alone was entrance twin = none_ready entrance.ended twin.ready

-- and was sent no update
pub enters_unsent : (screen : Grid Colour) (session : Session) (entrance : Entrance) → Follows screen session →
    HasSentTwin screen session (entered entrance) → ⊥
enters_unsent screen session entrance about sent =
    none_ready entrance.ended
    (sent_ready screen session sent.was (entered entrance) sent.before sent.after about sent.twins sent.sends)
