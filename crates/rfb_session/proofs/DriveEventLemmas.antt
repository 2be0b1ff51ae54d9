-- What comes of the rig at each event, and what a turn runs of it.
use Rattle.std.proofs.Common.{◌≡◌, ◌≢◌, ◌∙◌, ◌+◌, ℕ, zero, suc, List, [], ◌∷◌, ◌++◌, Bool, true, false, Option}
use Rattle.std.proofs.Common.{Some, None, refl, sym, ap, inl, inr, arith, take, drop, append_assoc, append-nil}
use Rattle.std.proofs.lemmas.Bool.Decides.{nat_tests}
use Rattle.std.proofs.lemmas.List.{take-append-drop, take_all}
use Rattle.std.specs.Prelude.{is_some, ◌⊎◌, ◌==◌}
use Rattle.rfb_session.specs.declared.drive.driver.Driver.{Driver}
use Rattle.rfb_session.specs.declared.drive.driver.input.Input.{Input}
use Rattle.rfb_session.specs.declared.drive.driver.outcome.DriveOutcome.{DriveOutcome}
use Rattle.rfb_session.specs.declared.drive.driver.outcome.DriveOutcome.TheVariants as How
use Rattle.rfb_session.specs.doors.Events.{Received, came_by}
use Rattle.rfb_session.specs.drive.driver.DriveHistory.{NextText, NoText, RunsTexts, texts_joined}
use Rattle.rfb_session.specs.drive.driver.Driver.{KeepsRig, ends}
use Rattle.rfb_session.specs.drive.driver.Input.{taken}
use Rattle.rfb_session.specs.drive.driver.Rigs.{Rigging}
use Rattle.rfb_session.specs.drive.driver.LineRun.{LastLine, LongLine, NextLine, NoLine, RunsLines}
use Rattle.rfb_session.specs.drive.driver.Steps.{Added, Adds, Dropped, EndsDoor, FailsDoor, HearsAt}
use Rattle.rfb_session.specs.drive.driver.Steps.{NoRoomToAdd, WritesDoor}
use Rattle.rfb_session.proofs.DriverLineLemmas.{ended_by, line_stays, line_taken, long_ends}
use Rattle.rfb_session.proofs.DriverStepLemmas.{finishes_if_keeps, hears_keeps, loses_keeps}

pub true_false : true ≡ false → ⊥
true_false e = cc e

pub some_ended : (o : Option DriveOutcome) → o ≢ None → is_some o ≡ true
some_ended None none = absurd (none refl)
some_ended (Some how) none = refl

module _ {R : Type 0} where
  -- all goes on
  abbrev pub GoesOnYet : Driver R → Type 0
  GoesOnYet driver = is_some driver.outcome ≡ false

  pub goes : (driver : Driver R) → driver.outcome ≡ None → GoesOnYet driver
  goes driver none = rw none refl

  -- what goes on has not ended before
  pub went : (old new : Driver R) → (is_some old.outcome ≡ true → is_some new.outcome ≡ true) → GoesOnYet new →
      GoesOnYet old
  went old new stays on = by (is_some old.outcome) refl
    where
      by : (b : Bool) → is_some old.outcome ≡ b → is_some old.outcome ≡ false
      by false is = is
      by true is = absurd (true_false (sym (stays is) ∙ on))

-- ---- texts

pub joined_both : (a b : List (List ℕ)) → texts_joined (a ++ b) ≡ texts_joined a ++ texts_joined b
joined_both [] b = refl
joined_both (text ∷ a) b =
    ap (λ (l : List ℕ). text ++ l) (joined_both a b) ∙ sym (append_assoc text (texts_joined a) (texts_joined b))

cut_at : (n : ℕ) (l : List ℕ) → l ≡ take n l ++ drop n l
cut_at n l = sym (take-append-drop n l)

-- ---- one turn

module _ {R : Type 0} (steps : Rigging R) (now : ℕ) where
  -- the lines that were run, and what they left
  pub record Ran (first new : Driver R) : Type 0 where
    pub texts : List (List ℕ)
    pub runs : RunsTexts steps now first texts new
    pub left : first.input.waiting ≡ texts_joined texts ++ new.input.waiting

  ran_more : (first old new : Driver R) (count : ℕ) → Ran first old → (new.input ≡ taken count old.input) →
      ((texts : List (List ℕ)) → RunsTexts steps now first texts old →
      RunsTexts steps now first (texts ++ (take (count + 1) old.input.waiting ∷ [])) new) → Ran first new
  ran_more first old new count ran is more =
      let text = take (count + 1) old.input.waiting in
      let rest = drop (count + 1) old.input.waiting in
      let next : texts_joined (ran.texts ++ text ∷ []) ≡ texts_joined ran.texts ++ text =
      joined_both ran.texts (text ∷ []) ∙ ap (λ (l : List ℕ). texts_joined ran.texts ++ l) (append-nil text) in
      let waits : new.input.waiting ≡ rest = ap (λ (input : Input). input.waiting) is in
      record {
        texts = ran.texts ++ text ∷ [];
        runs = more ran.texts ran.runs;
        left = ran.left ∙ ap (λ (l : List ℕ). texts_joined ran.texts ++ l) (cut_at (count + 1) old.input.waiting)
            ∙ sym (append_assoc (texts_joined ran.texts) text rest)
            ∙ ap (λ (l : List ℕ). l ++ rest) (sym next)
            ∙ ap (λ (l : List ℕ). texts_joined (ran.texts ++ text ∷ []) ++ l) (sym waits);
      }

  -- as long as all goes on
  pub lines_ran : (first new : Driver R) → RunsLines steps now first new → GoesOnYet new → Ran first new
  lines_ran first new NoLine on = record { texts = []; runs = NoText; left = refl }
  lines_ran first new (NextLine {old = old} count before may line runs) on =
      elim (line_taken steps count now old new runs) [
        | inl is ↦
            ran_more first old new count
            (lines_ran first old before (went old new (line_stays steps count now old new runs) on)) is
            (λ texts so_far. NextText count so_far may line runs)
        | inr ended ↦ absurd (true_false (sym ended ∙ on))
      ]
  lines_ran first new (LongLine {old = old} before may long does) on =
      absurd (true_false (sym (long_ends old new does) ∙ on))
  lines_ran first new (LastLine {old = old} before may none ended is) on =
      absurd (true_false (sym (ended_by How.Done old new is) ∙ on))

-- ---- one event

decide : (a b : ℕ) → (a ≡ b) ⊎ (a ≢ b)
decide zero zero = inl refl
decide zero (suc b) = inr (λ is. omega (arith, is))
decide (suc a) zero = inr (λ is. omega (arith, is))
decide (suc a) (suc b) = elim (decide a b) [
  | inl is ↦ inl (omega (arith, is))
  | inr other ↦ inr (λ is. other (omega (arith, is)))
]

not_one : (d : ℕ) → (1 == suc (suc d)) ≡ false
not_one d = grind (arith, nat_tests)

module _ {R : Type 0} where
  -- what came waits too; and what has ended stays so
  pub record Comes (old : Driver R) (more : List ℕ) (new : Driver R) : Type 0 where
    pub waits : GoesOnYet new → new.input.waiting ≡ old.input.waiting ++ more
    pub stays : is_some old.outcome ≡ true → is_some new.outcome ≡ true

  -- nothing came
  none_came : (old new : Driver R) → new.input.waiting ≡ old.input.waiting →
      (is_some old.outcome ≡ true → is_some new.outcome ≡ true) → Comes old [] new
  none_came old new is stays =
      record { waits = λ on. is ∙ sym (append-nil old.input.waiting); stays = stays }

  by_rig : (old mid new : Driver R) → KeepsRig old mid → new.input ≡ mid.input → new.outcome ≡ mid.outcome →
      Comes old [] new
  by_rig old mid new keeps input ended =
      none_came old new (ap (λ (i : Input). i.waiting) (input ∙ keeps.input))
      (λ was. ap (λ (o : Option DriveOutcome). is_some o) ended ∙ keeps.stays was)

  by_same : (old new : Driver R) → new ≡ old → Comes old [] new
  by_same old new is =
      none_came old new (ap (λ (d : Driver R). d.input.waiting) is)
      (λ was. ap (λ (d : Driver R). is_some d.outcome) is ∙ was)

  -- all has ended, so nothing is said of what waits
  by_end : (old new : Driver R) (more : List ℕ) → is_some new.outcome ≡ true → Comes old more new
  by_end old new more ended =
      record { waits = λ on. absurd (true_false (sym ended ∙ on)); stays = λ was. ended }

  pub hears_come : (old new : Driver R) (door : ℕ) (part : List ℕ) → HearsAt old door part new →
      Comes old (came_by 1 (Received door part)) new
  hears_come old new zero part hears =
      by_rig old hears.mid new (hears_keeps old hears.bytes hears.used hears.mid (hears.hears.server refl))
      (ap (λ (d : Driver R). d.input) hears.room) (ap (λ (d : Driver R). d.outcome) hears.room)
  hears_come old new (suc zero) part hears = by (hears.hears.orders refl).0
    where
      all : part ≡ hears.bytes
      all = hears.part_is ∙ take_all hears.used hears.bytes (omega (arith, (hears.hears.orders refl).1))

      ended_too : is_some hears.mid.outcome ≡ true → is_some new.outcome ≡ true
      ended_too was = ap (λ (d : Driver R). is_some d.outcome) hears.room ∙ was

      by : Adds hears.bytes old hears.mid → Comes old part new
      by (Dropped ended is) =
          by_end old new part
          (ended_too (ap (λ (d : Driver R). is_some d.outcome) is ∙ some_ended old.outcome ended))
      by (Added is) = record {
        waits = λ on.
            ap (λ (d : Driver R). d.input.waiting) hears.room ∙ ap (λ (d : Driver R). d.input.waiting) is
            ∙ ap (λ (l : List ℕ). old.input.waiting ++ l) (sym all);
        stays = λ was. ended_too (ap (λ (d : Driver R). is_some d.outcome) is ∙ was);
      }
      by (NoRoomToAdd is) = by_end old new part (ended_too (ended_by How.NoMemory old hears.mid is))
  hears_come old new (suc (suc door)) part hears =
      let same = ap (λ (d : Driver R). d) hears.room in
      let mid = hears.hears.other (omega arith) in
      rw (not_one door) (none_came old new
      (ap (λ (d : Driver R). d.input.waiting) same ∙ ap (λ (d : Driver R). d.input.waiting) mid)
      (λ was. ap (λ (d : Driver R). is_some d.outcome) same ∙ ap (λ (d : Driver R). is_some d.outcome) mid ∙ was))

  pub ends_come : (old new : Driver R) (door : ℕ) → EndsDoor old door new → Comes old [] new
  ends_come old new zero does =
      let lost = does.server refl in
      by_rig old lost.0 new (loses_keeps old _ lost.0 lost.1) (ap (λ (d : Driver R). d.input) lost.2)
      (ap (λ (d : Driver R). d.outcome) lost.2)
  ends_come old new (suc zero) does =
      none_came old new (ap (λ (d : Driver R). d.input.waiting) (does.orders refl))
      (λ was. ap (λ (d : Driver R). is_some d.outcome) (does.orders refl) ∙ was)
  ends_come old new (suc (suc door)) does = by_same old new (does.other (omega arith))

  pub fails_come : (old new : Driver R) (door : ℕ) → FailsDoor old door new → Comes old [] new
  fails_come old new door does = elim (decide door 0) [
    | inl server ↦
        let lost = does.server server in
        by_rig old lost.0 new (loses_keeps old _ lost.0 lost.1) (ap (λ (d : Driver R). d.input) lost.2)
        (ap (λ (d : Driver R). d.outcome) lost.2)
    | inr no_server ↦ elim (decide door 1) [
      | inl orders ↦
          let lost = does.orders orders in
          by_end old new []
          (ap (λ (d : Driver R). is_some d.outcome) lost.2 ∙ ended_by How.Device old lost.0 lost.1)
      | inr no_orders ↦ elim (decide door 9) [
        | inl lines ↦
            by_end old new []
            (ap (λ (d : Driver R). is_some d.outcome) (does.lines lines)
            ∙ ended_by How.Device old (ends How.Device old) refl)
        | inr no_lines ↦ elim (decide door 10) [
          | inl notes ↦
              none_came old new (ap (λ (d : Driver R). d.input.waiting) (does.notes notes))
              (λ was. ap (λ (d : Driver R). is_some d.outcome) (does.notes notes) ∙ was)
          | inr no_notes ↦ by_same old new (does.other no_server no_orders no_lines no_notes)
        ]
      ]
    ]
  ]

  pub writes_come : (old new : Driver R) (door : ℕ) (bytes : List ℕ) → WritesDoor old door bytes new → Comes old [] new
  writes_come old new door bytes does = elim (decide door 0) [
    | inl server ↦
        let keeps = finishes_if_keeps _ _ new (does.server server) in
        none_came old new (ap (λ (i : Input). i.waiting) keeps.input) keeps.stays
    | inr no_server ↦ elim (decide door 9) [
      | inl lines ↦
          none_came old new (ap (λ (d : Driver R). d.input.waiting) (does.lines lines))
          (λ was. ap (λ (d : Driver R). is_some d.outcome) (does.lines lines) ∙ was)
      | inr no_lines ↦ elim (decide door 10) [
        | inl notes ↦
            none_came old new (ap (λ (d : Driver R). d.input.waiting) (does.notes notes))
            (λ was. ap (λ (d : Driver R). is_some d.outcome) (does.notes notes) ∙ was)
        | inr no_notes ↦ by_same old new (does.other no_server no_lines no_notes)
      ]
    ]
  ]
