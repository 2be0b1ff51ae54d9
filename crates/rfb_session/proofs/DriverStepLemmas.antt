-- What the server does, and what leaves for it, keeps the rig's side as it was.
use Rattle.std.specs.Prelude.{is_some}
use Rattle.std.proofs.Common.{◌≡◌, ◌∙◌, ◌≤◌, ◌+◌, ℕ, zero, suc, List, Bool, true, false, Option, Some, None}
use Rattle.std.proofs.Common.{refl, sym, ap, subst, inl, inr, arith}
use Rattle.std.proofs.lemmas.Bool.Decides.{nat_tests}
use Rattle.rfb_picture.specs.declared.rect.Rect.{Rect}
use Rattle.rfb_picture.specs.Grid.{Grid}
use Rattle.rfb_pixel.specs.declared.colour.Colour.{Colour}
use Rattle.rfb_viewer.specs.Model.{picture_of}
use Rattle.rfb_viewer.specs.declared.event.ViewerEvent.{ViewerEvent}
use Rattle.rfb_viewer.specs.declared.event.ViewerEvent.TheVariants as Said
use Rattle.rfb_session.specs.declared.drive.driver.Driver.{Driver}
use Rattle.rfb_session.specs.declared.drive.driver.Rooms.{Rooms}
use Rattle.rfb_session.specs.declared.drive.driver.outcome.DriveOutcome.{DriveOutcome}
use Rattle.rfb_session.specs.declared.relay.gone.Gone.{Gone}
use Rattle.rfb_session.specs.drive.driver.Driver.{Asked, Asks, BadSize, Changed, Changes, DoneBefore, EndedBefore}
use Rattle.rfb_session.specs.drive.driver.Driver.{EndsWith, FailedAt, Finishes, FinishesIf, GoneNow, HearsDriven}
use Rattle.rfb_session.specs.drive.driver.Driver.{Ignored, KeepsRig, LosesServer, Meets, Met, NoPicture, NoRoom}
use Rattle.rfb_session.specs.drive.driver.Driver.{Readies, ReadyNow, Refused, Sends, ShowsOrChanges, TellsLine}
use Rattle.rfb_session.specs.drive.driver.Driver.{Unchanged, Updates, ends, ends_after, with_note}
use Rattle.rfb_session.specs.drive.driver.Steps.{Added, Adds, Dropped, HearsDoor, NoRoomToAdd, space_at, spent}

module _ {R : Type 0} where
  -- ---- one after the other

  same : (old new : Driver R) → new ≡ old → KeepsRig old new
  same old new is = record {
    rig = ap (λ (d : Driver R). d.rig) is;
    input = ap (λ (d : Driver R). d.input) is;
    rooms = ap (λ (d : Driver R). d.rooms) is;
    stays = λ ended. ap (λ (d : Driver R). is_some d.outcome) is ∙ ended;
  }

  keeps_then : (a b c : Driver R) → KeepsRig a b → KeepsRig b c → KeepsRig a c
  keeps_then a b c first second = record {
    rig = second.rig ∙ first.rig;
    input = second.input ∙ first.input;
    rooms = second.rooms ∙ first.rooms;
    stays = λ ended. second.stays (first.stays ended);
  }

  so : (old mid new : Driver R) → new ≡ mid → KeepsRig old mid → KeepsRig old new
  so old mid new is keeps = keeps_then old mid new keeps (same mid new is)

  -- ---- ends

  pub ends_keeps : (how : DriveOutcome) (old : Driver R) → KeepsRig old (ends how old)
  ends_keeps how old = by old.outcome
    where
      by : (o : Option DriveOutcome) → KeepsRig old (ends_after o how old)
      by None = record { rig = refl; input = refl; rooms = refl; stays = λ was. refl }
      by (Some before) = record { rig = refl; input = refl; rooms = refl; stays = λ was. was }

  pub finishes_keeps : (old new : Driver R) → Finishes old new → KeepsRig old new
  finishes_keeps old new does = elim does [
    | inl is ↦ so old _ new is (record { rig = refl; input = refl; rooms = refl; stays = λ was. was })
    | inr is ↦ so old _ new is (record { rig = refl; input = refl; rooms = refl; stays = λ was. refl })
  ]

  pub finishes_if_keeps : (done : Bool) (old new : Driver R) → FinishesIf done old new → KeepsRig old new
  finishes_if_keeps false old new is = same old new is
  finishes_if_keeps true old new does = finishes_keeps old new does

  pub ends_with_keeps : (how : DriveOutcome) (old new : Driver R) → EndsWith how old new → KeepsRig old new
  ends_with_keeps how old new does =
      let noted = with_note does.0 old in
      so old (ends how noted) new does.1
      (keeps_then old noted (ends how noted)
      (record { rig = refl; input = refl; rooms = refl; stays = λ was. was }) (ends_keeps how noted))

  pub loses_keeps : (old : Driver R) (how : Gone) (new : Driver R) → LosesServer old how new → KeepsRig old new
  loses_keeps old how new (EndedBefore ended is) = same old new is
  loses_keeps old how new (DoneBefore done is) = so old _ new is (ends_keeps _ old)
  loses_keeps old how new (GoneNow undone does) = ends_with_keeps _ old new does

  -- ---- what the server sends

  tells_keeps : (tells : Bool) (line : List ℕ) (old new : Driver R) → TellsLine tells line old new → KeepsRig old new
  tells_keeps false line old new is = same old new is
  tells_keeps true line old new does = elim does [
    | inl is ↦ so old _ new is (record { rig = refl; input = refl; rooms = refl; stays = λ was. was })
    | inr is ↦ so old _ new is (record { rig = refl; input = refl; rooms = refl; stays = λ was. refl })
  ]

  sends_keeps : (bytes : List ℕ) (old new : Driver R) → Sends bytes old new → KeepsRig old new
  sends_keeps bytes old new does = elim does [
    | inl is ↦ so old _ new is (record { rig = refl; input = refl; rooms = refl; stays = λ was. was })
    | inr is ↦ so old _ new is (record { rig = refl; input = refl; rooms = refl; stays = λ was. refl })
  ]

  asks_keeps : (incremental : Bool) (area : Rect) (old new : Driver R) →
      Asks incremental area old new → KeepsRig old new
  asks_keeps incremental area old new (Asked viewer called is) =
      so old _ new is (record { rig = refl; input = refl; rooms = refl; stays = λ was. was })
  asks_keeps incremental area old new (Refused refused is) = same old new is
  asks_keeps incremental area old new (NoRoom is) =
      so old _ new is (record { rig = refl; input = refl; rooms = refl; stays = λ was. refl })

  readies_keeps : (reply : List ℕ) (width height : ℕ) (old new : Driver R) → Readies reply width height old new →
      KeepsRig old new
  readies_keeps reply width height old new (ReadyNow size mid sends asks) =
      keeps_then old mid new (sends_keeps reply old mid sends) (asks_keeps _ _ mid new asks)
  readies_keeps reply width height old new (BadSize size mid sends loses) =
      keeps_then old mid new (sends_keeps reply old mid sends) (loses_keeps mid _ new loses)

  changes_keeps : (old : Driver R) (area : Option Rect) (new : Driver R) → Changes old area new → KeepsRig old new
  changes_keeps old None new (Unchanged is) = same old new is
  changes_keeps old (Some area) new (NoPicture none told tells is) =
      keeps_then old told new (tells_keeps _ _ old told tells)
      (so told _ new is (record { rig = refl; input = refl; rooms = refl; stays = λ was. was }))
  changes_keeps old (Some area) new (Changed told tells task done screen is hears does) =
      keeps_then old told new (tells_keeps _ _ old told tells)
      (keeps_then told _ new (record { rig = refl; input = refl; rooms = refl; stays = λ was. was })
      (finishes_if_keeps done _ new does))

  shows_keeps : (shown : Bool) (whole : Rect) (area : Option Rect) (old new : Driver R) →
      ShowsOrChanges shown whole area old new → KeepsRig old new
  shows_keeps false whole area old new does =
      keeps_then old _ new (record { rig = refl; input = refl; rooms = refl; stays = λ was. was })
      (tells_keeps true _ (record old { is_shown = true }) new does)
  shows_keeps true whole area old new does = changes_keeps old area new does

  updates_keeps : (old new : Driver R) → Updates old new → KeepsRig old new
  updates_keeps old new updates = by (picture_of old.viewer) refl
    where
      viewed : KeepsRig old (record old { viewer = updates.viewer })
      viewed = record { rig = refl; input = refl; rooms = refl; stays = λ was. was }

      by : (p : Option (Grid Colour)) → picture_of old.viewer ≡ p → KeepsRig old new
      by None is = so old _ new (updates.blank is) viewed
      by (Some screen) is =
          let does = updates.shows screen is in
          keeps_then old _ new viewed
          (keeps_then _ does.0 new (shows_keeps _ _ _ (record old { viewer = updates.viewer }) does.0 does.1)
          (asks_keeps _ _ does.0 new does.2))

  meets_keeps : (old : Driver R) (event : Option ViewerEvent) (new : Driver R) → Meets old event new → KeepsRig old new
  meets_keeps old None new is = same old new is
  meets_keeps old (Some (Said.Reply reply)) new does = sends_keeps reply.items old new does
  meets_keeps old (Some (Said.Ready reply width height name name_length)) new does =
      keeps_then old _ new (record { rig = refl; input = refl; rooms = refl; stays = λ was. was })
      (readies_keeps reply.items width height (record old { name = name }) new does)
  meets_keeps old (Some Said.UpdateDone) new does = updates_keeps old new does
  meets_keeps old (Some Said.Bell) new does = tells_keeps _ _ old new does
  meets_keeps old (Some (Said.CutText kept text_length)) new does = tells_keeps _ _ old new does
  meets_keeps old (Some Said.ColourMapSkipped) new is = same old new is

  pub hears_keeps : (old : Driver R) (bytes : List ℕ) (used : ℕ) (new : Driver R) → HearsDriven old bytes used new →
      KeepsRig old new
  hears_keeps old bytes used new (Ignored ended all is) = same old new is
  hears_keeps old bytes used new (Met viewer fed takes is does) =
      keeps_then old _ new (record { rig = refl; input = refl; rooms = refl; stays = λ was. was })
      (meets_keeps (record old { viewer = viewer }) fed.event new does)
  hears_keeps old bytes used new (FailedAt viewer fault fails all loses) =
      keeps_then old _ new (record { rig = refl; input = refl; rooms = refl; stays = λ was. was })
      (loses_keeps (record old { viewer = viewer }) _ new loses)

  -- ---- how much is taken

  adds_rooms : (bytes : List ℕ) (old new : Driver R) → Adds bytes old new → new.rooms ≡ old.rooms
  adds_rooms bytes old new (Dropped ended is) = ap (λ (d : Driver R). d.rooms) is
  adds_rooms bytes old new (Added is) = ap (λ (d : Driver R). d.rooms) is
  adds_rooms bytes old new (NoRoomToAdd is) = ap (λ (d : Driver R). d.rooms) is ∙ (ends_keeps _ old).rooms

  hears_rooms : (old : Driver R) (door : ℕ) (bytes : List ℕ) (used : ℕ) (new : Driver R) →
      HearsDoor old door bytes used new → new.rooms ≡ old.rooms
  hears_rooms old zero bytes used new hears = (hears_keeps old bytes used new (hears.server refl)).rooms
  hears_rooms old (suc zero) bytes used new hears = adds_rooms bytes old new (hears.orders refl).0
  hears_rooms old (suc (suc door)) bytes used new hears =
      ap (λ (d : Driver R). d.rooms) (hears.other (omega arith))

  no_room : (driver : Driver R) (d : ℕ) → space_at driver (suc (suc d)) ≡ 0
  no_room driver d = grind (arith, nat_tests)

  spent_room : (old mid : Driver R) (door used : ℕ) → mid.rooms ≡ old.rooms →
      space_at old door ≤ space_at (spent door used mid) door + used
  spent_room old mid zero used is = omega (arith, ap (λ (r : Rooms). r.server) is)
  spent_room old mid (suc zero) used is = omega (arith, ap (λ (r : Rooms). r.orders) is)
  spent_room old mid (suc (suc door)) used is = omega (arith, no_room old door)

  -- what there was room for there is room for still
  pub room_left : (old mid new : Driver R) (door : ℕ) (bytes : List ℕ) (used : ℕ) → HearsDoor old door bytes used mid →
      new ≡ spent door used mid → space_at old door ≤ space_at new door + used
  room_left old mid new door bytes used hears is =
      subst (λ (d : Driver R). space_at old door ≤ space_at d door + used) (sym is)
      (spent_room old mid door used (hears_rooms old door bytes used mid hears))
