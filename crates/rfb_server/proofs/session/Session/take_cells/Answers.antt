use Rattle.std.proofs.Common.{rules, ◌≡◌, ◌<◌, ◌*◌, ◌∙◌, ℕ, true, arith, refl, sym, inl, inr}
use Rattle.std.specs.Int.{div_ceil}
use Rattle.rfb_server.specs.Cells.{IsCell}
use Rattle.rfb_picture.specs.Rect.{contains}
use Rattle.rfb_picture.specs.Box.{is_in}
use Rattle.rfb_picture.proofs.GridLaws.{contains_true}
use Rattle.rfb_server.specs.session.Twins.{IsKnownAlike, ShowsAll, TakesSome}
use Rattle.rfb_server.proofs.RoomLemmas.{few_cells}
use Rattle.rfb_server.proofs.KeptLemmas.{setting_then, kept_then}
use Rattle.rfb_server.proofs.TakenOverLemmas.{shown_known, some_more, quiet_taken, taken_more, taken_all, caught_by}
use Rattle.rfb_server.proofs.ClaimLemmas.{nothing_claimed}
use Rattle.rfb_server.proofs.UpdateLemmas.{caught_settled}
use Rattle.rfb_server.proofs.session.Session.take_cells.Goals.{After-settle}
use Rattle.rfb_server.proofs.session.Session.take_cells.Goals as goal

pub take_cell-requires-clause-held : goal.take_cell-requires-clause-held
take_cell-requires-clause-held c =
    let s = c.args.self.now in
    let l = c.loop-index in
    let here : IsCell s.known.width s.known.height (div_ceil s.known.width 64) c.in-Some.index c.cell_at.result =
    rw (c.width-width.ensures.value, c.height-height.ensures) at c.cell_at.ensures.cell in
    let part = c.outside-zone.ensures.part in (
      omega (arith, here.held.0, part.left, part.wide, l.invariant.wide),
      omega (arith, here.held.1, part.bottom, l.invariant.high),
    )

pub take_cell-requires-clause-known : goal.take_cell-requires-clause-known
take_cell-requires-clause-known c =
    let s = c.args.self.now in
    let here : IsCell s.known.width s.known.height (div_ceil s.known.width 64) c.in-Some.index c.cell_at.result =
    rw (c.width-width.ensures.value, c.height-height.ensures) at c.cell_at.ensures.cell in
    let part = c.outside-zone.ensures.part in
    shown_known c.args.screen.now s.format c.args.sent.now.known c.outside-zone.result (
      omega (arith, here.held.0, part.left, part.wide, c.requires.columns),
      omega (arith, here.held.1, part.bottom, c.requires.rows),
    ) c.requires.shown

pub loop-index-preserved : goal.loop-index-preserved
loop-index-preserved c =
    let s = c.args.self.now in
    let l = c.loop-index in
    let sent = c.args.sent.now.known in
    let index = c.in-Some.index in
    let next = c.in-Some.ensures in
    let here : IsCell s.known.width s.known.height (div_ceil s.known.width 64) index c.cell_at.result =
    rw (c.width-width.ensures.value, c.height-height.ensures) at c.cell_at.ensures.cell in
    let cells = few_cells s.known.width s.known.height s.alike.columns s.alike.rows in
    let below : index < div_ceil s.known.width 64 * div_ceil s.known.height 64 =
    rw (← l.invariant.wide, ← l.invariant.high) next.is_cell in
    let taken = c.take_cell.ensures in
    let last = c.take_cell.new.self in
    let some : TakesSome sent s.known last.known =
    some_more sent s.known l.self.known last.known l.invariant.wide l.invariant.high l.invariant.some taken.some in
    let all : (x y : ℕ) → contains c.cell_at.result x y ≡ true → is_in l.self.marks x y ≡ true →
    IsKnownAlike last.known sent x y =
    λ x y inside marked. elim (c.outside-zone.ensures.others x y inside) [
      | inl within ↦ taken.marked x y within marked
      | inr silent ↦
          let (a, b, d, e) = contains_true c.cell_at.result x y inside in
          let p : x < s.known.width = omega (arith, b, here.held.0) in
          let q : y < s.known.height = omega (arith, e, here.held.1) in
          quiet_taken c.args.screen.now s last sent c.args.quiet.now x y p q (c.requires.asked x y p q)
          c.requires.quiet silent (c.requires.shown x y (rw (c.requires.columns) p) (rw (c.requires.rows) q)) some
    ] in
    record {
      kept = kept_then s l.self last l.invariant.kept taken.kept;
      wide = taken.width ∙ l.invariant.wide;
      high = taken.height ∙ l.invariant.high;
      some = some;
      done = taken_more s l.self last sent l.next index c.cell_at.result c.requires.asked l.invariant.kept
          l.invariant.wide l.invariant.high here next.none taken.some all l.invariant.done;
      within = omega (arith, below);
      few = omega (arith, below, cells);
    }

-- each place is known to have the wanted pixel then
shown : (c : After-settle) → ShowsAll c.args.screen.now c.args.self.now.format c.loop-index.self.known
shown c =
    let l = c.loop-index in
    taken_all c.args.screen.now c.args.self.now l.self c.args.sent.now.known l.next c.requires.about c.requires.asked
    l.invariant.kept l.invariant.wide l.invariant.high c.requires.columns c.requires.rows c.requires.shown
    c.in_default.ensures l.invariant.some l.invariant.done

pub returns-clause-about : goal.returns-clause-about
returns-clause-about c =
    let s = c.args.self.now in
    let l = c.loop-index in
    let mid = l.self in
    let settled = c.settle.ensures in
    let about = c.requires.about in
    let all = shown (goal.at.returns-clause-about c).After-settle in
    record {
      whole = about.whole;
      alike = record {
        columns = rw (settled.known) (about.alike.columns ∙ sym l.invariant.wide);
        rows = rw (settled.known) (about.alike.rows ∙ sym l.invariant.high);
      };
      caught_up = rw (settled.known, settled.area, settled.setting.format, settled.marks)
          (caught_settled c.args.screen.now mid.known mid.area mid.format mid.marks mid.alike
          (caught_by c.args.screen.now s mid about l.invariant.kept all)
          (λ x y p q asked. rw (l.invariant.kept.setting.format) (all x y p q)));
      claimed = nothing_claimed c.args.screen.now _ _ _ refl;
    }

pub returns-clause-taken : goal.returns-clause-taken
returns-clause-taken c =
    let now = c.loop-index.invariant in
    let settled = c.settle.ensures in
    record {
      setting = setting_then c.args.self.now c.settle.new.self _
          (setting_then c.args.self.now c.loop-index.self c.settle.new.self now.kept.setting settled.setting)
          (search rules);
      width = rw (settled.known) (now.wide);
      height = rw (settled.known) (now.high);
      shown = rw (settled.known) (shown (goal.at.returns-clause-taken c).After-settle);
      area = rw (settled.area, now.kept.area) refl;
      hints = settled.hints;
    }
