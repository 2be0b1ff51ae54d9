use Rattle.std.proofs.Common.{rules, ◌≡◌, ◌<◌, ◌*◌, ◌∙◌, ℕ, true, ap, arith, refl, sym}
use Rattle.std.specs.Int.{div_ceil}
use Rattle.rfb_picture.specs.declared.rect.Rect.{Rect}
use Rattle.rfb_picture.specs.Rect.{contains}
use Rattle.rfb_picture.proofs.GridLaws.{contains_row}
use Rattle.rfb_server.specs.session.Twins.{ShowsAll}
use Rattle.rfb_server.proofs.KeptLemmas.{setting_then}
use Rattle.rfb_server.proofs.TakenOverLemmas.{shown_known, taken_all, caught_by}
use Rattle.rfb_server.proofs.ClaimLemmas.{nothing_claimed}
use Rattle.rfb_server.proofs.UpdateLemmas.{caught_settled}
use Rattle.rfb_server.proofs.session.Session.take_whole.Goals.{After-settle}
use Rattle.rfb_server.proofs.session.Session.take_whole.Goals as goal

pub take_cell-requires-clause-held : goal.take_cell-requires-clause-held
take_cell-requires-clause-held c =
    let is = c.whole-all.ensures in (
      omega (arith, ap (λ (r : Rect). r.x) is, ap (λ (r : Rect). r.w) is, c.width.ensures.value),
      omega (arith, ap (λ (r : Rect). r.y) is, ap (λ (r : Rect). r.h) is, c.height.ensures),
    )

pub take_cell-requires-clause-known : goal.take_cell-requires-clause-known
take_cell-requires-clause-known c =
    let is = c.whole-all.ensures in
    shown_known c.args.screen.now c.args.self.now.format c.args.sent.now.known c.whole-all.result (
      omega (arith, ap (λ (r : Rect). r.x) is, ap (λ (r : Rect). r.w) is, c.width.ensures.value, c.requires.columns),
      omega (arith, ap (λ (r : Rect). r.y) is, ap (λ (r : Rect). r.h) is, c.height.ensures, c.requires.rows),
    ) c.requires.shown

-- each place is known to have the wanted pixel then
shown : (c : After-settle) → ShowsAll c.args.screen.now c.args.self.now.format c.take_cell.new.self.known
shown c =
    let s = c.args.self.now in
    let taken = c.take_cell.ensures in
    let is = c.whole-all.ensures in
    let inside : (x y : ℕ) → x < s.known.width → y < s.known.height → contains c.whole-all.result x y ≡ true =
    λ x y p q. contains_row c.whole-all.result x y (omega (arith, ap (λ (r : Rect). r.x) is))
    (omega (arith, p, ap (λ (r : Rect). r.x) is, ap (λ (r : Rect). r.w) is, c.width.ensures.value))
    (omega (arith, ap (λ (r : Rect). r.y) is))
    (omega (arith, q, ap (λ (r : Rect). r.y) is, ap (λ (r : Rect). r.h) is, c.height.ensures)) in
    taken_all c.args.screen.now s c.take_cell.new.self c.args.sent.now.known
    (div_ceil c.take_cell.new.self.known.width 64 * div_ceil c.take_cell.new.self.known.height 64)
    c.requires.about c.requires.asked taken.kept taken.width taken.height c.requires.columns c.requires.rows
    c.requires.shown (λ x y p q more less. absurd (omega (arith, more, less))) taken.some
    (λ x y p q less marked. taken.marked x y (inside x y p q) marked)

pub returns-clause-about : goal.returns-clause-about
returns-clause-about c =
    let s = c.args.self.now in
    let mid = c.take_cell.new.self in
    let taken = c.take_cell.ensures in
    let settled = c.settle.ensures in
    let about = c.requires.about in
    let all = shown (goal.at.returns-clause-about c).After-settle in
    record {
      whole = about.whole;
      alike = record {
        columns = rw (settled.known) (about.alike.columns ∙ sym taken.width);
        rows = rw (settled.known) (about.alike.rows ∙ sym taken.height);
      };
      caught_up = rw (settled.known, settled.area, settled.setting.format, settled.marks)
          (caught_settled c.args.screen.now mid.known mid.area mid.format mid.marks mid.alike
          (caught_by c.args.screen.now s mid about taken.kept all)
          (λ x y p q asked. rw (taken.kept.setting.format) (all x y p q)));
      claimed = nothing_claimed c.args.screen.now _ _ _ refl;
    }

pub returns-clause-taken : goal.returns-clause-taken
returns-clause-taken c =
    let taken = c.take_cell.ensures in
    let settled = c.settle.ensures in
    record {
      setting = setting_then c.args.self.now c.settle.new.self _
          (setting_then c.args.self.now c.take_cell.new.self c.settle.new.self taken.kept.setting settled.setting)
          (search rules);
      width = rw (settled.known) (taken.width);
      height = rw (settled.known) (taken.height);
      shown = rw (settled.known) (shown (goal.at.returns-clause-taken c).After-settle);
      area = rw (settled.area, taken.kept.area) refl;
      hints = settled.hints;
    }
