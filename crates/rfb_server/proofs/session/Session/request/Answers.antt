use Rattle.std.proofs.Common.{◌≡◌, ◌<◌, ℕ, true, false}
use Rattle.rfb_picture.specs.Rect.{contains}
use Rattle.rfb_server.proofs.AskingLemmas.{asked_part}
use Rattle.rfb_server.proofs.session.Session.request.Goals.{After-part_of-part}
use Rattle.rfb_server.proofs.session.Session.request.Goals as goal

-- on the screen the part has the places of the rectangle
same : (c : After-part_of-part) → (x y : ℕ) → x < c.args.self.now.known.width → y < c.args.self.now.known.height →
    contains c.part_of-part.result x y ≡ contains c.args.rect x y
same c x y p q = c.part_of-part.ensures.same x y (rw (c.width.ensures.value) p) (rw (c.height.ensures) q)

pub returns-then-incremental-clause-asked : goal.returns-then-incremental-clause-asked
returns-then-incremental-clause-asked c =
    rw (c.if-incremental.true)
    (asked_part c.args.self.now c.ask.new.self c.args.rect c.part_of-part.result false
    (same (goal.at.returns-then-incremental-clause-asked c).After-part_of-part) c.ask.ensures.asked)

pub returns-else-incremental-clause-asked : goal.returns-else-incremental-clause-asked
returns-else-incremental-clause-asked c =
    rw (c.if-incremental.false)
    (asked_part c.args.self.now c.ask_whole.new.self c.args.rect c.part_of-part.result true
    (same (goal.at.returns-else-incremental-clause-asked c).After-part_of-part) c.ask_whole.ensures.asked)
