use Rattle.std.proofs.Common.{rules}
use Rattle.rfb_server.specs.update.Copies.{IsUseful}
use Rattle.rfb_server.proofs.CopiedLemmas.{about_copied, alike_copied}
use Rattle.rfb_server.proofs.QuietLemmas.{quiet_copied, quiet_left}
use Rattle.rfb_server.proofs.session.Session.follow_hint.Goals as goal

pub invariant_of-self-clause-alike : goal.invariant_of-self-clause-alike
invariant_of-self-clause-alike c =
    let hint = c.args.hint in
    alike_copied c.copy.new.self c.args.self.now hint.to hint.sx hint.sy c.copy.ensures.value

pub returns-then-judged-clause-about : goal.returns-then-judged-clause-about
returns-then-judged-clause-about c =
    let s = c.args.self.now in
    let hint = c.args.hint in
    let useful : IsUseful c.args.screen.now s hint = rw c.if-judged.true at c.judge-judged.ensures.useful in
    about_copied c.args.screen.now s _ hint.to hint.sx hint.sy c.requires.about useful.free c.requires.unclaimed
    (search rules) c.copy.ensures.value

pub returns-then-judged-clause-quiet : goal.returns-then-judged-clause-quiet
returns-then-judged-clause-quiet c =
    let s = c.args.self.now in
    let hint = c.args.hint in
    let size = c.requires.about.alike in
    let useful : IsUseful c.args.screen.now s hint = rw c.if-judged.true at c.judge-judged.ensures.useful in
    let from = useful.gain.source_on_screen in
    quiet_copied c.args.screen.now s c.copy.new.self hint c.judge-judged.result
    (rw (← size.columns) from.0, rw (← size.rows) from.1) c.copy.ensures.value
    c.if-judged.true c.judge-judged.ensures.right

pub returns-then-judged-gt0-clause-quiet : goal.returns-then-judged-gt0-clause-quiet
returns-then-judged-gt0-clause-quiet c =
    quiet_left c.args.screen.now c.args.self.now c.args.hint c.judge-judged.result
    c.if-judged.false c.judge-judged.ensures.right
