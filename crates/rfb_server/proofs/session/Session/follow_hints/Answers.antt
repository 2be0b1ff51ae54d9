use Rattle.std.proofs.Common.{rules, ◌∙◌}
use Rattle.rfb_server.proofs.KeptLemmas.{kept_then}
use Rattle.rfb_server.proofs.QuietLemmas.{quiet_nowhere}
use Rattle.rfb_server.proofs.session.Session.follow_hints.Goals as goal

pub loop-index-init : goal.loop-index-init
loop-index-init c =
    let s = c.args.self.now in
    record {
      kept = search rules;
      about = c.requires.about;
      unclaimed = c.requires.unclaimed;
      claimed = c.requires.claimed;
      quiet = quiet_nowhere c.args.screen.now s.known s.area s.format;
    }

pub loop-index-preserved : goal.loop-index-preserved
loop-index-preserved c =
    let l = c.loop-index in
    let step = c.follow_claimed-claim in
    record {
      kept = kept_then c.args.self.now l.self step.new.self l.invariant.kept step.ensures.kept;
      about = step.ensures.about;
      unclaimed = step.ensures.kept.claim ∙ l.invariant.unclaimed;
      claimed = step.ensures.claimed;
      quiet = step.ensures.quiet;
    }
