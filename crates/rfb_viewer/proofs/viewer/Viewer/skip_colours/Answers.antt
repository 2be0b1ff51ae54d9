use Rattle.std.proofs.Common.{◌+◌, ◌-◌, ℕ, length, take, List, Some, None, ap, refl, arith}
use Rattle.std.proofs.lemmas.List.{length-take-le}
use Rattle.rfb_viewer.specs.declared.event.ViewerEvent.TheVariants.{ColourMapSkipped}
use Rattle.rfb_viewer.specs.declared.viewer.progress.Progress.TheVariants.{Head, Colours}
use Rattle.rfb_viewer.proofs.MessageBodyLemmas.{colours_part, colours_got}
use Rattle.rfb_viewer.proofs.MovedLemmas.{quiet_takes}
use Rattle.rfb_viewer.proofs.StepLemmas.{made_so}
use Rattle.rfb_viewer.proofs.viewer.Viewer.skip_colours.Goals as goal

pub returns-then-bytes-missing : goal.returns-then-bytes-missing
returns-then-bytes-missing c =
    let old = c.args.self.now in
    let bytes = c.args.bytes.now in
    let more = c.in-Colours.more in
    quiet_takes old _ bytes (length bytes) None (Colours more) c.in-Colours.is tt refl c.requires.some (omega arith)
    (λ viewing. colours_part viewing old _ more (more - length bytes) (take (length bytes) bytes) c.in-Colours.is
    (omega (arith, length-take-le (length bytes) bytes (omega arith), c.if-bytes-missing.true))
    (made_so refl refl refl refl)) refl refl refl refl refl

pub returns : goal.returns
returns c =
    let old = c.args.self.now in
    let bytes = c.args.bytes.now in
    let more = c.in-Colours.more in
    let within = c.if-bytes-missing.false in
    quiet_takes old _ bytes (more + 1) (Some ColourMapSkipped) (Colours more) c.in-Colours.is tt refl (omega arith)
    (omega (arith, within)) (λ viewing. colours_got viewing old _ more (take (more + 1) bytes) c.in-Colours.is
    (length-take-le (more + 1) bytes (omega (arith, within))) (made_so refl
    (ap (λ (ys : List ℕ). Head (record { items = ys })) c.new.ensures) refl refl)) refl refl refl refl refl
