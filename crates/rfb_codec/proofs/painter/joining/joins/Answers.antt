use Rattle.std.proofs.Common.{◌≡◌, ◌+◌, ◌<◌, false, length, arith}
use Rattle.std.proofs.lemmas.Bool.Decides.{nat_tests}
use Rattle.rfb_codec.specs.Stage.{is_ended}
use Rattle.rfb_codec.specs.decoder.Step.{piece_size}
use Rattle.rfb_codec.proofs.JoinLemmas.{joined}
use Rattle.rfb_codec.proofs.painter.joining.joins.Goals as goal

pub returns-then-len-piece_size-clause-joins : goal.returns-then-len-piece_size-clause-joins
returns-then-len-piece_size-clause-joins c = λ goes_on.
    let pending = c.args.pending.now.items in
    let short : length pending + 1 < piece_size c.args.rectangle.now.format c.args.stage pending =
    omega (arith, c.len.ensures.value, c.piece_size.ensures.value, c.if-len-piece_size.true) in
    let off : c.is_ended.result ≡ false = grind (arith, nat_tests, goes_on) in
    let left : is_ended c.args.rectangle.now.rect c.args.stage ≡ false = rw c.is_ended.ensures at off in
    joined c.args.rectangle.now.format c.args.rectangle.now.rect pending c.args.stage left c.requires short
