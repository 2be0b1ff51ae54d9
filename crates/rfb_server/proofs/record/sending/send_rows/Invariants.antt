use Rattle.std.proofs.Common.{◌≡◌, ◌+◌, ◌*◌, vec_len}
use Rattle.std.specs.Vec.{vec_capacity}
use Rattle.rfb_server.proofs.RawSentLemmas.{AreSent}
use Rattle.rfb_server.proofs.record.sending.send_rows.Given as goal

abbrev pub invariant-loop-line : goal.invariant-loop-line
invariant-loop-line l = record {
  sent : AreSent l.format l.screen l.rect l.line l.initial.pixels l.pixels l.initial.out.items l.out.items;
  len : vec_len l.out ≡ vec_len l.initial.out + l.line * l.length;
  room : vec_capacity l.out ≡ vec_capacity l.initial.out;
}
