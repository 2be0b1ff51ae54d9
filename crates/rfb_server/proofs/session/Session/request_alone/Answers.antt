use Rattle.std.proofs.Common.{◌≡◌, ◌∙◌, ap, ℕ, List, length, arith}
use Rattle.std.proofs.lemmas.Bool.Decides.{nat_tests}
use Rattle.std.proofs.lemmas.List.{nil_from_length}
use Rattle.rfb_hello.specs.ServerEnd.{as_reply}
use Rattle.rfb_server.specs.declared.session.input.progress.Progress.TheVariants.{Head}
use Rattle.rfb_server.proofs.HeadLemmas.{request_after}
use Rattle.rfb_server.proofs.session.Session.request_alone.Goals as goal

pub returns-in-Request : goal.returns-in-Request
returns-in-Request c =
    let part = c.in-Head.part in
    let none : length part.items ≡ 0 = grind (arith, nat_tests) in
    let all : c.in-Got.size ≡ length c.args.bytes.now = grind (arith, nat_tests) in (
      c.in-Head.is ∙ ap (λ (items : List ℕ). Head (as_reply items)) (nil_from_length part.items none),
      rw (nil_from_length part.items none) at
          (request_after part.items c.args.bytes.now c.in-Got.size c.in-Request.incremental c.in-Request.rect none all
          (rw c.in-Request.is at c.in-Got.ensures.got.1)),
    )
