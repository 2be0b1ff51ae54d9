use Rattle.std.proofs.Common.{◌≡◌, ◌∙◌, ap, refl, sym, Some, None, take}
use Rattle.rfb_wire.proofs.stream_laws.FeedLaws.{step_feeds, front_refuses}
use Rattle.rfb_hello.specs.declared.step.ServerStep.TheVariants.{Reply}
use Rattle.rfb_hello.specs.Version.{version_of}
use Rattle.rfb_hello.specs.ClientHandshake.{client_version_fault}
use Rattle.rfb_hello.specs.ServerEnd.{as_reply, security_bytes, server_end}
use Rattle.rfb_hello.specs.pieces.ServerPiece.{progress_after}
use Rattle.rfb_hello.specs.ServerModel.{StandsFor}
use Rattle.rfb_hello.proofs.ServerHelloLemmas.{server_machine, version_told, version_refused, version_leaves}
use Rattle.rfb_hello.proofs.server_hello.ServerHello.take_version.Goals as goal

pub returns-in-Ok-clause-fed : goal.returns-in-Ok-clause-fed
returns-in-Ok-clause-fed c = λ setup.
    let old = c.args.self.now in
    let unit = take c.gather-used.result.0 c.args.bytes.now in
    let whole = c.in-Some.whole.items in
    let gathered = rw c.in-Some.is at c.gather-used.ensures.whole in
    let same : c.as_slice.result.now ≡ whole = c.as_slice.ensures.value in
    let good : client_version_fault old.offer whole ≡ None =
    ap (client_version_fault old.offer) (sym same) ∙ sym (rw c.in-Ok.is at c.offered.ensures.fault) in
    let version : c.in-Ok.version ≡ version_of whole = c.in-Ok.ensures.ok ∙ ap version_of same in
    let is : c.after_version-self.result ≡ progress_after (version_of whole) =
    c.after_version-self.ensures ∙ ap progress_after version in
    let new = record old { progress = c.after_version-self.result } in
    let fed = step_feeds (server_end setup) (server_machine setup)
    (StandsFor setup) old new unit (Some (Reply (as_reply (security_bytes (version_of whole)))))
    (version_told setup old new c.in-Version.text unit whole c.in-Version.is gathered.0 gathered.1 good refl is) in
    rw (c.security.ensures, version) fed

pub returns-in-Err-clause-fault : goal.returns-in-Err-clause-fault
returns-in-Err-clause-fault c = λ setup.
    let old = c.args.self.now in
    let used = c.gather-used.result.0 in
    let bytes = c.args.bytes.now in
    let whole = c.in-Some.whole.items in
    let gathered = rw c.in-Some.is at c.gather-used.ensures.whole in
    let same : c.as_slice.result.now ≡ whole = c.as_slice.ensures.value in
    let bad : client_version_fault old.offer whole ≡ Some c.in-Err.fault =
    ap (client_version_fault old.offer) (sym same) ∙ sym (rw c.in-Err.is at c.offered.ensures.fault) in
    rw c.fail.ensures.value (front_refuses (server_end setup) (server_machine setup) (StandsFor setup) old old used
    bytes c.in-Err.fault (version_refused setup old old c.in-Version.text (take used bytes) whole c.in-Err.fault
    c.in-Version.is gathered.0 gathered.1 bad))

pub returns-in-Ok-clause-left : goal.returns-in-Ok-clause-left
returns-in-Ok-clause-left c =
    let gathered = rw c.in-Some.is at c.gather-used.ensures.whole in
    rw (c.in-Version.is, c.after_version-self.ensures)
    (version_leaves c.in-Ok.version c.in-Version.text.items c.in-Some.whole.items
    c.args.bytes.now c.gather-used.result.0 gathered.0 gathered.1 c.gather-used.ensures.used.1)
