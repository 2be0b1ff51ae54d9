use Rattle.std.proofs.Common.{◌∙◌, ◌==◌, length, refl, sym, ap}
use Rattle.std.proofs.lemmas.Result.{err_from_is_err_and}
use Rattle.rfb_hello.specs.Version.{is_version_text, minor_of, version_of}
use Rattle.rfb_hello.proofs.ServerHelloLemmas.{version_read, version_misread, version_above, version_within}
use Rattle.rfb_hello.proofs.server_hello.answers.offered.Goals as goal

pub returns-in_err-version-clause-fault : goal.returns-in_err-version-clause-fault
returns-in_err-version-clause-fault c =
    let text = c.args.text.now in
    let p = err_from_is_err_and c.from_residual.result c.from_residual.ensures.1 in
    let told = version_misread (length text == 12) (is_version_text text) (version_of text) c.in_err-version.field-0.0
    (sym c.in_err-version.was ∙ c.try_from.ensures) (rw c.requires refl) in
    rw (p.1, p.2, told.0, told.1) refl

pub returns-then-minor-clause-fault : goal.returns-then-minor-clause-fault
returns-then-minor-clause-fault c =
    let text = c.args.text.now in
    let told = version_read (length text == 12) (is_version_text text) (version_of text) c.in_ok-version.version
    (sym c.in_ok-version.was ∙ c.try_from.ensures) in
    version_above c.args.offer text told.0
    (rw (sym c.minor-2.ensures, sym (ap minor_of told.1), sym c.minor.ensures) c.if-minor.true)

pub returns-clause-fault : goal.returns-clause-fault
returns-clause-fault c =
    let text = c.args.text.now in
    let told = version_read (length text == 12) (is_version_text text) (version_of text) c.in_ok-version.version
    (sym c.in_ok-version.was ∙ c.try_from.ensures) in
    version_within c.args.offer text told.0
    (rw (sym c.minor-2.ensures, sym (ap minor_of told.1), sym c.minor.ensures) c.if-minor.false)
