use Rattle.std.proofs.Common.{rules, ◌==◌, length, refl}
use Rattle.rfb_hello.specs.Version.{is_version_text, version_of}
use Rattle.rfb_hello.proofs.ServerHelloLemmas.{version_read}
use Rattle.rfb_hello.proofs.ViewerStepLemmas.{takes}
use Rattle.rfb_hello.proofs.ViewerHelloLemmas.{version_told, version_keeps}
use Rattle.rfb_hello.proofs.viewer_hello.ViewerHello.take_version.Goals as goal

pub returns : goal.returns
returns c =
    let old = c.args.self.now in
    let gathered = rw c.in-Some.is at c.gather-used.ensures.whole in
    let text = c.in-Some.whole.items in
    let told = version_read (length text == 12) (is_version_text text) (version_of text) c.in-Ok.version
    (rw (c.in-Ok.is, c.as_slice.ensures.value) at c.try_from.ensures) in
    takes c.gather-used.ensures.used (λ setup. version_told setup old c.in-Version.part c.reply_of.result _ text
    c.in-Ok.version c.lower-version.result _ c.in-Version.is gathered.0 gathered.1 told c.lower-version.ensures
    (rw c.text.ensures at c.reply_of.ensures) c.after_version.ensures) (search rules) (search rules)
    (version_keeps old old c.in-Version.part _ c.reply_of.result c.in-Version.is refl) refl

pub returns-in_default-try_from : goal.returns-in_default-try_from
returns-in_default-try_from c = record {
  some = search rules;
  within = search rules;
  steps = search rules;
  memory = search rules;
  goes = search rules;
  going = search rules;
  fails = search rules;
  reason = search rules;
  offer = search rules;
  offered = search rules;
  setup = search rules;
}
