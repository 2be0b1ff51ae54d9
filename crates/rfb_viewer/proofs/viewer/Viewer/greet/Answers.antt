use Rattle.std.proofs.Common.{◌≡◌, ◌∙◌, ℕ, List, Some, None, refl, ap}
use Rattle.rfb_hello.specs.declared.step.ViewerStep.{ViewerStep}
use Rattle.rfb_viewer.specs.declared.fault.ViewerFault.{ViewerFault}
use Rattle.rfb_viewer.specs.declared.viewer.progress.Progress.TheVariants.{Head}
use Rattle.rfb_viewer.specs.Fault.{fault_of_hello}
use Rattle.rfb_viewer.specs.Messages.{ready_bytes}
use Rattle.rfb_viewer.specs.Progress.{fault_in}
use Rattle.rfb_viewer.proofs.GreetRefusalLemmas.{greet_bad, greet_starves}
use Rattle.rfb_viewer.proofs.GreetRefusalLemmas.{still_open, memory_of}
use Rattle.rfb_viewer.proofs.FailGreetLemmas.{greet_ends, greet_keeps, greet_offers, open_going}
use Rattle.rfb_viewer.proofs.PlaceLemmas.{one_placed}
use Rattle.rfb_viewer.proofs.TakingLemmas.{made_by, unmade_damages}
use Rattle.rfb_viewer.proofs.GreetStepLemmas.{taken_by, takes_more, takes_reply, takes_screen, takes_ready}
use Rattle.rfb_viewer.proofs.GreetStepLemmas.{screen_fails}
use Rattle.rfb_viewer.proofs.viewer.Viewer.greet.Goals as goal

pub returns-in-Err : goal.returns-in-Err
returns-in-Err c =
    let old = c.args.self.now in
    let bytes = c.args.bytes.now in
    let fault = c.in-Err.fault in
    let was = c.requires.handshake in
    let opened = still_open old.hello old.progress old.picture was old.sound in
    rw (c.fail-fault.ensures.value, c.of_hello.ensures) (record {
      placed = one_placed old bytes (fault_of_hello fault) c.requires.one
          (λ other viewing. greet_bad viewing old bytes fault was (c.in-Err.ensures.fault (λ e. other
          (ap fault_of_hello e)) viewing.hello))
          (λ wants viewing. greet_starves viewing old bytes was (c.in-Err.ensures.memory
          (memory_of fault wants) viewing.hello));
      picture = λ viewing. greet_ends viewing old bytes fault was (λ other. c.in-Err.ensures.fault other viewing.hello)
          (λ is. c.in-Err.ensures.memory is viewing.hello);
      reason = greet_keeps fault old _ bytes was (c.in-Err.ensures.reason (open_going old.hello opened));
      offer = greet_offers fault old _ bytes was (c.in-Err.ensures.offer (open_going old.hello opened));
      damage = unmade_damages old _ bytes was refl refl;
      moved = refl;
      failed = ap fault_in c.fail-fault.ensures.after ∙ ap (λ (f : ViewerFault). Some f) c.of_hello.ensures;
      made = ap (made_by old) c.feed.ensures.setup;
      taken = refl;
    })

pub returns-in_default : goal.returns-in_default
returns-in_default c =
    let t = taken_by (Some _) c.in-Some.is c.requires.handshake c.requires.one c.in-Ok.ensures.used c.in-Ok.ensures.some
    (λ setup. c.in-Ok.ensures.fed setup) c.in-Ok.ensures.ready c.feed.ensures.setup c.in-Ok.ensures.offered in
    rw (c.fail-fault-in_default.ensures.value)
    (screen_fails c.args.self.now _ c.args.bytes.now c.in-Ok.fed.used refl c.in-Some.step t
    (rw c.in-Some.is at c.in_default.ensures.tells)
    c.in_default.ensures.none c.in_default.ensures.kept c.in_default.ensures.undamaged
    c.fail-fault-in_default.ensures.after)

pub returns-in-None : goal.returns-in-None
returns-in-None c =
    let t = taken_by None c.in-None.is c.requires.handshake c.requires.one c.in-Ok.ensures.used c.in-Ok.ensures.some
    (λ setup. c.in-Ok.ensures.fed setup) c.in-Ok.ensures.ready c.feed.ensures.setup c.in-Ok.ensures.offered in
    takes_more c.args.self.now _ c.args.bytes.now c.in-Ok.fed.used refl t t.was refl refl

pub returns-in-Reply : goal.returns-in-Reply
returns-in-Reply c =
    let inner = rw (c.in-Some.is) at c.in-Reply.is in
    let t = taken_by (Some _) (c.in-Some.is ∙ ap (λ (x : ViewerStep). Some x) inner) c.requires.handshake
    c.requires.one c.in-Ok.ensures.used c.in-Ok.ensures.some
    (λ setup. c.in-Ok.ensures.fed setup) c.in-Ok.ensures.ready c.feed.ensures.setup c.in-Ok.ensures.offered in
    takes_reply c.args.self.now _ c.args.bytes.now c.in-Ok.fed.used refl c.in-Reply.reply _ t refl t.was
    (rw (c.in-Some.is, inner) at c.in-Ok-make_screen.ensures.made) c.in-Ok-make_screen.ensures.damage

pub returns-in-Screen : goal.returns-in-Screen
returns-in-Screen c =
    let inner = rw (c.in-Some.is) at c.in-Screen.is in
    let t = taken_by (Some _) (c.in-Some.is ∙ ap (λ (x : ViewerStep). Some x) inner) c.requires.handshake
    c.requires.one c.in-Ok.ensures.used c.in-Ok.ensures.some
    (λ setup. c.in-Ok.ensures.fed setup) c.in-Ok.ensures.ready c.feed.ensures.setup c.in-Ok.ensures.offered in
    takes_screen c.args.self.now _ c.args.bytes.now c.in-Ok.fed.used refl _ _ t t.was
    (rw (c.in-Some.is, inner) at c.in-Ok-make_screen.ensures.made) c.in-Ok-make_screen.ensures.damage

pub returns-in-Ready : goal.returns-in-Ready
returns-in-Ready c =
    let old = c.args.self.now in
    let inner = rw (c.in-Some.is) at c.in-Ready.is in
    let answer : c.ready_answer.result.items ≡ ready_bytes old.format old.encodings.items =
    c.ready_answer.ensures ∙ ap (ready_bytes old.format) c.as_slice.ensures.value in
    takes_ready old _ c.args.bytes.now c.in-Ok.fed.used refl c.in-Ready.width c.in-Ready.height _ c.in-Ready.name
    c.in-Ready.name_length _ (taken_by (Some _) (c.in-Some.is ∙ ap (λ (x : ViewerStep). Some x) inner)
    c.requires.handshake c.requires.one c.in-Ok.ensures.used c.in-Ok.ensures.some
    (λ setup. c.in-Ok.ensures.fed setup) c.in-Ok.ensures.ready c.feed.ensures.setup c.in-Ok.ensures.offered)
    (rw (answer, c.into_vec.ensures.bytes) refl) (ap (λ (ys : List ℕ). Head (record { items = ys })) c.new.ensures)
    (rw (c.in-Some.is, inner) at c.in-Ok-make_screen.ensures.made) c.in-Ok-make_screen.ensures.damage
