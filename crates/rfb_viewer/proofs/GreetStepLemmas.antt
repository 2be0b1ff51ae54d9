-- What a viewer promises of bytes that the end of its handshake takes, by the step that they end with.
use Rattle.std.proofs.Common.{◌≡◌, ℕ, ◌<◌, ◌≤◌, true, List, Option, Some, None, length, take, refl}
use Rattle.std.proofs.Common.{sym, ◌∙◌, ap, arith}
use Rattle.arrayvec.specs.ArrayVec.{ArrayVec}
use Rattle.rfb_pixel.specs.declared.colour.Colour.{Colour}
use Rattle.rfb_pixel.specs.Format.{PixelFormat}
use Rattle.rfb_picture.specs.Grid.{Grid}
use Rattle.rfb_wire.specs.declared.encoding.Encoding.{Encoding}
use Rattle.rfb_wire.specs.stream.End.{FedBy}
use Rattle.rfb_hello.specs.declared.step.ViewerStep.{ViewerStep}
use Rattle.rfb_hello.specs.declared.step.ViewerStep.TheVariants.{Reply, Screen, Ready}
use Rattle.rfb_hello.specs.declared.version.Version.{Version}
use Rattle.rfb_hello.specs.declared.viewer_hello.ViewerHello.{ViewerHello}
use Rattle.rfb_hello.specs.KeptText.{KeptText}
use Rattle.rfb_hello.specs.Offer.{TakesOffer as HelloTakesOffer}
use Rattle.rfb_hello.specs.ServerHandshake.{ServerPoint, ServerItem, AwaitsInit, ServerInit}
use Rattle.rfb_hello.specs.ViewerEnd.{ViewerSetup, viewer_end, viewer_tells as handshake_tells}
use Rattle.rfb_hello.specs.ViewerModel.{StandsFor as HelloStandsFor, goes_on_after, is_open, setup_of}
use Rattle.rfb_viewer.specs.declared.event.ViewerEvent.{ViewerEvent}
use Rattle.rfb_viewer.specs.declared.fault.ViewerFault.TheVariants.{NoMemory}
use Rattle.rfb_viewer.specs.declared.viewer.Viewer.{Viewer}
use Rattle.rfb_viewer.specs.declared.viewer.moved.Move.{Move}
use Rattle.rfb_viewer.specs.declared.viewer.progress.Progress.{Progress}
use Rattle.rfb_viewer.specs.declared.viewer.progress.Progress.TheVariants.{Handshake, Failed}
use Rattle.rfb_viewer.specs.declared.viewer.progress.Request.{Request}
use Rattle.rfb_viewer.specs.Damage.{ended_of}
use Rattle.rfb_viewer.specs.Messages.{ready_bytes}
use Rattle.rfb_viewer.specs.Model.{making_of, offered_of, taken_of}
use Rattle.rfb_viewer.specs.Moved.{moved_of}
use Rattle.rfb_viewer.specs.Offer.{TakesOffer}
use Rattle.rfb_viewer.specs.Progress.{IsScreenAt, fault_in}
use Rattle.rfb_viewer.specs.Told.{seen, Reply as ReplyTold, Ready as ReadyTold}
use Rattle.rfb_viewer.specs.steps.FedBytes.{StepsOn}
use Rattle.rfb_viewer.specs.steps.ItemDamage.{DamagesAt, screen_made}
use Rattle.rfb_viewer.specs.steps.StepPromises.{Takes, Fails}
use Rattle.rfb_viewer.specs.steps.Steps.{TellsScreen, at_message, screen_or}
use Rattle.rfb_viewer.proofs.FailGreetLemmas.{answer_offers, fed_keeps, screen_ends}
use Rattle.rfb_viewer.proofs.GreetLemmas.{IsGreeted, greet_more, greet_reply, greet_screen, greet_ready}
use Rattle.rfb_viewer.proofs.GreetRefusalLemmas.{ready_told, screen_asks, screen_told, still_open}
use Rattle.rfb_viewer.proofs.MovedLemmas.{quiet_takes}
use Rattle.rfb_viewer.proofs.PlaceLemmas.{one_placed}
use Rattle.rfb_viewer.proofs.TakingLemmas.{memory_fails, unmade, unmade_damages}

-- the end of the handshake took this many bytes of a slice of one, with that step
pub record IsTaken (old : Viewer) (bytes : List ℕ) (used : ℕ) (step : Option ViewerStep)
    (after : ViewerHello) : Type 0 where
  pub was : old.progress ≡ Handshake
  pub one : length bytes ≡ 1
  pub within : used ≤ length bytes
  pub some : 0 < used
  pub fed : (setup : ViewerSetup) →
      FedBy (viewer_end setup) (HelloStandsFor setup) old.hello (take used bytes) step after
  pub ready : is_open after ≡ goes_on_after step
  pub setup : setup_of after ≡ setup_of old.hello
  pub offered : HelloTakesOffer step old.hello bytes after

-- so its promise says, whose step is known
pub taken_by : {old : Viewer} {bytes : List ℕ} {used : ℕ} {event : Option ViewerStep} {after : ViewerHello}
    (step : Option ViewerStep) → event ≡ step → old.progress ≡ Handshake → length bytes ≡ 1 →
    used ≤ length bytes →
    (is_open old.hello ≡ true → 0 < length bytes → 0 < used) → ((setup : ViewerSetup) →
    FedBy (viewer_end setup) (HelloStandsFor setup) old.hello (take used bytes) event after) →
    (is_open old.hello ≡ true → is_open after ≡ goes_on_after event) → setup_of after ≡ setup_of old.hello →
    HelloTakesOffer event old.hello bytes after → IsTaken old bytes used step after
taken_by {old} step is was one within some fed ready setup offered =
    let opened = still_open old.hello old.progress old.picture was old.sound in
    rw (sym is) (record {
      was = was;
      one = one;
      within = within;
      some = some opened (omega (arith, one));
      fed = fed;
      ready = ready opened;
      setup = setup;
      offered = offered;
    })

-- a screen's size is told at ServerInit, where there is no screen yet
told_at_init : (step : ViewerStep) → TellsScreen step → (setup : ViewerSetup) (p : ServerPoint) (i : ServerItem) →
    handshake_tells setup p i ≡ Some step → IsScreenAt p None →
    (version : Version) × (w h n : ℕ) × (p ≡ AwaitsInit version) × (i ≡ ServerInit w h n)
told_at_init (Reply reply) tells setup p i told screen = absurd tells
told_at_init (Screen width height) tells setup p i told screen = screen_told setup width height p i told screen
told_at_init (Ready width height version name n) tells setup p i told screen =
    ready_told setup width height version name n p i told screen

-- what no step of the handshake changes
abbrev Spared : Type 0
Spared = PixelFormat × ArrayVec Encoding × ℕ × Request × List Move × ℕ

abbrev pub spared : Viewer → Spared
spared v = (v.format, v.encodings, v.text_limit, v.request, moved_of v, taken_of v)

module _ (old new : Viewer) (bytes : List ℕ) (used : ℕ) (same : spared new ≡ spared old) where
  moved : moved_of new ≡ moved_of old
  moved = ap (λ (l : Spared). l.4) same

  counted : taken_of new ≡ taken_of old
  counted = ap (λ (l : Spared). l.5) same

  greeted : {p : Progress} {g : Option (Grid Colour)} → setup_of new.hello ≡ setup_of old.hello →
      new.progress ≡ p →
      new.picture ≡ g → IsGreeted old new new.hello p g
  greeted setup progress picture = record {
    hello = refl;
    setup = setup;
    form = ap (λ (l : Spared). l.0) same;
    encodings = ap (λ (l : Spared). l.1) same;
    limit = ap (λ (l : Spared). l.2) same;
    request = ap (λ (l : Spared). l.3) same;
    progress_is = progress;
    picture_is = picture;
  }

  made : setup_of new.hello ≡ setup_of old.hello → making_of new ≡ making_of old
  made setup =
      let encodings = ap (λ (l : Spared). l.1) same in
      let limit = ap (λ (l : Spared). l.2) same in
      rw (setup, encodings, limit) refl

  greet_takes : {step : Option ViewerStep} {event : Option ViewerEvent} (p : Progress) →
      IsTaken old bytes used step new.hello → new.progress ≡ p → fault_in p ≡ None →
      StepsOn old (take used bytes) event new → DamagesAt Handshake old (take used bytes) new →
      TakesOffer (seen event) old bytes new → Takes old bytes used event new
  greet_takes {step} {event} p t at going steps damage offered =
      quiet_takes old new bytes used event Handshake t.was tt damage t.some t.within steps offered
      (ap fault_in at ∙ going) moved (made t.setup) counted

  -- more of a step has come
  pub takes_more : IsTaken old bytes used None new.hello → new.progress ≡ Handshake →
      new.picture ≡ old.picture →
      ended_of new ≡ ended_of old → Takes old bytes used None new
  takes_more t at shown ended = greet_takes Handshake t at refl
      (λ viewing. greet_more viewing old new new.hello (take used bytes) t.was (t.fed viewing.hello) t.ready
      (greeted t.setup at shown)) (unmade old new shown ended) t.offered

  -- a step with an answer
  pub takes_reply : (reply : ArrayVec ℕ) (event : Option ViewerEvent) →
      IsTaken old bytes used (Some (Reply reply)) new.hello → seen event ≡ Some (ReplyTold reply.items) →
      new.progress ≡ Handshake → new.picture ≡ old.picture →
      ended_of new ≡ screen_made old.picture new.picture (ended_of old) → Takes old bytes used event new
  takes_reply reply event t told at shown ended = greet_takes Handshake t at refl
      (λ viewing. rw told (greet_reply viewing old new new.hello (take used bytes) reply t.was (t.fed viewing.hello)
      t.ready (greeted t.setup at shown))) ended
      (rw told (answer_offers old new.hello bytes reply t.was t.offered))

  -- a step that gives the screen's size
  pub takes_screen : (width height : ℕ) → IsTaken old bytes used (Some (Screen width height)) new.hello →
      new.progress ≡ Handshake → new.picture ≡ Some (screen_or width height old.picture) →
      ended_of new ≡ screen_made old.picture new.picture (ended_of old) → Takes old bytes used None new
  takes_screen width height t at shown ended = greet_takes Handshake t at refl
      (λ viewing. greet_screen viewing old new new.hello (take used bytes) width height t.was (t.fed viewing.hello)
      t.ready (greeted t.setup at shown)) ended t.offered

  -- the last step
  pub takes_ready : (width height : ℕ) (version : Version) (name : KeptText) (n : ℕ)
      (event : Option ViewerEvent) → IsTaken old bytes used (Some (Ready width height version name n)) new.hello →
      seen event ≡ Some (ReadyTold (ready_bytes old.format old.encodings.items) width height name.bytes n) →
      new.progress ≡ at_message → new.picture ≡ Some (screen_or width height old.picture) →
      ended_of new ≡ screen_made old.picture new.picture (ended_of old) → Takes old bytes used event new
  takes_ready width height version name n event t told at shown ended = greet_takes at_message t at refl
      (λ viewing. rw told (greet_ready viewing old new new.hello (take used bytes) width height version name n t.was
      (t.fed viewing.hello) t.ready (greeted t.setup at shown))) ended (rw told t.offered)

  -- a step for whose screen there is no memory
  pub screen_fails : (step : ViewerStep) → IsTaken old bytes used (Some step) new.hello → TellsScreen step →
      old.picture ≡ None → new.picture ≡ old.picture → ended_of new ≡ ended_of old →
      new.progress ≡ Failed NoMemory →
      Fails old bytes 1 NoMemory new
  screen_fails step t tells none shown ended failed =
      memory_fails old new bytes (unmade_damages old new bytes t.was shown ended) moved (made t.setup) counted
      (screen_keeps step tells t.offered) 1
      (one_placed old bytes NoMemory t.one (λ other. absurd (other refl)) (λ _ viewing. screen_asks viewing old bytes
      used new.hello step t.was none (t.fed viewing.hello) (told_at_init step tells viewing.hello)))
      (rw shown (λ viewing. screen_ends viewing old bytes used new.hello step t.was none (t.fed viewing.hello)
      (told_at_init step tells viewing.hello))) (fed_keeps old new.hello (take used bytes) (Some step) t.was t.fed)
      failed
    where
      screen_keeps : (step : ViewerStep) → TellsScreen step →
          HelloTakesOffer (Some step) old.hello bytes new.hello →
          offered_of new ≡ offered_of old
      screen_keeps (Reply reply) tells same = absurd tells
      screen_keeps (Screen width height) tells same = same
      screen_keeps (Ready width height version name n) tells same = same
