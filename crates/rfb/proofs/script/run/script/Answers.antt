use Rattle.std.proofs.Common.{◌≡◌, refl, inl, inr, IfSome, Option, Some, None, List, ℕ, [], ◌++◌}
use Rattle.std.proofs.lemmas.Result.{err_from_is_err_and}
use Rattle.rfb_pixel.specs.declared.colour.Colour.{Colour}
use Rattle.rfb_picture.specs.Grid.{Grid}
use Rattle.rfb_session.specs.declared.world.World.{World}
use Rattle.rfb_session.specs.World.{shown_by}
use Rattle.rfb.specs.declared.script.line.Numbered.{Numbered}
use Rattle.rfb_session.specs.declared.language.screen.Screen.{Screen}
use Rattle.rfb.specs.declared.script.line.Wants.{Wants}
use Rattle.rfb.specs.Plays.{LeavesPlayed, LeavesScript, PlaysAny}
use Rattle.rfb.specs.ScriptRun.{IsPlayed}
use Rattle.rfb.specs.Script.{AreScript, StopsReading, lines_of}
use Rattle.rfb_session.proofs.WrittenLaws.{on_err}
use Rattle.rfb.specs.HubScript.{AreHubScript, StopsReadingHub}
use Rattle.rfb.proofs.HubScriptingLemmas.{fails_any, hub_left, hub_plays, stops_hub, stops_plain}
use Rattle.rfb.proofs.MadeLemmas.{made}
use Rattle.rfb.proofs.script.run.script.Goals.{in-Err-BadLine, in-Err+in-Fault-1, in-Ok-1}
use Rattle.rfb.proofs.script.run.script.Goals as goal

-- what was read after nothing is what there was to read
script_played : (read : Option (List ℕ)) (empty all : List ℕ) (size : Screen) (wants : Option Wants)
    (steps : List Numbered) (world : World) (picture : Grid Colour) →
    empty ≡ [] →
    IfSome read (λ text. all ≡ empty ++ text) →
    AreScript (lines_of all) size wants steps →
    IsPlayed size wants steps world →
    shown_by world ≡ Some picture →
    IfSome read (λ text. PlaysAny text picture)
script_played None empty all size wants steps world picture e is said played shown = tt
script_played (Some text) empty all size wants steps world picture e is said played shown =
    let same : all ≡ text = rw e at is in
    inl (record {
      size = size;
      wants = wants;
      steps = steps;
      is_script = rw (← same) said;
      world = world;
      is_played = played;
      is_shown = shown;
    })

script_left : (read before after : Option (List ℕ)) (empty all : List ℕ) (size : Screen)
    (wants : Option Wants) (steps : List Numbered) →
    empty ≡ [] → IfSome read (λ text. all ≡ empty ++ text) → AreScript (lines_of all) size wants steps →
    LeavesPlayed size wants steps before after → LeavesScript read before after
script_left read before after empty all size wants steps none is said (inl same) = inl same
script_left read before after empty all size wants steps none is said (inr played) = inr (record {
  picture = played.2.0;
  played = script_played read empty all size wants steps played.0 played.2.0 none is said played.1 played.2.1;
  written = played.2.2;
})

pub returns-in_err-run-clause-left : goal.returns-in_err-run-clause-left
returns-in_err-run-clause-left g c =
    let script = c.in_ok-script.script in
    let said : AreScript (lines_of c.read_to_end.new.buf.items) script.screen script.wants script.steps.items =
    rw c.as_slice-lines.ensures.value at c.in_ok-script.ensures.read in
    on_err _ _
    (script_left (g.R.Read.remaining c.args.context.now.input.now) _ _ c.new-text.result.items
    c.read_to_end.new.buf.items
    script.screen script.wants script.steps.items c.new-text.ensures.items c.in_ok-read_to_end.ensures.bytes said
    (c.in_err-run.ensures.left (made _ script.screen _ _ said)))

pub returns-clause-done : goal.returns-clause-done
returns-clause-done g c =
    let script = c.in_ok-script.script in
    let said : AreScript (lines_of c.read_to_end.new.buf.items) script.screen script.wants script.steps.items =
    rw c.as_slice-lines.ensures.value at c.in_ok-script.ensures.read in
    let written = c.in_ok-run.ensures.done (made _ script.screen _ _ said) in
    record {
      picture = written.2.0;
      played = script_played (g.R.Read.remaining c.args.context.now.input.now) c.new-text.result.items
          c.read_to_end.new.buf.items script.screen script.wants script.steps.items
          written.0 written.2.0 c.new-text.ensures.items c.in_ok-read_to_end.ensures.bytes said written.1 written.2.1;
      written = written.2.2;
    }

pub returns-in_err-run_hub-clause-left : goal.returns-in_err-run_hub-clause-left
returns-in_err-run_hub-clause-left g c =
    let hub = c.in_ok-hub.hub in
    let same : g.W.Write.contents c.match-read.context.output.now ≡ g.W.Write.contents c.args.context.now.output.now =
    elim c.match-read.branch [
      | in-Err-BadLine w ↦ rw w.context-is refl
      | in-Err+in-Fault-1 w ↦ rw w.context-is refl
      | in-Ok-1 w ↦ rw w.context-is refl
    ] in
    let said : AreHubScript (lines_of c.read_to_end.new.buf.items) hub.screen hub.steps.items hub.shown =
    rw c.as_slice-lines.ensures.value at (rw c.in_ok-hub.was at c.read_hub_script-read.ensures.read) in
    rw (← same) (on_err _ _
    (hub_left (g.R.Read.remaining c.args.context.now.input.now) _ _ c.new-text.result.items c.read_to_end.new.buf.items
    hub.screen hub.steps.items hub.shown c.new-text.ensures.items c.in_ok-read_to_end.ensures.bytes said
    c.in_err-run_hub.ensures.left))

pub returns-then-begins_hub-clause-done : goal.returns-then-begins_hub-clause-done
returns-then-begins_hub-clause-done g c =
    let hub = c.in_ok-hub.hub in
    let same : g.W.Write.contents c.match-read.context.output.now ≡ g.W.Write.contents c.args.context.now.output.now =
    elim c.match-read.branch [
      | in-Err-BadLine w ↦ rw w.context-is refl
      | in-Err+in-Fault-1 w ↦ rw w.context-is refl
      | in-Ok-1 w ↦ rw w.context-is refl
    ] in
    let said : AreHubScript (lines_of c.read_to_end.new.buf.items) hub.screen hub.steps.items hub.shown =
    rw c.as_slice-lines.ensures.value at (rw c.in_ok-hub.was at c.read_hub_script-read.ensures.read) in
    rw (← same) (hub_plays (g.R.Read.remaining c.args.context.now.input.now) _ _ c.new-text.result.items
    c.read_to_end.new.buf.items hub.screen hub.steps.items hub.shown c.new-text.ensures.items
    c.in_ok-read_to_end.ensures.bytes said c.in_ok-run_hub.ensures.done)

pub returns-in_err-hub-clause-stopped : goal.returns-in_err-hub-clause-stopped
returns-in_err-hub-clause-stopped g c =
    let stops : StopsReadingHub (lines_of c.read_to_end.new.buf.items) c.in_err-hub.field-0.0 =
    rw c.as_slice-lines.ensures.value at (rw c.in_err-hub.was at c.read_hub_script-read.ensures.stopped) in
    let p = err_from_is_err_and c.from_residual-in_err-hub.result c.from_residual-in_err-hub.ensures.1 in
    rw (p.1, p.2)
    (fails_any (g.R.Read.remaining c.args.context.now.input.now) c.new-text.result.items
    c.read_to_end.new.buf.items c.in_err-hub.field-0.0
    c.new-text.ensures.items c.in_ok-read_to_end.ensures.bytes
    (stops_hub _ _ c.begins_hub.result (rw c.as_slice-lines.ensures.value at c.begins_hub.ensures)
    c.if-begins_hub.true stops))

pub returns-in_err-script-clause-stopped : goal.returns-in_err-script-clause-stopped
returns-in_err-script-clause-stopped g c =
    let stops : StopsReading (lines_of c.read_to_end.new.buf.items) c.in_err-script.field-0.0 =
    rw c.as_slice-lines.ensures.value at c.in_err-script.ensures.stopped in
    let p = err_from_is_err_and c.from_residual-in_err-script.result c.from_residual-in_err-script.ensures.1 in
    rw (p.1, p.2)
    (fails_any (g.R.Read.remaining c.args.context.now.input.now) c.new-text.result.items
    c.read_to_end.new.buf.items c.in_err-script.field-0.0
    c.new-text.ensures.items c.in_ok-read_to_end.ensures.bytes
    (stops_plain _ _ c.begins_hub.result (rw c.as_slice-lines.ensures.value at c.begins_hub.ensures)
    c.if-begins_hub.false stops))
