-- What is left on the output where a script ends early.
use Rattle.std.proofs.Common.{◌≡◌, ◌⊎◌, ap, inl, inr, ℕ, List, Option, OnErr, Result, Ok, Err}
use Rattle.rfb_session.specs.declared.world.World.{World}
use Rattle.rfb_session.specs.Devices.{AppendsBeginning}
use Rattle.rfb.specs.declared.fault.Fault.{Fault}
use Rattle.rfb.specs.declared.script.line.Numbered.{Numbered}
use Rattle.rfb_session.specs.declared.language.screen.Screen.{Screen as Size}
use Rattle.rfb.specs.declared.script.line.Wants.{Wants}
use Rattle.rfb.specs.Plays.{LeavesPlayed, ShowsTo}
use Rattle.rfb.specs.ScriptRun.{IsPlayed}

pub leaves_played : {W : Type 0} (contents : W → Option (List ℕ)) (old new : W) (P : Type 0) (world : World)
    (r : Result (Unit {0}) Fault)
    (size : Size) (wants : Option Wants) (steps : List Numbered) →
    OnErr r ((new ≡ old) ⊎ (P × ShowsTo (AppendsBeginning (contents old) (contents new)) world)) →
    (P → IsPlayed size wants steps world) →
    OnErr r (LeavesPlayed size wants steps (contents old) (contents new))
leaves_played contents old new P world (Ok done) size wants steps left played = tt
leaves_played contents old new P world (Err fault) size wants steps (inl same) played = inl (ap contents same)
leaves_played contents old new P world (Err fault) size wants steps (inr begun) played =
    inr (world, played begun.0, begun.1)
