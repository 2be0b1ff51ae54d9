-- The keys so far.
use Rattle.std.proofs.Common.{◌≡◌, ◌++◌, map, take}
use Rattle.rfb_session.specs.drive.driver.Acts.{OfKey, spelled}
use Rattle.rfb_session.proofs.drive.driver.sending.spell_keys.Given as goal

abbrev pub invariant-loop-event : goal.invariant-loop-event
invariant-loop-event l =
    l.out.items ≡ l.initial.out.items ++ spelled (map (λ event. OfKey event) (take l.event-index l.events))
