-- The names so far name the keys.
use Rattle.std.proofs.Common.{◌≡◌, ◌≤◌, Some, length, map, take}
use Rattle.rfb_session.specs.drive.Keys.{key_of}
use Rattle.rfb_session.specs.language.Words.{texts}
use Rattle.rfb_session.proofs.drive.keys.keys_of.Given as goal

abbrev pub invariant-loop-name : goal.invariant-loop-name
invariant-loop-name l = record {
  named : map key_of (texts (take l.name-index l.names)) ≡ map (λ key. Some key) l.keys.items;
  few : length l.keys.items ≤ 8;
}
