use Rattle.std.proofs.Common.{◌≡◌, ◌≤◌, take}
use Rattle.rfb_codec.specs.Choice.{places_of}
use Rattle.rfb_codec.proofs.choice.palette.places_of.Given as goal

abbrev pub invariant-loop-other : goal.invariant-loop-other
invariant-loop-other l = record {
  counted : l.count ≡ places_of l.pixel (take l.other-index l.pixels);
  few : l.count ≤ l.other-index;
}
