use Rattle.rfb_picture.specs.layout.Plane.{HasMasked}
use Rattle.rfb_picture.proofs.words.has_strip.Given as goal

-- the rows so far have the mask's bits
abbrev pub invariant-loop-row : goal.invariant-loop-row
invariant-loop-row l = HasMasked l.words l.strip.across l.strip.column l.strip.mask l.fn.top l.row
