use Rattle.std.proofs.Common.{ℕ, ◌<◌, ◌≤◌, slice_index}
use Rattle.rfb_codec.proofs.codec.tests.fits.Given as goal

abbrev pub invariant-loop-pixel : goal.invariant-loop-pixel
invariant-loop-pixel l = (k : ℕ) → k < l.pixel-index → slice_index l.pixel-items k ≤ l.most
