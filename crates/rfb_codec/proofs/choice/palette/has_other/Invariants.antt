use Rattle.std.proofs.Common.{◌≡◌, ◌≢◌, ℕ, ◌<◌, ◌≤◌, ◌⊎◌, get_or}
use Rattle.rfb_codec.proofs.choice.palette.has_other.Given as goal

abbrev pub invariant-loop-pixel : goal.invariant-loop-pixel
invariant-loop-pixel l = record {
  some : l.others ≤ l.pixel-index;
  two : l.others ≡ 0 → (k : ℕ) → k < l.pixel-index → (get_or l.pixels k 0 ≡ l.first) ⊎ (get_or l.pixels k 0 ≡ l.second);
  third : 0 < l.others →
      (k : ℕ) × (k < l.pixel-index) × (get_or l.pixels k 0 ≢ l.first) × (get_or l.pixels k 0 ≢ l.second);
}
