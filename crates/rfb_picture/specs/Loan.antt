-- What a `Picture` is after a loan of a part of it for writing.
use Rattle.std.specs.Prelude.{ℕ, List}
use Rattle.std.specs.Borrow.{Lends, Fml, RattleType, MutBor, Array}
use Rattle.rfb_picture.specs.Grid.{Grid, with_run}
use Rattle.rfb_picture.specs.contracts.picture.Picture.{the_row}

module _ (T : RattleType) (picture : MutBor (Grid T.Denot)) where
  -- once the borrow ends, the picture has at (x, y) and on to the right what the borrow had last;
  -- this is with_row where that still fits its row, as a slice does, which keeps its length
  abbrev pub LendsRow : ℕ → ℕ → MutBor (List T.Denot) → Fml
  LendsRow x y lent =
      Lends (the_row T) (Array T 0) picture lent (λ run. with_run x y run picture.now)
