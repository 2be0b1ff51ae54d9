use Rattle.std.proofs.Common.{refl}
use Rattle.rfb_session.specs.owner.OwnerStroke.{Drawn, Outside}
use Rattle.rfb_session.proofs.console.desk.Desk.draw.Goals as goal

pub returns-in-Ok : goal.returns-in-Ok
returns-in-Ok c = record {
  drawn = Drawn c.in-Ok.ensures.drawn;
  beside = record {
    guests = λ k. refl;
    lines = refl;
    rules = record { rules = refl; hold = refl; first = refl; large = refl };
  };
}

pub returns-in-Err : goal.returns-in-Err
returns-in-Err c = record {
  drawn = Outside (c.in-Err.ensures.refused.0 refl) c.in-Err.ensures.kept;
  beside = record {
    guests = λ k. refl;
    lines = refl;
    rules = record { rules = refl; hold = refl; first = refl; large = refl };
  };
}
