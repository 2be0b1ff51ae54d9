use Rattle.std.proofs.Common.{ℕ, List, refl, inl, subst}
use Rattle.rfb_session.specs.console.Turns.{IsFreshDesk}
use Rattle.rfb_session.proofs.console.Console.open.Goals as goal

pub returns-in-Ok-clause-opens : goal.returns-in-Ok-clause-opens
returns-in-Ok-clause-opens g c = inl (
  c.in-Ok.desk,
  refl,
  subst (λ (name : List ℕ). IsFreshDesk c.args.screen name c.args.self.now.rules c.in-Ok.desk)
      c.as_slice.ensures.value c.in-Ok.ensures,
)
