use Rattle.std.proofs.Common.{◌∙◌, Bool, sym, subst}
use Rattle.rfb_session.specs.console.Console.{KeepsButNotes}
use Rattle.rfb_session.specs.declared.console.Console.{Console}
use Rattle.rfb_session.specs.declared.console.plan.Rules.{Rules}
use Rattle.rfb_session.specs.relay.Server.{EndsFor, GoneNow, IsToldGone}
use Rattle.rfb_session.proofs.RelayStepLemmas.{none_of, over_ends, over_told, ends_then, told_then, side_then}
use Rattle.rfb_session.proofs.relay.Relay.lose_server.Goals as goal

pub end_unless_called-requires : goal.end_unless_called-requires
end_unless_called-requires g c = none_of c.note.new.self.outcome (sym c.if-is_some.ensures)

pub returns-then-is_some-clause-loses : goal.returns-then-is_some-clause-loses
returns-then-is_some-clause-loses g c =
    let forgets = c.forget_server.ensures.forgets in
    let kept = subst (λ (k : Console g.row.S.Denot). KeepsButNotes k c.note.new.self) forgets.console
    c.note.ensures in
    let over = sym c.if-is_some.ensures in
    GoneNow (sym c.if-is_gone.ensures) (record {
      presence = forgets.presence;
      coming = forgets.coming ∙ c.empty.ensures.empty;
      waits = forgets.waits;
      passed = forgets.passed;
      name = forgets.name;
      ends = over_ends c.args.self.now.console.rules.retry _ c.note.new.self.outcome c.args.gone kept.outcome over;
      desk = over_told _ _ c.note.new.self.outcome c.args.gone _ _ _ kept.outcome over kept.desk;
      side = kept.side;
    })

pub returns-clause-loses : goal.returns-clause-loses
returns-clause-loses g c =
    let forgets = c.forget_server.ensures.forgets in
    let kept = subst (λ (k : Console g.row.S.Denot). KeepsButNotes k c.note.new.self) forgets.console
    c.note.ensures in
    let going = sym c.if-is_some.ensures in
    let ends = c.end_unless_called.ensures.ends in
    let tells = c.tell_gone.ensures.tells in
    GoneNow (sym c.if-is_gone.ensures) (record {
      presence = tells.server.presence ∙ ends.server.presence ∙ forgets.presence;
      coming = tells.server.beside.noted.coming ∙ ends.server.beside.noted.coming ∙ forgets.coming
          ∙ c.empty.ensures.empty;
      waits = tells.server.beside.waits ∙ ends.server.beside.waits ∙ forgets.waits;
      passed = λ k within. rw (tells.server.beside.noted.passed ∙ ends.server.beside.noted.passed)
          (forgets.passed k within);
      name = tells.server.beside.noted.name ∙ ends.server.beside.noted.name ∙ forgets.name;
      ends = subst (λ (r : Rules). EndsFor r.retry c.args.self.now.console.outcome c.args.gone
          c.tell_gone.new.self.console.outcome) kept.side.stays.rules
          (ends_then _ _ c.note.new.self.outcome c.args.gone c.end_unless_called.new.self.console.outcome _
          kept.outcome going ends.ends tells.goes_on);
      desk = subst (λ (b : Bool). IsToldGone b c.args.self.now.console.outcome c.args.gone c.args.self.now.console.desk
          c.tell_gone.new.self.console.desk c.tell_gone.new.self.console.outcome) c.is_shown-was_shown.ensures
          (told_then _ _ c.note.new.self.outcome c.args.gone _ c.end_unless_called.new.self.console.desk _ _
          kept.outcome going (ends.desk ∙ kept.desk) tells.told);
      side = side_then _ c.note.new.self _ kept.side
          (side_then _ c.end_unless_called.new.self.console _ ends.side tells.side);
    })
