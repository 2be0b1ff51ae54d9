use Rattle.std.proofs.Common.{◌∙◌, refl, sym, subst, inl}
use Rattle.rfb_session.specs.declared.console.desk.Desk.{Desk}
use Rattle.rfb_session.specs.relay.Desk.{TellsSome, told_of_server}
use Rattle.rfb_session.proofs.RelayStepLemmas.{same_value, server_same, side_same}
use Rattle.rfb_session.proofs.relay.Relay.heed.Goals as goal

pub returns-in-Ok-clause-heeds : goal.returns-in-Ok-clause-heeds
returns-in-Ok-clause-heeds g c = record {
  told = λ a is. inl (
    c.tell_of_server.new.self,
    refl,
    subst (λ (d : Desk). TellsSome d (told_of_server c.args.event) c.tell_of_server.new.self)
        (sym (same_value c.in-Some.desk a (sym c.in-Some.is ∙ is))) c.in-Ok.ensures,
    refl,
  );
  server = server_same refl refl refl refl refl;
  side = side_same _ _ refl refl refl refl refl (λ was. was);
}
