use Rattle.std.proofs.Common.{refl, inl, inr}
use Rattle.rfb_session.proofs.RelayStepLemmas.{gone_told, server_same, shown_told, side_same, some_is_not}
use Rattle.rfb_session.proofs.relay.Relay.tell_gone.Goals as goal

pub returns-in-Ok-clause-tells : goal.returns-in-Ok-clause-tells
returns-in-Ok-clause-tells g c = record {
  told = shown_told c.args.was_shown _ c.args.gone _ _ _ c.if-not-was_shown.false
      (gone_told c.args.gone _ c.in-Some.desk c.lose_server.new.self _ c.in-Some.is c.in-Ok.ensures.share
      (inl c.in-Ok.ensures.told));
  goes_on = inl refl;
  server = server_same refl refl refl refl refl;
  side = side_same _ _ refl refl refl refl refl (λ was. was);
}

pub returns-in-Err-clause-tells : goal.returns-in-Err-clause-tells
returns-in-Err-clause-tells g c = record {
  told = shown_told c.args.was_shown _ c.args.gone _ _ _ c.if-not-was_shown.false
      (gone_told c.args.gone _ c.in-Some.desk c.lose_server.new.self _ c.in-Some.is c.in-Err.ensures.share (inr refl));
  goes_on = inr refl;
  server = server_same refl refl refl refl refl;
  side = side_same _ _ refl refl refl refl refl (λ was. some_is_not _);
}
