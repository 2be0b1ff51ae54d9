use Rattle.std.proofs.Common.{◌∙◌, List, ℕ, refl, sym, subst, inl}
use Rattle.rfb_session.specs.declared.console.desk.Desk.{Desk}
use Rattle.rfb_session.specs.relay.Desk.{TellsServer, up_of}
use Rattle.rfb_session.proofs.RelayStepLemmas.{same_value}
use Rattle.rfb_session.proofs.relay.Relay.tell_up.Goals as goal

pub returns-in-Ok-clause-tells : goal.returns-in-Ok-clause-tells
returns-in-Ok-clause-tells g c =
    let noted = c.note.ensures in
    let name = c.args.self.now.server_name.items in
    record {
      presence = refl;
      told = λ a is. inl (
        c.tell_up.new.self,
        refl,
        subst (λ (d : Desk). TellsServer d (up_of d.share name) c.tell_up.new.self)
            (sym (same_value c.in-Some.desk a (sym c.in-Some.is ∙ noted.desk ∙ is)))
            (subst (λ (l : List ℕ). TellsServer c.in-Some.desk (up_of c.in-Some.desk.share l) c.tell_up.new.self)
            c.as_slice.ensures.value c.in-Ok.ensures),
        noted.outcome,
      );
      keeps = assumption refl;
    }
