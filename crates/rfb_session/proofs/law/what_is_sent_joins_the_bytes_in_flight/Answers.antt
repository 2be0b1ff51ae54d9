use Rattle.std.proofs.Common.{[], ◌++◌, sym, subst}
use Rattle.rfb_wire.specs.stream.Grammar.{ReadsAll}
use Rattle.rfb_viewer.specs.ServerBytes.{ServerAt}
use Rattle.rfb_session.proofs.NetworkLemmas.{reached_holds}
use Rattle.rfb_session.proofs.AnswerLemmas.{to_viewer_stream}
use Rattle.rfb_session.proofs.FlightLemmas.{first_flies}
use Rattle.rfb_session.proofs.SentLemmas.{composed_flies, called_flies, refusal_same}
use Rattle.rfb_session.proofs.MoveLemmas.{format_flies}
use Rattle.rfb_session.proofs.law.what_is_sent_joins_the_bytes_in_flight.Goals as goal

pub returns-clause-first : goal.returns-clause-first
returns-clause-first c = first_flies

pub returns-clause-update : goal.returns-clause-update
returns-clause-update c =
    λ e network new f reached flies composed. composed_flies e network.screen network.link new f
    (reached_holds e network reached) flies composed

pub returns-clause-call : goal.returns-clause-call
returns-clause-call c = λ e network f p v message bytes reached ready same flies spelled.
    called_flies e network.link f p v message bytes
    (reached_holds e network reached).phase ready flies
    (subst (λ (at : ServerAt). ReadsAll (to_viewer_stream e) at
    (f.viewer_has ++ f.viewer_gets) network.link.to_viewer [])
    (sym same) flies.to_viewer) spelled

pub returns-clause-format : goal.returns-clause-format
returns-clause-format c =
    λ e network f form bytes reached flies taken spelled. format_flies e network.link f form bytes
    (reached_holds e network reached).phase flies taken spelled

pub returns-clause-refusal : goal.returns-clause-refusal
returns-clause-refusal c =
    λ e network f reached flies. refusal_same e network.link f
    (reached_holds e network reached).phase flies
