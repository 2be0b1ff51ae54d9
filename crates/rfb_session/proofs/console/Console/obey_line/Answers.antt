use Rattle.std.proofs.Common.{sym, ap, ◌∙◌, Option}
use Rattle.std.specs.Option.{option_map}
use Rattle.rfb_server.specs.Strokes.{stroke}
use Rattle.rfb_server.specs.declared.drawing.Drawing.{Drawing}
use Rattle.rfb_session.proofs.ConsoleLemmas.{obeys_drawn}
use Rattle.rfb_session.proofs.console.Console.obey_line.Goals as goal

pub returns-in-End-clause-obeys : goal.returns-in-End-clause-obeys
returns-in-End-clause-obeys g c = rw c.in-End.is c.end_seat.ensures.lets_go

pub returns-in-Hold-clause-obeys : goal.returns-in-Hold-clause-obeys
returns-in-Hold-clause-obeys g c = rw c.in-Hold.is c.hold.ensures.holds

pub returns-in-Show-clause-obeys : goal.returns-in-Show-clause-obeys
returns-in-Show-clause-obeys g c = rw c.in-Show.is c.show.ensures.shows

pub returns-in-Some-clause-obeys : goal.returns-in-Some-clause-obeys
returns-in-Some-clause-obeys g c =
    obeys_drawn c.args.self.now.name.items c.args.self.now.rules c.args.self.now.desk c.args.self.now.outcome _ _
    c.args.line (stroke c.in-Some.drawing)
    (sym c.drawing_of.ensures
    ∙ ap (λ (o : Option Drawing). option_map (λ drawing. stroke drawing) o) c.in-Some.is)
    c.draw.ensures.draws
