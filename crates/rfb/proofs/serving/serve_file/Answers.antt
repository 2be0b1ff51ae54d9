use Rattle.rfb.proofs.ServingLemmas.{by_fault, by_no_picture, spelled_done, spelled_left}
use Rattle.rfb.proofs.serving.serve_file.Goals as goal

pub returns-clause-done : goal.returns-clause-done
returns-clause-done g c =
    spelled_done c.listen.result c.in_ok-pixmap.pixmap c.args.options.connections _ _
    c.in_ok-pixmap.ensures.read c.listen.ensures.done

pub returns-clause-stopped : goal.returns-clause-stopped
returns-clause-stopped g c =
    spelled_left c.listen.result c.in_ok-pixmap.pixmap c.args.options.connections _ _ _
    c.in_ok-pixmap.ensures.read c.listen.ensures.stopped

pub returns-clause-why : goal.returns-clause-why
returns-clause-why g c = by_fault c.listen.result c.listen.ensures.why

pub returns-clause-unwritten : goal.returns-clause-unwritten
returns-clause-unwritten g c flaw is = absurd (by_no_picture c.listen.result flaw c.listen.ensures.why is)
