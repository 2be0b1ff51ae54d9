use Rattle.rfb.proofs.ServingLemmas.{by_fault, by_no_picture, file_done, file_left, scene_done, scene_left}
use Rattle.rfb.proofs.serving.serve_at.Goals as goal

pub returns-in-Scene-clause-done : goal.returns-in-Scene-clause-done
returns-in-Scene-clause-done g c =
    scene_done c.listen.result c.args.options c.in-Scene.size _ _ c.in-Scene.is c.listen.ensures.done

pub returns-in-Scene-clause-stopped : goal.returns-in-Scene-clause-stopped
returns-in-Scene-clause-stopped g c =
    scene_left c.listen.result c.args.options c.in-Scene.size _ _ c.in-Scene.is c.listen.ensures.stopped

pub returns-in-Scene-clause-why : goal.returns-in-Scene-clause-why
returns-in-Scene-clause-why g c = by_fault c.listen.result c.listen.ensures.why

pub returns-in-Scene-clause-unwritten : goal.returns-in-Scene-clause-unwritten
returns-in-Scene-clause-unwritten g c flaw is = absurd (by_no_picture c.listen.result flaw c.listen.ensures.why is)

pub returns-in-Picture-clause-done : goal.returns-in-Picture-clause-done
returns-in-Picture-clause-done g c =
    file_done c.serve_file.result c.args.options c.in-Picture.path _ _ c.in-Picture.is c.serve_file.ensures.done

pub returns-in-Picture-clause-stopped : goal.returns-in-Picture-clause-stopped
returns-in-Picture-clause-stopped g c =
    file_left g.W.Write.contents c.serve_file.result c.args.options c.in-Picture.path c.args.context.now.output.now
    c.serve_file.new.context.output.now
    c.in-Picture.is c.serve_file.ensures.stopped
