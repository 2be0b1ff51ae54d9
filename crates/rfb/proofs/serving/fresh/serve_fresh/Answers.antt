use Rattle.rfb.proofs.serving.fresh.serve_fresh.Goals as goal

pub returns-in-Scene : goal.returns-in-Scene
returns-in-Scene g c = rw c.in-Scene.is c.serve_scene.ensures

pub returns-in-Picture : goal.returns-in-Picture
returns-in-Picture g c = rw c.in-Picture.is c.serve_picture.ensures
