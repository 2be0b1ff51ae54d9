use Rattle.rfb.proofs.play.play_recording.Goals as goal

pub play_to-requires : goal.play_to-requires
play_to-requires g c = rw c.only_raw.ensures at c.fresh_viewer-viewer.ensures
