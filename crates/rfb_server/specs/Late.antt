-- What a session is that takes the memory of its places late: one that has it from the start.
use Rattle.std.specs.Prelude.{[], ◌∷◌, None}
use Rattle.rfb_pixel.specs.Format.{rgb888}
use Rattle.rfb_picture.specs.Grid.{grid}
use Rattle.rfb_picture.specs.Area.{no_places}
use Rattle.rfb_server.specs.declared.late.entrance.Entrance.{Entrance}
use Rattle.rfb_server.specs.declared.late.stage.Stage.{Stage}
use Rattle.rfb_server.specs.declared.late.stage.Stage.TheVariants.{Entering, Within}
use Rattle.rfb_server.specs.declared.session.Session.{Session}
use Rattle.rfb_server.specs.session.Ended.{progress_at}
use Rattle.rfb_server.specs.session.Marks.{none_known, all_marked}

-- the session that an entrance is
abbrev pub entered : Entrance → Session
entered entrance = record {
  alloc = entrance.alloc;
  hello = entrance.hello;
  progress = progress_at entrance.ended;
  text_limit = entrance.text_limit;
  format = rgb888;
  encodings = [];
  known = none_known entrance.width entrance.height;
  area = no_places entrance.width entrance.height;
  marks = all_marked entrance.width entrance.height;
  hints = entrance.hints;
  claim = None;
  block = grid 1 1 (0 ∷ []);
  alike = entrance.alike;
  partial = entrance.partial;
  sixteen = entrance.sixteen;
}

-- the session that a stage is
abbrev pub session_of_stage : Stage → Session
session_of_stage (Entering entrance) = entered entrance
session_of_stage (Within session) = session
