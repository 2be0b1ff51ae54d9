-- What stays of a session where little of it changes.
use Rattle.std.proofs.Common.{ℕ, Bool, Option, sym, ◌∙◌}
use Rattle.rfb_picture.specs.Grid.{Grid, IsGrid}
use Rattle.rfb_picture.specs.Area.{Places}
use Rattle.rfb_server.specs.declared.session.Session.{Session}
use Rattle.rfb_codec.specs.Effect.{IsAlike}
use Rattle.rfb_server.specs.session.Marks.{AreAlike}
use Rattle.rfb_server.specs.session.Sessions.{KeepsSetting, IsSame}
use Rattle.rfb_server.specs.update.Sends.{IsKept}

-- what is kept by one step and by the next
pub setting_then : (a b c : Session) → KeepsSetting a b → KeepsSetting b c → KeepsSetting a c
setting_then a b c one two = record {
  hello = two.hello ∙ one.hello;
  progress = two.progress ∙ one.progress;
  text_limit = two.text_limit ∙ one.text_limit;
  format = two.format ∙ one.format;
  encodings = two.encodings ∙ one.encodings;
}

pub setting_back : (old new : Session) → KeepsSetting old new → KeepsSetting new old
setting_back old new kept = record {
  hello = sym kept.hello;
  progress = sym kept.progress;
  text_limit = sym kept.text_limit;
  format = sym kept.format;
  encodings = sym kept.encodings;
}

pub same_then : (a b c : Session) → IsSame a b → IsSame b c → IsSame a c
same_then a b c one two = record {
  setting = setting_then a b c one.setting two.setting;
  known = two.known ∙ one.known;
  area = two.area ∙ one.area;
}

pub kept_then : (a b c : Session) → IsKept a b → IsKept b c → IsKept a c
kept_then a b c one two = record {
  setting = setting_then a b c one.setting two.setting;
  area = two.area ∙ one.area;
  marks = two.marks ∙ one.marks;
  hints = two.hints ∙ one.hints;
  claim = two.claim ∙ one.claim;
}

-- the places of a session are of one size still where what is known keeps its size
pub alike_sent : (known now : Grid (Option ℕ)) (area : Places) (marks : Grid Bool) → IsGrid now →
    IsAlike known now →
    AreAlike known area marks → AreAlike now area marks
alike_sent known now area marks whole size alike = record {
  known_whole = whole;
  area_is = alike.area_is;
  marks_whole = alike.marks_whole;
  area_wide = alike.area_wide ∙ size.columns;
  area_high = alike.area_high ∙ size.rows;
  marks_wide = alike.marks_wide ∙ size.columns;
  marks_high = alike.marks_high ∙ size.rows;
  columns = rw (← size.columns) alike.columns;
  rows = rw (← size.rows) alike.rows;
}
