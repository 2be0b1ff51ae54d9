-- A step of a viewer keeps the copy that its bytes end with, and no other.
use Rattle.std.proofs.Common.{◌≡◌, ℕ, zero, suc, ◌+◌, ◌<◌, ◌≤◌, List, [], ◌++◌, length, take, drop, Option}
use Rattle.std.proofs.Common.{Some, None, Ok, refl, sym, ◌∙◌, ap, arith, length-append}
use Rattle.std.proofs.lemmas.List.{length-take-le}
use Rattle.arrayvec.specs.ArrayVec.{ArrayVec}
use Rattle.rfb_pixel.specs.declared.colour.Colour.{Colour}
use Rattle.rfb_picture.specs.declared.rect.Rect.{Rect}
use Rattle.rfb_picture.specs.Grid.{Grid}
use Rattle.rfb_wire.specs.declared.encoding.Encoding.{Encoding}
use Rattle.rfb_wire.specs.declared.rect_head.RectHead.{RectHead as HeadOfRect}
use Rattle.rfb_wire.specs.stream.Prefix.{Next, More, Got, Bad}
use Rattle.rfb_wire.specs.stream.Parts.{named}
use Rattle.rfb_wire.specs.stream.Sequel.{First, Second}
use Rattle.rfb_wire.specs.stream.End.{IsMachine, FedBy, Steps, StepsBy, RunsOutBy}
use Rattle.rfb_wire.proofs.stream_laws.FeedLaws.{fed_start, fed_step, runs_out_later}
use Rattle.rfb_codec.specs.Painter.{Painting}
use Rattle.rfb_codec.specs.RectData.{source_in}
use Rattle.rfb_codec.specs.Stage.{copied_from}
use Rattle.rfb_codec.specs.UnderWay.{UnderWay, painting, Paints, CopiesFrom}
use Rattle.rfb_codec.specs.UpdateStream.{UpdatePoint, UpdateItem, UpdateFault, Message, Rectangle, SpellsNext}
use Rattle.rfb_codec.specs.UpdateStream.{update_stream}
use Rattle.rfb_codec.proofs.UpdateStreamLaws.{update_spelled}
use Rattle.rfb_hello.specs.declared.fault.HelloFault.{HelloFault}
use Rattle.rfb_hello.specs.ServerHandshake.{ServerPoint, ServerItem}
use Rattle.rfb_hello.specs.ServerItems.{server_handshake}
use Rattle.rfb_viewer.specs.declared.event.ViewerEvent.{ViewerEvent}
use Rattle.rfb_viewer.specs.declared.fault.ViewerFault.{ViewerFault}
use Rattle.rfb_viewer.specs.declared.viewer.Viewer.{Viewer}
use Rattle.rfb_viewer.specs.declared.viewer.moved.Move.{Move}
use Rattle.rfb_viewer.specs.declared.viewer.progress.Progress.{Progress}
use Rattle.rfb_viewer.specs.declared.viewer.progress.Progress.TheVariants.{Handshake, Head, RectHead, Data, Colours}
use Rattle.rfb_viewer.specs.declared.viewer.progress.Progress.TheVariants.{CutText, Failed}
use Rattle.rfb_viewer.specs.Damage.{under_way}
use Rattle.rfb_viewer.specs.Failed.{EndsAt}
use Rattle.rfb_viewer.specs.Fault.{fault_of_hello, fault_of_update}
use Rattle.rfb_viewer.specs.Moved.{moved_of, moved_if, item_moves, moving, HasMoved, KeepsMoved}
use Rattle.rfb_viewer.specs.Progress.{ProgressStandsFor}
use Rattle.rfb_viewer.specs.ServerBytes.{ServerAt, FromServer, server_bytes}
use Rattle.rfb_viewer.specs.Model.{StandsFor, picture_of, fault_of, making_of, offered_of, taken_of}
use Rattle.rfb_viewer.specs.Offer.{TakesOffer}
use Rattle.rfb_viewer.specs.Told.{ViewerTold, seen}
use Rattle.rfb_viewer.specs.Viewer.{Viewing, ViewerState, viewer, shows}
use Rattle.rfb_viewer.specs.steps.ItemMoves.{moves_by, MovesTo, Moves}
use Rattle.rfb_viewer.specs.steps.FedBytes.{StepsOn}
use Rattle.rfb_viewer.specs.steps.ItemDamage.{Damages, DamagesAt, EndsIn}
use Rattle.rfb_viewer.specs.steps.StepPromises.{Takes}
use Rattle.rfb_viewer.proofs.DamageLemmas.{fresh_begun, under_begun}
use Rattle.rfb_viewer.proofs.FeedLemmas.{stands_waits}
use Rattle.rfb_viewer.proofs.MessageLemmas.{here}
use Rattle.rfb_viewer.proofs.RectLemmas.{IsOpened, opened_at, at_rect_head, at_data, data_done, joined, painted_now}
use Rattle.rfb_viewer.proofs.TakingLemmas.{damages_at}
use Rattle.rfb_viewer.proofs.ViewerLaws.{server_bytes_laws}

pub moving_machine : (viewing : Viewing) → IsMachine (moving viewing)
moving_machine viewing = record { laws = server_bytes_laws viewing.form viewing.hello; past = λ s i. refl }

-- a call that is fed no bytes
pub moving_starts : (viewing : Viewing) (v : Viewer) → FedBy (moving viewing) (HasMoved viewing) v [] None v
moving_starts viewing v =
    fed_start (moving viewing) (HasMoved viewing) v (λ s prefix is. stands_waits viewing v s.state prefix is.stands)

-- ---- a step that takes bytes

module _ (viewing : Viewing) (old new : Viewer) (unit : List ℕ) (m : Moves old unit new) where
  pub moved_steps : (event : Option ViewerTold) → StepsBy (viewer viewing) (StandsFor viewing) old unit (Ok event) new →
      StepsBy (moving viewing) (HasMoved viewing) old unit (Ok event) new
  moved_steps event steps s prefix is = by _ refl (steps s.state prefix is.stands)
    where
      now : (n : Next FromServer ViewerFault) →
          (server_bytes viewing.form viewing.hello).next s.state.point (prefix ++ unit) ≡ n →
          moved_of new ≡ moves_by n s.moves
      now n e =
          m viewing s.state prefix is.stands ∙ ap (λ (k : Next FromServer ViewerFault). moves_by k (moved_of old)) e
          ∙ ap (moves_by n) is.moves_are

      by : (n : Next FromServer ViewerFault) →
          (server_bytes viewing.form viewing.hello).next s.state.point (prefix ++ unit) ≡ n →
          Steps (viewer viewing) (StandsFor viewing) new s.state (prefix ++ unit) n (Ok event) →
          Steps (moving viewing) (HasMoved viewing) new s (prefix ++ unit) n (Ok event)
      by More e h = (h.0, record { stands = h.1; moves_are = now More e })
      by (Got i rest) e h = (h.0, h.1, record { stands = h.2; moves_are = now (Got i rest) e })
      by (Bad fault) e h = absurd h

-- i bytes of a slice are taken, and now n more
pub moved_on : (old mid new : Viewer) (i n : ℕ) (bytes : List ℕ) (event : Option ViewerTold) →
    ((viewing : Viewing) → StepsBy (viewer viewing) (StandsFor viewing) mid (take n (drop i bytes)) (Ok event) new) →
    Moves mid (take n (drop i bytes)) new →
    ((viewing : Viewing) → FedBy (moving viewing) (HasMoved viewing) old (take i bytes) None mid) →
    (viewing : Viewing) → FedBy (moving viewing) (HasMoved viewing) old (take (i + n) bytes) event new
moved_on old mid new i n bytes event steps m fed = λ viewing.
    fed_step (moving viewing) (moving_machine viewing) (HasMoved viewing) old mid new i n bytes event (fed viewing)
    (moved_steps viewing mid new (take n (drop i bytes)) m event (steps viewing))

-- ---- a fault

fault_moves : (viewing : Viewing) (old new : Viewer) (fault : ViewerFault) (bytes : List ℕ) →
    EndsIn fault old bytes new →
    moved_of new ≡ moved_of old →
    RunsOutBy (moving viewing)
    (λ s front. EndsAt viewing fault (picture_of new) s.state front × (moved_of new ≡ s.moves))
    (HasMoved viewing) old bytes
fault_moves viewing old new fault bytes ends same s prefix is =
    let r = ends viewing s.state prefix is.stands in
    record { items = []; front = r.0; later = r.1; reads = r.2; quiet = refl; asked = (r.3, same ∙ is.moves_are) }

-- after bytes that were taken
pub moves_later : (fault : ViewerFault) (old mid new : Viewer) (i : ℕ) (bytes : List ℕ) →
    ((viewing : Viewing) → FedBy (moving viewing) (HasMoved viewing) old (take i bytes) None mid) →
    moved_of new ≡ moved_of mid → EndsIn fault mid (drop i bytes) new → KeepsMoved fault old bytes new
moves_later fault old mid new i bytes fed same ends = λ viewing.
    runs_out_later (moving viewing) (moving_machine viewing)
    (λ s front. EndsAt viewing fault (picture_of new) s.state front × (moved_of new ≡ s.moves))
    (HasMoved viewing) old mid i bytes (fed viewing) (fault_moves viewing mid new fault (drop i bytes) ends same)

-- ---- items that are no rectangle

step_moves : (viewing : Viewing) (p : ServerPoint) (bytes : List ℕ) (moves : List Move) →
    moves_by ((server_bytes viewing.form viewing.hello).next (First p) bytes) moves ≡ moves
step_moves viewing p bytes moves = by ((server_handshake viewing.hello.limit viewing.hello.max_places).next p bytes)
  where
    by : (n : Next ServerItem HelloFault) → moves_by (named (λ j. First j) fault_of_hello n) moves ≡ moves
    by More = refl
    by (Got step rest) = refl
    by (Bad fault) = refl

message_moves : (viewing : Viewing) (q : UpdatePoint) (bytes : List ℕ) (moves : List Move) → q.left ≡ 0 →
    moves_by ((server_bytes viewing.form viewing.hello).next (Second q) bytes) moves ≡ moves
message_moves viewing q bytes moves none = by (update_stream.next q bytes) refl
  where
    none_left : (left : ℕ) (item : UpdateItem) (front : List ℕ) → left ≡ 0 → SpellsNext q left item front →
        item_moves item moves ≡ moves
    none_left zero (Message message) front none spelled = refl
    none_left zero (Rectangle head body) front none spelled = absurd spelled
    none_left (suc left) item front none spelled = absurd (omega (arith, none))

    by : (n : Next UpdateItem UpdateFault) → update_stream.next q bytes ≡ n →
        moves_by (named (λ j. Second j) fault_of_update n) moves ≡ moves
    by More e = refl
    by (Got item rest) e =
        let r = (update_spelled.reads q).found bytes item rest e in
        none_left q.left item r.0 none r.2
    by (Bad fault) e = refl

-- no rectangle is under way, or its head
abbrev pub IsQuiet : Progress → Type 0
IsQuiet (RectHead more part) = ⊥
IsQuiet (Data more painter) = ⊥
IsQuiet (Failed fault) = ⊥
IsQuiet progress = Unit {0}

quiet_at : (viewing : Viewing) (v : Viewer) (p : Progress) (at : ServerAt) (g : Option (Grid Colour))
    (prefix bytes : List ℕ) (moves : List Move) →
    ProgressStandsFor viewing v p at g prefix → IsQuiet p →
    moves_by ((server_bytes viewing.form viewing.hello).next at bytes) moves ≡ moves
quiet_at viewing v Handshake (First p) g prefix bytes moves h quiet = step_moves viewing p bytes moves
quiet_at viewing v (Head part) (Second q) g prefix bytes moves h quiet = message_moves viewing q bytes moves h.0.left_is
quiet_at viewing v (RectHead more part) at g prefix bytes moves h quiet = absurd quiet
quiet_at viewing v (Data more painter) at g prefix bytes moves h quiet = absurd quiet
quiet_at viewing v (Colours more) (Second q) g prefix bytes moves h quiet =
    message_moves viewing q bytes moves h.0.left_is
quiet_at viewing v (CutText n more kept) (Second q) g prefix bytes moves h quiet =
    message_moves viewing q bytes moves h.0.left_is
quiet_at viewing v (Failed fault) at g prefix bytes moves h quiet = absurd quiet
quiet_at viewing v p at g prefix bytes moves h quiet = absurd h

-- bytes of any other item
pub quiet_moves : (old : Viewer) (moves : List Move) (unit : List ℕ) (p : Progress) → old.progress ≡ p → IsQuiet p →
    moves ≡ moved_of old → MovesTo old unit moves
quiet_moves old moves unit p was quiet same = λ viewing s prefix stands.
    same ∙ sym (quiet_at viewing old p s.point s.picture prefix (prefix ++ unit) (moved_of old)
    (here viewing old p s prefix was stands) quiet)

-- what such steps promise
pub quiet_takes : (old new : Viewer) (bytes : List ℕ) (used : ℕ) (event : Option ViewerEvent) (p : Progress) →
    old.progress ≡ p → IsQuiet p → DamagesAt p old (take used bytes) new → 0 < used →
    used ≤ length bytes →
    StepsOn old (take used bytes) event new → TakesOffer (seen event) old bytes new → fault_of new ≡ None →
    moved_of new ≡ moved_of old → making_of new ≡ making_of old → taken_of new ≡ taken_of old →
    Takes old bytes used event new
quiet_takes old new bytes used event p was quiet damage some within steps offered going same made taken = record {
  some = some;
  within = within;
  steps = steps;
  damage = damages_at old new (take used bytes) p was damage;
  moved = quiet_moves old (moved_of new) (take used bytes) p was quiet same;
  offered = offered;
  going = going;
  made = made;
  taken = taken;
}

-- ---- rectangles that wait for more

-- a step after which the viewer is inside an item has ended none
inside_moves : (old new : Viewer) (unit : List ℕ) →
    ((viewing : Viewing) → StepsBy (viewer viewing) (StandsFor viewing) old unit (Ok None) new) →
    ((viewing : Viewing) (t : ViewerState) → StandsFor viewing new t [] → ⊥) →
    moved_of new ≡ moved_of old → Moves old unit new
inside_moves old new unit steps inside same viewing s prefix stands =
    same ∙ by ((server_bytes viewing.form viewing.hello).next s.point (prefix ++ unit)) (steps viewing s prefix stands)
  where
    by : (n : Next FromServer ViewerFault) →
        Steps (viewer viewing) (StandsFor viewing) new s (prefix ++ unit) n (Ok None) →
        moved_of old ≡ moves_by n (moved_of old)
    by More h = refl
    by (Got i rest) h = absurd (inside viewing (shows viewing s i) h.2)
    by (Bad fault) h = absurd h

-- inside a rectangle's data
under_moves : (old new : Viewer) (unit : List ℕ) (r : Rect) →
    ((viewing : Viewing) → StepsBy (viewer viewing) (StandsFor viewing) old unit (Ok None) new) →
    under_way new.progress ≡ Some r → moved_of new ≡ moved_of old → Moves old unit new
under_moves old new unit r steps under same = inside_moves old new unit steps
    (λ viewing t stands.
    let none : Some r ≡ None = sym under
    ∙ under_begun viewing new new.progress t.point t.picture [] stands.progress_is ∙ fresh_begun t.point in
    cc) same

pub some_taken : (n : ℕ) (bytes : List ℕ) → 0 < n → n ≤ length bytes → 0 < length (take n bytes)
some_taken n bytes some within = let long : length (take n bytes) ≡ n =
    length-take-le n bytes within in omega (arith, long, some)

-- inside a rectangle's head
part_moves : (old new : Viewer) (unit : List ℕ) (more : ℕ) (part now : ArrayVec ℕ) →
    ((viewing : Viewing) → StepsBy (viewer viewing) (StandsFor viewing) old unit (Ok None) new) →
    new.progress ≡ RectHead more now → now.items ≡ part.items ++ unit → 0 < length unit →
    moved_of new ≡ moved_of old → Moves old unit new
part_moves old new unit more part now steps at is some same = inside_moves old new unit steps
    (λ viewing t stands.
    let h = at_rect_head viewing new more now t.point t.picture []
    (here viewing new (RectHead more now) t [] at stands) in
    let none : 0 ≡ length now.items = ap length h.4 in
    let long : length now.items ≡ length part.items + length unit = ap length is ∙ length-append part.items unit in
    omega (arith, none, long, some)) same

-- what such steps promise
module _ (old new : Viewer) (bytes : List ℕ) (used : ℕ) (some : 0 < used) (within : used ≤ length bytes)
    (steps : (viewing : Viewing) → StepsBy (viewer viewing) (StandsFor viewing) old (take used bytes) (Ok None) new)
    (damage : Damages old (take used bytes) new) (going : fault_of new ≡ None) (made : making_of new ≡ making_of old)
    (same : moved_of new ≡ moved_of old) (offered : offered_of new ≡ offered_of old)
    (taken : taken_of new ≡ taken_of old) where
  inside_takes : Moves old (take used bytes) new → Takes old bytes used None new
  inside_takes moves = record {
    some = some;
    within = within;
    steps = steps;
    damage = damage;
    moved = moves;
    offered = offered;
    going = going;
    made = made;
    taken = taken;
  }

  pub under_takes : (r : Rect) → under_way new.progress ≡ Some r → Takes old bytes used None new
  under_takes r under = inside_takes (under_moves old new (take used bytes) r steps under same)

  pub part_takes : (more : ℕ) (part now : ArrayVec ℕ) → new.progress ≡ RectHead more now →
      now.items ≡ part.items ++ take used bytes → Takes old bytes used None new
  part_takes more part now at is =
      inside_takes (part_moves old new (take used bytes) more part now steps at is (some_taken used bytes some within)
      same)

-- ---- rectangles that have ended

-- what a painter has copied is what the rectangle's data name
source_same : (painter next : UnderWay) (q : UpdatePoint) (encoding : Encoding) (to : Rect) (picture : Grid Colour)
    (body : List ℕ) (moves : List Move) →
    painting painter ≡ record { rect = to; encoding = encoding; form = q.form } →
    copied_from next.stage ≡ source_in (painting painter).encoding body →
    moved_if moves painter.rect (copied_from next.stage) ≡ moved_if moves to (source_in encoding body)
source_same painter next q encoding to picture body moves is from =
    ap (λ (r : Rect). moved_if moves r (copied_from next.stage)) (ap (λ (p : Painting). p.rect) is)
    ∙ ap (moved_if moves to) (from ∙ ap (λ (p : Painting). source_in p.encoding body) is)

module _ (old : Viewer) (moves : List Move) where
  pub paint_moves : (more : ℕ) (painter next : UnderWay) (picture now : Grid Colour) (unit : List ℕ) →
      old.progress ≡ Data more painter → old.picture ≡ Some picture →
      Paints painter picture unit next now → CopiesFrom painter picture unit next →
      moves ≡ moved_if (moved_of old) painter.rect (copied_from next.stage) → MovesTo old unit moves
  paint_moves more painter next picture now unit was shown paints copies moved = λ viewing s prefix stands.
      let h = at_data viewing old more painter s.point s.picture prefix
      (here viewing old (Data more painter) s prefix was stands) in
      let p = h.3 in
      let stood = painted_now viewing old old painter h.0 h.2.screen picture prefix shown p in
      let data_is =
      data_done h.0 p.head p.front h.2.screen p.awaits painter p.painting_is p.body unit picture now next stood
      paints in
      let all = joined viewing old old prefix p.front p.body unit p.prefix_is in
      let got : update_stream.next h.0 (prefix ++ unit) ≡ Got (Rectangle p.head (p.body ++ unit)) [] =
      rw all data_is.0 in
      let next_is : (server_bytes viewing.form viewing.hello).next s.point (prefix ++ unit) ≡ Got
      (Second (Rectangle p.head (p.body ++ unit))) [] =
      ap (λ (a : ServerAt). (server_bytes viewing.form viewing.hello).next a (prefix ++ unit)) h.1
      ∙ ap (named (λ j. Second j) fault_of_update) got in
      moved
      ∙ source_same painter next h.0 p.head.encoding p.head.rect picture (p.body ++ unit) (moved_of old)
      p.painting_is (copies h.2.screen p.body stood)
      ∙ sym (ap (λ (n : Next FromServer ViewerFault). moves_by n (moved_of old)) next_is)

  pub rect_moves : (more : ℕ) (part : ArrayVec ℕ) (unit whole rest all : List ℕ) (head : HeadOfRect)
      (picture now : Grid Colour) (painter next : UnderWay) →
      all ≡ unit ++ rest → IsOpened old more part unit whole head picture painter →
      Paints painter picture rest next now → CopiesFrom painter picture rest next →
      moves ≡ moved_if (moved_of old) painter.rect (copied_from next.stage) → MovesTo old all moves
  rect_moves more part unit whole rest all head picture now painter next same opened paints copies moved =
      λ viewing s prefix stands.
      let o = opened_at viewing old old s prefix more part unit whole head picture painter opened stands in
      let data_is =
      data_done o.q head whole o.ready.screen o.awaits painter o.painting_is [] rest picture now next o.fresh
      paints in
      let got : update_stream.next o.q (prefix ++ all) ≡ Got (Rectangle head ([] ++ rest)) [] =
      rw (same, o.all rest) data_is.0 in
      let next_is : (server_bytes viewing.form viewing.hello).next s.point (prefix ++ all) ≡ Got
      (Second (Rectangle head ([] ++ rest))) [] =
      ap (λ (a : ServerAt). (server_bytes viewing.form viewing.hello).next a (prefix ++ all)) o.at
      ∙ ap (named (λ j. Second j) fault_of_update) got in
      moved
      ∙ source_same painter next o.q head.encoding head.rect picture ([] ++ rest) (moved_of old) o.painting_is
      (copies o.ready.screen [] o.fresh)
      ∙ sym (ap (λ (n : Next FromServer ViewerFault). moves_by n (moved_of old)) next_is)
