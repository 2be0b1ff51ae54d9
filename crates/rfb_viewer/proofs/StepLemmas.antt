-- Steps of a viewer after the handshake: each is by bytes of one item.
use Rattle.std.proofs.Common.{◌≡◌, ℕ, zero, suc, ◌+◌, ◌==◌, Bool, false, List, [], ◌++◌, Option, Some, None, Ok, Err}
use Rattle.std.proofs.Common.{if◌then◌else◌, refl, sym, subst, ◌∙◌, ap, arith}
use Rattle.std.proofs.lemmas.Bool.Decides.{nat_tests}
use Rattle.arrayvec.specs.ArrayVec.{ArrayVec}
use Rattle.rfb_pixel.specs.declared.colour.Colour.{Colour}
use Rattle.rfb_pixel.specs.Format.{PixelFormat}
use Rattle.rfb_picture.specs.Grid.{Grid}
use Rattle.rfb_wire.specs.declared.encoding.Encoding.{Encoding}
use Rattle.rfb_wire.specs.stream.Prefix.{Next, More, Got, Bad}
use Rattle.rfb_wire.specs.stream.Parts.{named}
use Rattle.rfb_wire.specs.stream.Sequel.{Second, past_in}
use Rattle.rfb_wire.specs.stream.End.{Steps, StepsBy}
use Rattle.rfb_codec.specs.Effect.{effect}
use Rattle.rfb_codec.specs.UpdateStream.{UpdatePoint, UpdateItem, UpdateFault, update_stream}
use Rattle.rfb_hello.specs.declared.viewer_hello.ViewerHello.{ViewerHello}
use Rattle.rfb_hello.specs.ViewerModel.{setup_of, is_open, reason_of}
use Rattle.rfb_viewer.specs.declared.fault.ViewerFault.{ViewerFault}
use Rattle.rfb_viewer.specs.declared.viewer.Viewer.{Viewer}
use Rattle.rfb_viewer.specs.declared.viewer.progress.Progress.{Progress}
use Rattle.rfb_viewer.specs.declared.viewer.progress.Request.{Request}
use Rattle.rfb_viewer.specs.Fault.{fault_of_update}
use Rattle.rfb_viewer.specs.ServerBytes.{ServerAt, FromServer, server_two, server_bytes}
use Rattle.rfb_viewer.specs.Told.{ViewerTold, is_last, item_told, done_told}
use Rattle.rfb_viewer.specs.Viewer.{Viewing, ViewerState, viewer, shows, told_at, picture_after, effect_on, ends_update}
use Rattle.rfb_viewer.specs.Progress.{ProgressStandsFor, IsReadyAt}
use Rattle.rfb_viewer.specs.Model.{StandsFor, is_outstanding}
use Rattle.rfb_viewer.specs.steps.Steps.{progress_past, told_past, request_past}

-- ---- a viewer that is made of another

-- it has that progress, that request and that picture, and all else as it was
pub record IsMade (old new : Viewer) (progress : Progress) (request : Request) (picture : Option (Grid Colour)) : Type
    0 where
  pub hello : new.hello ≡ old.hello
  pub form : new.format ≡ old.format
  pub encodings : new.encodings ≡ old.encodings
  pub limit : new.text_limit ≡ old.text_limit
  pub progress_is : new.progress ≡ progress
  pub request_is : new.request ≡ request
  pub picture_is : new.picture ≡ picture

-- what no step changes once the handshake is done
abbrev Lasting : Type 0
Lasting = ViewerHello × PixelFormat × ArrayVec Encoding × ℕ

abbrev pub lasting : Viewer → Lasting
lasting v = (v.hello, v.format, v.encodings, v.text_limit)

-- it is enough to know these to be the same
pub made_so : {old new : Viewer} {progress : Progress} {request : Request} {picture : Option (Grid Colour)} →
    lasting new ≡ lasting old → new.progress ≡ progress → new.request ≡ request →
    new.picture ≡ picture →
    IsMade old new progress request picture
made_so {old} {new} same progress_is request_is picture_is = record {
  hello = ap (λ (l : Lasting). l.0) same;
  form = ap (λ (l : Lasting). l.1) same;
  encodings = ap (λ (l : Lasting). l.2) same;
  limit = ap (λ (l : Lasting). l.3) same;
  progress_is = progress_is;
  request_is = request_is;
  picture_is = picture_is;
}

module _ (viewing : Viewing) (old new : Viewer) where
  pub made_stands : (p : Progress) (r : Request) (g : Option (Grid Colour)) (s t : ViewerState) (prefix rest : List ℕ) →
      IsMade old new p r g → StandsFor viewing old s prefix → t.outstanding ≡ is_outstanding r →
      ProgressStandsFor viewing new p t.point t.picture rest → StandsFor viewing new t rest
  made_stands p r g s t prefix rest made stands out progress = record {
    setup_is = ap setup_of made.hello ∙ stands.setup_is;
    limit_is = made.limit ∙ stands.limit_is;
    encodings_are = ap (λ e. e.items) made.encodings ∙ stands.encodings_are;
    outstanding_is = out ∙ ap is_outstanding (sym made.request_is);
    progress_is = subst (λ (q : Progress). ProgressStandsFor viewing new q t.point t.picture rest)
        (sym made.progress_is) progress;
  }

  -- the messages go on
  abbrev pub ready_same : (p : Progress) (r : Request) (g picture : Option (Grid Colour)) (q : UpdatePoint) (left : ℕ) →
      IsMade old new p r g → IsReadyAt old q picture left → IsReadyAt new q picture left
  ready_same p r g picture q left made ready = record {
    closed = ap is_open made.hello ∙ ready.closed;
    unreasoned = ap reason_of made.hello ∙ ready.unreasoned;
    form_is = ready.form_is ∙ sym made.form;
    left_is = ready.left_is;
    screen = ready.screen;
    picture_is = ready.picture_is;
    columns = ready.columns;
    rows = ready.rows;
  }

  -- after an item with that effect
  pub ready_past : (p : Progress) (r : Request) (g : Option (Grid Colour))
      (picture : Option (Grid Colour)) (q : UpdatePoint) (n left : ℕ) (now : Grid Colour) → IsMade old new p r g →
      (ready : IsReadyAt old q picture n) → now.width ≡ ready.screen.width → now.height ≡ ready.screen.height →
      IsReadyAt new (record q { left = left }) (Some now) left
  ready_past p r g picture q n left now made ready wide high = record {
    closed = ap is_open made.hello ∙ ready.closed;
    unreasoned = ap reason_of made.hello ∙ ready.unreasoned;
    form_is = ready.form_is ∙ sym made.form;
    left_is = refl;
    screen = now;
    picture_is = refl;
    columns = wide ∙ ready.columns;
    rows = high ∙ ready.rows;
  }

  -- ---- the answers of a step

  next_is : (s : ViewerState) (q : UpdatePoint) (bytes : List ℕ) (n : Next UpdateItem UpdateFault) →
      s.point ≡ Second q → update_stream.next q bytes ≡ n →
      (server_bytes viewing.form viewing.hello).next s.point bytes ≡ named (λ j. Second j) fault_of_update n
  next_is s q bytes n at e = ap (λ (p : ServerAt). (server_bytes viewing.form viewing.hello).next p bytes)
      at ∙ ap (named (λ j. Second j) fault_of_update) e

  pub more_step : (unit : List ℕ) → ((s : ViewerState) (prefix : List ℕ) → StandsFor viewing old s prefix →
      (q : UpdatePoint) × (s.point ≡ Second q) × (update_stream.next q (prefix ++ unit) ≡ More)
      × StandsFor viewing new s (prefix ++ unit)) → StepsBy (viewer viewing) (StandsFor viewing) old unit (Ok None) new
  more_step unit step s prefix stands =
      let h = step s prefix stands in
      subst (λ (n : Next FromServer ViewerFault). Steps (viewer viewing) (StandsFor viewing) new s (prefix ++ unit) n
      (Ok None)) (sym (next_is s h.0 (prefix ++ unit) More h.1 h.2)) (refl, h.3)

  pub got_step : (unit : List ℕ) (event : Option ViewerTold) →
      ((s : ViewerState) (prefix : List ℕ) → StandsFor viewing old s prefix →
      (q : UpdatePoint) × (i : UpdateItem) × (s.point ≡ Second q) × (update_stream.next q (prefix ++ unit) ≡ Got i [])
      × (item_told viewing.hello.text_limit q i ≡ event) × StandsFor viewing new (shows viewing s (Second i)) []) →
      StepsBy (viewer viewing) (StandsFor viewing) old unit (Ok event) new
  got_step unit event step s prefix stands =
      let h = step s prefix stands in
      let told = ap (λ (p : ServerAt). told_at viewing p (Second h.1)) h.2 ∙ h.4 in
      subst (λ (n : Next FromServer ViewerFault). Steps (viewer viewing) (StandsFor viewing) new s (prefix ++ unit) n
      (Ok event)) (sym (next_is s h.0 (prefix ++ unit) (Got h.1 []) h.2 h.3)) (refl, told, h.5)

  pub bad_step : (unit : List ℕ) (fault : UpdateFault) →
      ((s : ViewerState) (prefix : List ℕ) → StandsFor viewing old s prefix →
      (q : UpdatePoint) × (s.point ≡ Second q) × (update_stream.next q (prefix ++ unit) ≡ Bad fault)) →
      StepsBy (viewer viewing) (StandsFor viewing) old unit (Err (fault_of_update fault)) new
  bad_step unit fault step s prefix stands =
      let h = step s prefix stands in
      subst (λ (n : Next FromServer ViewerFault). Steps (viewer viewing) (StandsFor viewing) new s (prefix ++ unit) n
      (Err (fault_of_update fault))) (sym (next_is s h.0 (prefix ++ unit) (Bad fault) h.1 h.2)) refl

  -- ---- after an item

  -- a viewer that is made so stands for the state after the item
  pub past_stands : (s : ViewerState) (prefix : List ℕ) (q : UpdatePoint) (i : UpdateItem) (n left : ℕ)
      (g : Grid Colour) (p : Progress) (r : Request) → StandsFor viewing old s prefix → s.point ≡ Second q →
      (ready : IsReadyAt old q s.picture n) → IsMade old new p r (Some g) →
      update_stream.past q i ≡ record q { left = left } → effect q i ready.screen ≡ g → g.width ≡ ready.screen.width →
      g.height ≡ ready.screen.height → (if is_last q i then false else s.outstanding) ≡ is_outstanding r →
      (IsReadyAt new (record q { left = left }) (Some g) left →
      ProgressStandsFor viewing new p (Second (record q { left = left })) (Some g) []) →
      StandsFor viewing new (shows viewing s (Second i)) []
  past_stands s prefix q i n left g p r stands at ready made past has wide high out progress =
      let t = shows viewing s (Second i) in
      let point : t.point ≡ Second (record q { left = left }) = ap (λ (a : ServerAt).
      past_in (server_two viewing.form viewing.hello) a (Second i)) at ∙ ap (λ (a : UpdatePoint). Second a) past in
      let picture : t.picture ≡ Some g = ap (λ (a : ServerAt). picture_after a (Second i) s.picture)
      at ∙ (ap (effect_on q i) ready.picture_is ∙ ap (λ (k : Grid Colour). Some k) has) in
      let outstanding : t.outstanding ≡ is_outstanding r =
      ap (λ (a : ServerAt). if ends_update a (Second i) then false else s.outstanding) at ∙ out in
      let now = progress (ready_past p r (Some g) s.picture q n left g made ready wide high) in
      made_stands p r (Some g) s t prefix [] made stands outstanding
      (subst (λ (a : ServerAt). ProgressStandsFor viewing new p a t.picture []) (sym point)
      (subst (λ (k : Option (Grid Colour)). ProgressStandsFor viewing new p (Second (record q { left = left }))
      k []) (sym picture) now))

  -- where `left` rectangles are left
  pub past_progress : (left : ℕ) (q : UpdatePoint) (g : Grid Colour) → new.picture ≡ Some g →
      IsReadyAt new q (Some g) left → ProgressStandsFor viewing new (progress_past left) (Second q) (Some g) []
  past_progress zero q g stores ready = (ready, stores, refl, tt)
  past_progress (suc more) q g stores ready =
      let same : suc more ≡ more + 1 = omega arith in
      (subst (λ (k : ℕ). IsReadyAt new q (Some g) k) same ready, stores, refl, omega arith)

-- ---- the end of an update

pub past_request : (left : ℕ) (r : Request) (outstanding last : Bool) → last ≡ (left == 0) →
    outstanding ≡ is_outstanding r → (if last then false else outstanding) ≡ is_outstanding (request_past left r)
past_request zero r outstanding last e is = rw e refl
past_request (suc more) r outstanding last e is = let no : last ≡ false = e ∙ grind (arith, nat_tests) in rw no is

pub past_told : (left : ℕ) (last : Bool) → last ≡ (left == 0) → done_told last ≡ told_past left
past_told zero last e = ap done_told e
past_told (suc more) last e = let no : last ≡ false = e ∙ grind (arith, nat_tests) in ap done_told no

pub one_left : (n more : ℕ) → n ≡ more + 1 → (n == 1) ≡ (more == 0)
one_left n zero e = rw e refl
one_left n (suc more) e = grind (arith, nat_tests)
