-- What bytes of one item add to the damage, and that the picture outside of it is as it was.
use Rattle.std.proofs.Common.{◌≡◌, ◌≢◌, ℕ, ◌+◌, ◌<◌, ◌&&◌, nat_lt, Bool, true, false, List, [], ◌++◌, length, Option}
use Rattle.std.proofs.Common.{Some, None, ◌⊎◌, inl, inr, refl, sym, subst, ◌∙◌, ap, arith, append_assoc, length-append}
use Rattle.std.proofs.lemmas.Bool.Decides.{nat_tests}
use Rattle.rfb_pixel.specs.declared.colour.Colour.{Colour}
use Rattle.rfb_picture.specs.declared.rect.Rect.{Rect}
use Rattle.rfb_picture.specs.Rect.{rect, contains}
use Rattle.rfb_picture.specs.Grid.{Grid, uniform}
use Rattle.rfb_picture.proofs.GridLaws.{width-uniform, height-uniform}
use Rattle.rfb_wire.specs.RectStream.{rect_head}
use Rattle.rfb_wire.specs.stream.Prefix.{Next, More, Got, Bad}
use Rattle.rfb_wire.specs.stream.Parts.{named}
use Rattle.rfb_wire.specs.stream.Sequel.{First, Second}
use Rattle.rfb_codec.specs.UpdateStream.{UpdatePoint, UpdateItem, Message, Rectangle, update_stream}
use Rattle.rfb_codec.proofs.EffectLaws.{effect_message}
use Rattle.rfb_hello.specs.ServerHandshake.{ServerPoint, AwaitsVersion, AwaitsSecurity, AwaitsResult, AwaitsInit}
use Rattle.rfb_hello.specs.ServerHandshake.{AwaitsName, Begun, ServerItem, ProtocolVersion, SecurityNone, SecurityTypes}
use Rattle.rfb_hello.specs.ServerHandshake.{SecurityResult, ServerInit, Name, SpellsServerItem}
use Rattle.rfb_hello.specs.ServerItems.{server_handshake}
use Rattle.rfb_hello.proofs.ServerStreamLaws.{server_handshake_spelled}
use Rattle.rfb_viewer.specs.declared.fault.ViewerFault.{ViewerFault}
use Rattle.rfb_viewer.specs.declared.fault.ViewerFault.TheVariants.{NoMemory}
use Rattle.rfb_viewer.specs.declared.viewer.Viewer.{Viewer}
use Rattle.rfb_viewer.specs.declared.viewer.damage.Edges.{Edges}
use Rattle.rfb_viewer.specs.declared.viewer.progress.Progress.{Progress}
use Rattle.rfb_viewer.specs.declared.viewer.progress.Progress.TheVariants.{Handshake, Head, RectHead, Data, Colours}
use Rattle.rfb_viewer.specs.declared.viewer.progress.Progress.TheVariants.{CutText, Failed}
use Rattle.rfb_viewer.specs.Damage.{joined_if, rect_of_damage, holds, colour_at, under_way, ended_of, head_rect}
use Rattle.rfb_viewer.specs.Damage.{begun_next, begun, step_damage, item_damage, damage_after}
use Rattle.rfb_viewer.specs.steps.ItemDamage.{screen_made, ended_with, begun_on, DamagesAt}
use Rattle.rfb_viewer.specs.Fault.{fault_of_hello, fault_of_update}
use Rattle.rfb_viewer.specs.Progress.{ProgressStandsFor, IsScreenAt, IsReadyAt, Stores}
use Rattle.rfb_viewer.specs.ServerBytes.{ServerAt, FromServer, server_bytes}
use Rattle.rfb_viewer.specs.ShownPieces.{ShowsAt, ShowsPieces}
use Rattle.rfb_viewer.specs.Model.{StandsFor}
use Rattle.rfb_viewer.specs.Viewer.{Viewing, ViewerState, black, screen_after, effect_on, picture_after}
use Rattle.rfb_viewer.proofs.DamageLemmas.{joined_holds, some_begun, head_begun, item_begun, same_rect}
use Rattle.rfb_viewer.proofs.LendLemmas.{shows_at}
use Rattle.rfb_viewer.proofs.OutsideLemmas.{front_outside, effect_outside}

-- ---- what is shown outside of the rectangle that is under way

pieces_outside : (q : UpdatePoint) (prefix : List ℕ) (before now : Grid Colour) → ShowsPieces q prefix before now →
    (x y : ℕ) → holds (begun (Second q) prefix) x y ≡ false → colour_at (Some now) x y ≡ colour_at (Some before) x y
pieces_outside q prefix before now p x y out =
    let at : begun (Second q) prefix ≡ Some p.head.rect =
    ap (begun (Second q)) p.prefix_is ∙ head_begun q p.head p.front p.body before p.awaits in
    front_outside q.form p.head.rect p.head.encoding before p.body p.pending now p.shown x y
    (subst (λ (r : Option Rect). holds r x y ≡ false) at out)

shown_outside : (at : ServerAt) (g : Option (Grid Colour)) (prefix : List ℕ) (stored : Option (Grid Colour)) →
    ShowsAt at g prefix stored → (x y : ℕ) → holds (begun at prefix) x y ≡ false →
    colour_at stored x y ≡ colour_at g x y
shown_outside (First point) g prefix stored h x y out = ap (λ (k : Option (Grid Colour)). colour_at k x y) h
shown_outside (Second q) g prefix stored (inl h) x y out = ap (λ (k : Option (Grid Colour)). colour_at k x y) h.1
shown_outside (Second q) g prefix stored (inr (before, now, was, is, pieces)) x y out =
    ap (λ (k : Option (Grid Colour)). colour_at k x y) is ∙ pieces_outside q prefix before now pieces x y out
    ∙ ap (λ (k : Option (Grid Colour)). colour_at k x y) (sym was)

-- what a viewer has stored is the picture there
pub stored_outside : (viewing : Viewing) (v : Viewer) (s : ViewerState) (prefix : List ℕ) →
    StandsFor viewing v s prefix → (x y : ℕ) → holds (begun s.point prefix) x y ≡ false →
    colour_at v.picture x y ≡ colour_at s.picture x y
stored_outside viewing v s prefix stands = shown_outside s.point s.picture prefix v.picture
    (shows_at viewing v v.progress s.point s.picture prefix stands.progress_is)

-- between two items it is the picture
stored_fresh : (at : ServerAt) (g stored : Option (Grid Colour)) → ShowsAt at g [] stored → stored ≡ g
stored_fresh (First point) g stored h = h
stored_fresh (Second q) g stored (inl h) = h.1
stored_fresh (Second q) g stored (inr (before, now, was, is, p)) =
    let none = ap (λ (ys : List ℕ). length ys) p.prefix_is in
    let twelve = p.awaits.head_is.size in
    absurd (no_head p.front p.body none twelve)
  where
    no_head : (front body : List ℕ) → 0 ≡ length (front ++ body) → length front ≡ 12 → ⊥
    no_head front body none twelve = omega (arith, none, twelve, length-append front body)

pub stored_now : (viewing : Viewing) (v : Viewer) (s : ViewerState) → StandsFor viewing v s [] → v.picture ≡ s.picture
stored_now viewing v s stands =
    stored_fresh s.point s.picture v.picture (shows_at viewing v v.progress s.point s.picture [] stands.progress_is)

-- ---- what an item makes of the picture outside of what it adds

pub no_memory_or : (fault : ViewerFault) → (fault ≡ NoMemory) ⊎ (fault ≢ NoMemory)
no_memory_or NoMemory = inl refl
no_memory_or fault = inr (λ e. cc)

-- a screen is made where there was none
init_none : (max_places : ℕ) (p : ServerPoint) (width height name_length : ℕ) (bytes : List ℕ)
    (g : Option (Grid Colour)) → SpellsServerItem max_places p (ServerInit width height name_length) bytes →
    IsScreenAt p g → g ≡ None
init_none max_places AwaitsVersion width height n bytes g spelled screen = screen
init_none max_places (AwaitsSecurity version) width height n bytes g spelled screen = screen
init_none max_places (AwaitsResult version) width height n bytes g spelled screen = screen
init_none max_places (AwaitsInit version) width height n bytes g spelled screen = screen
init_none max_places (AwaitsName version w h k) width height n bytes g spelled screen = absurd spelled
init_none max_places (Begun version w h) width height n bytes g spelled screen = absurd spelled

no_place : (width height x y : ℕ) → contains (rect 0 0 width height) x y ≡ false →
    (nat_lt x width && nat_lt y height) ≡ false
no_place width height x y out = by (nat_lt x width) (nat_lt y height) refl refl
  where
    by : (a b : Bool) → nat_lt x width ≡ a → nat_lt y height ≡ b → (nat_lt x width && nat_lt y height) ≡ false
    by true true a b = grind (arith, nat_tests)
    by true false a b = rw (a, b) refl
    by false c a b = rw a refl

screen_outside : (width height x y : ℕ) → contains (rect 0 0 width height) x y ≡ false →
    colour_at (Some (uniform width height black)) x y ≡ None
screen_outside width height x y out =
    let none = no_place width height x y out in
    rw (width-uniform width height black, height-uniform width height black, none) refl

pub made_same : (g : Option (Grid Colour)) (d : Option Edges) → screen_made g g d ≡ d
made_same None d = refl
made_same (Some screen) d = refl

module _ (viewing : Viewing) where
  step_found : (p : ServerPoint) (step : ServerItem) (bytes rest : List ℕ) →
      (server_handshake viewing.hello.limit viewing.hello.max_places).next p bytes ≡ Got step rest →
      (front : List ℕ) × SpellsServerItem viewing.hello.max_places p step front
  step_found p step bytes rest e =
      let r =
      ((server_handshake_spelled viewing.hello.limit viewing.hello.max_places).reads p).found bytes step rest e in
      (r.0, r.2)

  step_outside : (p : ServerPoint) (step : ServerItem) (g : Option (Grid Colour)) (d : Option Edges) (front : List ℕ) →
      SpellsServerItem viewing.hello.max_places p step front → IsScreenAt p g → (x y : ℕ) →
      holds (rect_of_damage (step_damage step d)) x y ≡ false → colour_at (screen_after step g) x y ≡ colour_at g x y
  step_outside p (ProtocolVersion version) g d front spelled screen x y out = refl
  step_outside p SecurityNone g d front spelled screen x y out = refl
  step_outside p (SecurityTypes types) g d front spelled screen x y out = refl
  step_outside p SecurityResult g d front spelled screen x y out = refl
  step_outside p (ServerInit width height n) g d front spelled screen x y out =
      let none = init_none viewing.hello.max_places p width height n front g spelled screen in
      screen_outside width height x y (joined_holds d (rect 0 0 width height) x y out).1
      ∙ ap (λ (k : Option (Grid Colour)). colour_at k x y) (sym none)
  step_outside p (Name text) g d front spelled screen x y out = refl

  -- what is made of the damage where the screen is, or was
  step_made : (p : ServerPoint) (step : ServerItem) (g : Option (Grid Colour)) (d : Option Edges) (front : List ℕ) →
      SpellsServerItem viewing.hello.max_places p step front → IsScreenAt p g →
      screen_made g (screen_after step g) d ≡ step_damage step d
  step_made p (ProtocolVersion version) g d front spelled screen = made_same g d
  step_made p SecurityNone g d front spelled screen = made_same g d
  step_made p (SecurityTypes types) g d front spelled screen = made_same g d
  step_made p SecurityResult g d front spelled screen = made_same g d
  step_made p (ServerInit width height n) g d front spelled screen =
      let none = init_none viewing.hello.max_places p width height n front g spelled screen in
      rw (none, width-uniform width height black, height-uniform width height black) refl
  step_made p (Name text) g d front spelled screen = made_same g d

item_outside : (q : UpdatePoint) (item : UpdateItem) (g : Option (Grid Colour)) (d : Option Edges) (x y : ℕ) →
    holds (rect_of_damage (item_damage item d)) x y ≡ false → colour_at (effect_on q item g) x y ≡ colour_at g x y
item_outside q item None d x y out = refl
item_outside q (Message message) (Some g) d x y out =
    ap (λ (k : Grid Colour). colour_at (Some k) x y) (effect_message q message g)
item_outside q (Rectangle head body) (Some g) d x y out =
    effect_outside q head body g x y (joined_holds d head.rect x y out).1

-- ---- what bytes of one item add, by what a viewer stands for

-- after the handshake: a rectangle whose head is there, once it is not under way any more
-- in the handshake: a screen
pub data Adds (old new : Viewer) (s : ViewerState) (bytes : List ℕ) : Type 0 where
  Rects : (q : UpdatePoint) → s.point ≡ Second q →
      ended_of new ≡ ended_with (under_way new.progress) (begun (Second q) bytes) (ended_of old) → Adds old new s bytes
  Screens : (p : ServerPoint) → s.point ≡ First p → IsScreenAt p s.picture → old.picture ≡ s.picture →
      ended_of new ≡ screen_made old.picture new.picture (ended_of old) → Adds old new s bytes

-- the head that an update waits for, on the screen that is stored
part_begun : (v : Viewer) (q : UpdatePoint) (g : Option (Grid Colour)) (left : ℕ) (bytes : List ℕ) → 0 < left →
    IsReadyAt v q g left → Stores v g → begun_on v.picture bytes ≡ begun (Second q) bytes
part_begun v q g left bytes some ready stores =
    let is = ready.left_is in
    ap (λ (k : Option (Grid Colour)). begun_on k bytes) (stores ∙ ready.picture_is)
    ∙ ap (λ (w : ℕ). head_rect (rect_head w ready.screen.height bytes)) ready.columns
    ∙ ap (λ (h : ℕ). head_rect (rect_head q.width h bytes)) ready.rows
    ∙ sym (some_begun q q.left bytes (omega (arith, is, some)))

-- none is begun between two messages
none_added : (q : UpdatePoint) (bytes : List ℕ) (u : Option Rect) (new old : Option Edges) → q.left ≡ 0 → new ≡ old →
    new ≡ ended_with u (begun (Second q) bytes) old
none_added q bytes u new old none same =
    same ∙ sym (ap (λ (b : Option Rect). ended_with u b old) (ap (λ (left : ℕ). begun_next q left bytes) none))

pub adds_at : (viewing : Viewing) (old new : Viewer) (p : Progress) (s : ViewerState)
    (at : ServerAt) (prefix unit : List ℕ) → s.point ≡ at → ProgressStandsFor viewing old p at s.picture prefix →
    DamagesAt p old unit new → Adds old new s (prefix ++ unit)
adds_at viewing old new Handshake s (First point) prefix unit at h d = Screens point at h.4 h.3 d
adds_at viewing old new Handshake s (Second q) prefix unit at h d = absurd h
adds_at viewing old new (Head part) s (First point) prefix unit at h d = absurd h
adds_at viewing old new (Head part) s (Second q) prefix unit at h d =
    Rects q at (none_added q (prefix ++ unit) _ _ _ h.0.left_is d)
adds_at viewing old new (RectHead more part) s (First point) prefix unit at h d = absurd h
adds_at viewing old new (RectHead more part) s (Second q) prefix unit at h d =
    let all : part.items ++ unit ≡ prefix ++ unit = ap (λ (ys : List ℕ). ys ++ unit) (sym h.2) in
    let is =
    part_begun old q s.picture (more + 1) (part.items ++ unit) (omega arith) h.0 h.1 ∙ ap (begun (Second q)) all in
    Rects q at (d ∙ ap (λ (b : Option Rect). ended_with (under_way new.progress) b (ended_of old)) is)
adds_at viewing old new (Data more painter) s (First point) prefix unit at h d = absurd h
adds_at viewing old new (Data more painter) s (Second q) prefix unit at h d =
    let p = h.1 in
    let all : prefix ++ unit ≡ p.front ++ (p.body ++ unit) =
    ap (λ (ys : List ℕ). ys ++ unit) p.prefix_is ∙ append_assoc p.front p.body unit in
    let is : Some painter.rect ≡ begun (Second q) (prefix ++ unit) =
    ap (λ (r : Rect). Some r) (same_rect painter q p.head p.painting_is)
    ∙ sym (ap (begun (Second q)) all ∙ head_begun q p.head p.front (p.body ++ unit) h.0.screen p.awaits) in
    Rects q at (d ∙ ap (λ (b : Option Rect). ended_with (under_way new.progress) b (ended_of old)) is)
adds_at viewing old new (Colours more) s (First point) prefix unit at h d = absurd h
adds_at viewing old new (Colours more) s (Second q) prefix unit at h d =
    Rects q at (none_added q (prefix ++ unit) _ _ _ h.0.left_is d)
adds_at viewing old new (CutText n more kept) s (First point) prefix unit at h d = absurd h
adds_at viewing old new (CutText n more kept) s (Second q) prefix unit at h d =
    Rects q at (none_added q (prefix ++ unit) _ _ _ h.0.left_is d)
adds_at viewing old new (Failed fault) s at prefix unit is h d = absurd h

-- before ServerInit there is no screen
abbrev pub AtScreen : ServerAt → Option (Grid Colour) → Type 0
AtScreen (First p) g = IsScreenAt p g
AtScreen (Second q) g = Unit {0}

pub at_screen : (viewing : Viewing) (v : Viewer) (p : Progress) (at : ServerAt) (g : Option (Grid Colour))
    (prefix : List ℕ) → ProgressStandsFor viewing v p at g prefix → AtScreen at g
at_screen viewing v Handshake (First point) g prefix h = h.4
at_screen viewing v Handshake (Second q) g prefix h = tt
at_screen viewing v (Head part) (First point) g prefix h = absurd h
at_screen viewing v (Head part) (Second q) g prefix h = tt
at_screen viewing v (RectHead more part) (First point) g prefix h = absurd h
at_screen viewing v (RectHead more part) (Second q) g prefix h = tt
at_screen viewing v (Data more painter) (First point) g prefix h = absurd h
at_screen viewing v (Data more painter) (Second q) g prefix h = tt
at_screen viewing v (Colours more) (First point) g prefix h = absurd h
at_screen viewing v (Colours more) (Second q) g prefix h = tt
at_screen viewing v (CutText n more kept) (First point) g prefix h = absurd h
at_screen viewing v (CutText n more kept) (Second q) g prefix h = tt
at_screen viewing v (Failed fault) at g prefix h = absurd h

-- ---- an item that was read, by the part that it belongs to

module _ {I F : Type 0} (wrap : I → FromServer) (fault : F → ViewerFault) where
  named_got : (n : Next I F) (i : FromServer) (rest : List ℕ) → named wrap fault n ≡ Got i rest →
      (item : I) × (i ≡ wrap item) × (n ≡ Got item rest)
  named_got More i rest e = absurd cc
  named_got (Got item more) i rest e =
      let got : Got (wrap item) more ≡ Got i rest = e in
      let same : i ≡ wrap item = cc in
      let left : more ≡ rest = cc in
      (item, same, ap (λ (ys : List ℕ). Got item ys) left)
  named_got (Bad f) i rest e = absurd cc

pub second_next : (viewing : Viewing) (q : UpdatePoint) (bytes : List ℕ) (i : FromServer) (rest : List ℕ) →
    (server_bytes viewing.form viewing.hello).next (Second q) bytes ≡ Got i rest →
    (item : UpdateItem) × (i ≡ Second item) × (update_stream.next q bytes ≡ Got item rest)
second_next viewing q bytes i rest e =
    named_got (λ j. Second j) fault_of_update (update_stream.next q bytes) i rest e

first_next : (viewing : Viewing) (p : ServerPoint) (bytes : List ℕ) (i : FromServer) (rest : List ℕ) →
    (server_bytes viewing.form viewing.hello).next (First p) bytes ≡ Got i rest → (step : ServerItem) × (i ≡ First step)
    × ((server_handshake viewing.hello.limit viewing.hello.max_places).next p bytes ≡ Got step rest)
first_next viewing p bytes i rest e = named_got (λ j. First j) fault_of_hello
    ((server_handshake viewing.hello.limit viewing.hello.max_places).next p bytes) i rest e

-- what an item adds holds what was there, and the rectangle that its bytes began
step_holds : (step : ServerItem) (d : Option Edges) (x y : ℕ) →
    holds (rect_of_damage (step_damage step d)) x y ≡ false → holds (rect_of_damage d) x y ≡ false
step_holds (ProtocolVersion version) d x y out = out
step_holds SecurityNone d x y out = out
step_holds (SecurityTypes types) d x y out = out
step_holds SecurityResult d x y out = out
step_holds (ServerInit width height n) d x y out = (joined_holds d (rect 0 0 width height) x y out).0
step_holds (Name text) d x y out = out

module _ (viewing : Viewing) where
  pub got_holds : (at : ServerAt) (i : FromServer) (bytes rest : List ℕ) (d : Option Edges) (x y : ℕ) →
      (server_bytes viewing.form viewing.hello).next at bytes ≡ Got i rest →
      holds (rect_of_damage (damage_after at i d)) x y ≡ false →
      holds (rect_of_damage (joined_if d (begun at bytes))) x y ≡ false
  got_holds (First p) (First step) bytes rest d x y e out = step_holds step d x y out
  got_holds (First p) (Second item) bytes rest d x y e out = out
  got_holds (Second q) i bytes rest d x y e out =
      let r = second_next viewing q bytes i rest e in
      let out' : holds (rect_of_damage (item_damage r.0 d)) x y ≡ false =
      subst (λ (k : FromServer). holds (rect_of_damage (damage_after (Second q) k d)) x y ≡ false) r.1 out in
      subst (λ (k : Option Edges). holds (rect_of_damage k) x y ≡ false) (sym (item_begun q r.0 bytes rest d r.2)) out'

  -- and outside of it the picture is what it was
  pub after_outside : (at : ServerAt) (i : FromServer) (g : Option (Grid Colour)) (bytes rest : List ℕ) (d : Option
      Edges) (x y : ℕ) → AtScreen at g → (server_bytes viewing.form viewing.hello).next at bytes ≡ Got i rest →
      holds (rect_of_damage (damage_after at i d)) x y ≡ false → colour_at (picture_after at i g) x y ≡ colour_at g x y
  after_outside (First p) (First step) g bytes rest d x y screen e out =
      let r = first_next viewing p bytes (First step) rest e in
      let same : step ≡ r.0 = let is = r.1 in cc in
      let f = step_found viewing p step bytes rest (r.2 ∙ ap (λ (j : ServerItem). Got j rest) (sym same)) in
      step_outside viewing p step g d f.0 f.1 screen x y out
  after_outside (First p) (Second item) g bytes rest d x y screen e out = refl
  after_outside (Second q) (First step) g bytes rest d x y screen e out = refl
  after_outside (Second q) (Second item) g bytes rest d x y screen e out = item_outside q item g d x y out

  -- what is made of the damage at an item
  pub after_made : (p : ServerPoint) (i : FromServer) (g : Option (Grid Colour)) (bytes rest : List ℕ)
      (d : Option Edges) → IsScreenAt p g → (server_bytes viewing.form viewing.hello).next (First p) bytes
      ≡ Got i rest → screen_made g (picture_after (First p) i g) d ≡ damage_after (First p) i d
  after_made p (First step) g bytes rest d screen e =
      let r = first_next viewing p bytes (First step) rest e in
      let same : step ≡ r.0 = let is = r.1 in cc in
      let f = step_found viewing p step bytes rest (r.2 ∙ ap (λ (j : ServerItem). Got j rest) (sym same)) in
      step_made viewing p step g d f.0 f.1 screen
  after_made p (Second item) g bytes rest d screen e = made_same g d
