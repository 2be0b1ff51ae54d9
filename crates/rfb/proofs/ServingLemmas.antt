-- Connections that are served one after another, and their lines.
use Rattle.std.proofs.Common.{◌≡◌, ◌∙◌, ◌⊎◌, ◌+◌, ◌-◌, ◌*◌, ◌<◌, length, ap, sym, refl, subst, inl, inr, ℕ, true, List}
use Rattle.std.proofs.Common.{[], ◌++◌, Option, OnOk, IfOk, IfErr, Ok, Err, add-one, arith}
use Rattle.std.specs.Io.KnownBytes.{Appends, Keeps}
use Rattle.std.proofs.KnownBytes.{Appends-nil, Appends-trans}
use Rattle.std.proofs.lemmas.Bool.Decides.{nat_tests}
use Rattle.std.proofs.lemmas.List.{get_or_default}
use Rattle.rfb_picture.specs.Grid.{Grid, IsGrid, at_or, grid, with_rows}
use Rattle.rfb_picture.specs.Rect.{contains, rect}
use Rattle.rfb_picture.proofs.GridLaws.{changed_is, place_below}
use Rattle.rfb_pixel.specs.declared.colour.Colour.{Colour}
use Rattle.rfb_server.specs.declared.server.Server.{Server}
use Rattle.rfb_server.specs.Server.{first_server}
use Rattle.rfb_server.specs.Model.{Draws, StandsFor, screen_of, with_screen}
use Rattle.rfb_session.specs.Devices.{AppendsBeginning}
use Rattle.rfb_session.specs.ServeEngine.{AllServed, GoesOn, ServerBetween, StopsServing}
use Rattle.rfb_session.proofs.ServeLaws.{begun_after}
use Rattle.rfb_session.proofs.WrittenLaws.{no_beginning, whole_beginning}
use Rattle.rfb_session.specs.declared.language.screen.Screen.{Screen as Size}
use Rattle.rfb.specs.declared.serving.screen.ServedScreen.{ServedScreen}
use Rattle.rfb.specs.ScriptRun.{IsFreshServer, serving_of}
use Rattle.rfb.specs.Scene.{ShowsScene, pattern}
use Rattle.rfb.proofs.SceneLemmas.{draws_so}
use Rattle.std.proofs.Common.{Bor, None, Some, OnErr, Result}
use Rattle.clap.specs.Words.{Text}
use Rattle.rfb_session.specs.declared.netpbm.fault.Flaw.{Flaw}
use Rattle.rfb_session.specs.declared.netpbm.fault.PixmapError.{PixmapError}
use Rattle.rfb_session.specs.declared.netpbm.fault.PixmapError.TheVariants.{Flaw as FlawError, Input}
use Rattle.rfb_session.specs.declared.netpbm.fault.PixmapError.TheVariants.{NoMemory as NoMemoryError}
use Rattle.rfb_session.specs.declared.netpbm.Pixmap.{Pixmap}
use Rattle.rfb_session.specs.netpbm.File.{FailsToSpell, SpellsKnown, picture_of}
use Rattle.rfb.specs.declared.fault.Failure.{Failure}
use Rattle.rfb.specs.declared.fault.Failure.TheVariants.{BadLine, Undone, Fault, Engine, Picture as PictureFailure}
use Rattle.rfb.specs.declared.fault.Fault.{Fault as FaultOf}
use Rattle.rfb.specs.declared.serving.serve_words.ScreenChoice.{ScreenChoice}
use Rattle.rfb.specs.declared.serving.serve_words.ScreenChoice.TheVariants.{Scene as SceneAsked}
use Rattle.rfb.specs.declared.serving.serve_words.ScreenChoice.TheVariants.{Picture as PictureAsked}
use Rattle.rfb.specs.declared.serving.serve_words.ServeOptions.{ServeOptions}
use Rattle.rfb.specs.declared.serving.screen.ServedScreen.TheVariants.{Scene, Picture}
use Rattle.rfb.specs.Service.{FailsAs, FailsToRead, FailsToServe, LeavesServed, ServesAsked, ServesSpelled, ServesWith}
use Rattle.rfb.specs.Service.{End, ShowsPicture, IsLineOf, IsServedFrom, IsServedSome, ServesAll, ServesFewer, ServesSo}
use Rattle.rfb.specs.Service.{StopsEarly, TellsEnds}

-- ---- a line

appends_kept : (a b c : Option (List ℕ)) (text : List ℕ) → Appends a b text → Keeps b c → Appends a c text
appends_kept None b c text done kept = tt
appends_kept (Some x) None c text done kept = absurd done
appends_kept (Some x) (Some y) None text done kept = absurd kept
appends_kept (Some x) (Some y) (Some z) text done kept = kept ∙ done

-- a line that was written whole, after a flush
pub line_flushed : (a b c : Option (List ℕ)) (end : End) (line : List ℕ) → IsLineOf end line →
    Appends a b line → Keeps b c →
    (l : List ℕ) × IsLineOf end l × Appends a c l
line_flushed a b c end line is done kept = (line, is, appends_kept a b c line done kept)

-- ---- one connection

pub shows_scene : (size : Size) (old new : Server) → IsFreshServer size old → Draws (pattern (screen_of old)) old new →
    ShowsScene size new
shows_scene size old new fresh draws =
    subst (λ (g : Grid Colour). StandsFor (serving_of size) new
    (with_screen (pattern g) (first_server (serving_of size))) [])
    (sym fresh.screen_is) (draws.stands (serving_of size) (first_server (serving_of size)) [] fresh)

-- the whole of a screen is drawn over
pub whole_picture : (old : Grid Colour) (places : List Colour) → IsGrid old → length places ≡ old.height * old.width →
    grid old.width old.height places ≡ with_rows (rect 0 0 old.width old.height) places old
whole_picture old places whole size =
    changed_is _ old places whole (size ∙ sym whole)
    (λ x y d p q.
    let inside : contains (rect 0 0 old.width old.height) x y ≡ true = grind (arith, nat_tests) in
    let column : x - 0 ≡ x = omega arith in
    let row : y - 0 ≡ y = omega arith in
    let at : y * old.width + x < length places = omega (arith, size, place_below old.width old.height x y p q) in
    rw (inside, column, row) (get_or_default places (y * old.width + x) d (at_or old x y d) at))

-- the rows of a picture of the screen's size, put at its corner, are that picture
whole_of : (screen : Grid Colour) (w h : ℕ) (places : List Colour) → IsGrid screen →
    screen.width ≡ w → screen.height ≡ h →
    length places ≡ h * w → grid w h places ≡ with_rows (rect 0 0 w h) places screen
whole_of screen w h places whole columns rows size =
    let all : length places ≡ screen.height * screen.width = rw (columns, rows) size in
    subst (λ (n : ℕ). grid n h places ≡ with_rows (rect 0 0 n h) places screen) columns
    (subst (λ (n : ℕ). grid screen.width n places ≡ with_rows (rect 0 0 screen.width n) places screen) rows
    (whole_picture screen places whole all))

pub whole_drawn : (old new : Server) (w h : ℕ) (places : List Colour) → (screen_of old).width ≡ w →
    (screen_of old).height ≡ h →
    length places ≡ h * w → Draws (with_rows (rect 0 0 w h) places (screen_of old)) old new →
    Draws (grid w h places) old new
whole_drawn old new w h places columns rows size draws =
    draws_so _ _ old new (sym (whole_of (screen_of old) w h places old.follows.whole columns rows size)) draws

pub shows_picture : (size : Size) (picture : Grid Colour) (old new : Server) → IsFreshServer size old →
    size.width ≡ picture.width →
    size.height ≡ picture.height → Draws picture old new → ShowsPicture picture new
shows_picture size picture old new fresh columns rows draws =
    (size, columns, rows, draws.stands (serving_of size) (first_server (serving_of size)) [] fresh)

-- an engine whose devices had not failed before
pub served_from : (read written unread left before after : Option (List ℕ)) (failing failed stuck stopped : ℕ)
    (first last : Server) (r : End) → unread ≡ read → before ≡ written → failing ≡ 0 → stuck ≡ 0 →
    IfOk r (λ updates. GoesOn (λ front. AllServed unread left before after front first updates last) first) →
    OnOk r (ServerBetween last true) →
    IfErr r (λ fault. GoesOn
    (λ front. StopsServing unread left failing failed before after stuck stopped front first fault last) first) →
    IsServedFrom read written first r
served_from read written unread left before after failing failed stuck stopped first last (Ok updates) same there
    none calm served between stops =
    subst (λ (u : Option (List ℕ)). ServesAll u written first updates) same
    (subst (λ (b : Option (List ℕ)). ServesAll unread b first updates) there
    (record { left = left; after = after; last = last; served = served; between = between }))
served_from read written unread left before after failing failed stuck stopped first last (Err fault) same there
    none calm served between stops =
    let counted = subst (λ (n : ℕ). GoesOn (λ front. StopsServing unread left n failed before after stuck stopped front
    first fault last) first) none stops in
    let both = subst (λ (n : ℕ). GoesOn (λ front. StopsServing unread left 0 failed before after n stopped front first
    fault last) first) calm counted in
    subst (λ (u : Option (List ℕ)). StopsEarly u written first fault) same
    (subst (λ (b : Option (List ℕ)). StopsEarly unread b first fault) there
    (record { left = left; after = after; failed = failed; stopped = stopped; last = last; stops = both }))

-- ---- one after another

pub serves_none : (screen : ServedScreen) (before : Option (List ℕ)) → ServesSo screen 0 before before
serves_none screen before = ([], refl, Appends-nil before)

tells_more : (screen : ServedScreen) (n : ℕ) (end : End) (before line : List ℕ) →
    TellsEnds screen n before → IsServedSome screen end →
    IsLineOf end line → TellsEnds screen (n + 1) (before ++ line)
tells_more screen n end before line told served is =
    subst (λ (k : ℕ). TellsEnds screen k (before ++ line)) (sym (add-one n)) (before, line, end, told, served, is, refl)

pub serves_more : (screen : ServedScreen) (n : ℕ) (end : End) (before mid after : Option (List ℕ)) →
    ServesSo screen n before mid →
    IsServedSome screen end → ((line : List ℕ) × IsLineOf end line × Appends mid after line) →
    ServesSo screen (n + 1) before after
serves_more screen n end before mid after so served told = (
  so.0 ++ told.0,
  tells_more screen n end so.0 told.0 so.1 served told.1,
  Appends-trans before mid after so.0 told.0 so.2 told.2,
)

pub serves_fewer : {W : Type 0} (contents : W → Option (List ℕ)) (screen : ServedScreen) (n connections : ℕ) (end : End)
    (before : Option (List ℕ)) (last new : W) → n < connections →
    ServesSo screen n before (contents last) → IsServedSome screen end →
    (new ≡ last) ⊎ ((line : List ℕ) × IsLineOf end line × AppendsBeginning (contents last) (contents new) line) →
    ServesFewer screen connections before (contents new)
serves_fewer contents screen n connections end before last new few so served (inl same) = (
  n,
  omega arith,
  so.0,
  so.1,
  whole_beginning before (contents new) so.0
      (subst (λ (o : Option (List ℕ)). Appends before o so.0) (sym (ap contents same)) so.2),
)
serves_fewer contents screen n connections end before last new few so served (inr told) = (
  n + 1,
  omega arith,
  so.0 ++ told.0,
  tells_more screen n end so.0 told.0 so.1 served told.1,
  begun_after before (contents last) (contents new) so.0 told.0 so.2 told.2,
)

pub serves_not : (screen : ServedScreen) (connections : ℕ) (before : Option (List ℕ)) →
    ServesFewer screen connections before before
serves_not screen connections before = (0, omega arith, [], refl, no_beginning before [])

-- ---- what is asked for

pub scene_done : (r : Result (Unit {0}) Failure) (options : ServeOptions) (size : Size)
    (before after : Option (List ℕ)) →
    options.screen ≡ SceneAsked size → OnOk r (ServesSo (Scene size) options.connections before after) →
    OnOk r (ServesAsked options before after)
scene_done (Ok done) options size before after is so =
    subst (λ (s : ScreenChoice). ServesWith (λ screen. ServesSo screen options.connections before after) s) (sym is) so
scene_done (Err failure) options size before after is so = tt

pub scene_left : (r : Result (Unit {0}) Failure) (options : ServeOptions) (size : Size)
    (before after : Option (List ℕ)) →
    options.screen ≡ SceneAsked size → OnErr r (ServesFewer (Scene size) options.connections before after) →
    OnErr r (LeavesServed options before after)
scene_left (Ok done) options size before after is so = tt
scene_left (Err failure) options size before after is so =
    inr (subst (λ (s : ScreenChoice). ServesWith (λ screen. ServesFewer screen options.connections before after) s)
    (sym is) so)

pub file_done : (r : Result (Unit {0}) Failure) (options : ServeOptions) (path : Bor Text)
    (before after : Option (List ℕ)) →
    options.screen ≡ PictureAsked path →
    OnOk r (ServesSpelled (λ screen. ServesSo screen options.connections before after)) →
    OnOk r (ServesAsked options before after)
file_done (Ok done) options path before after is so =
    subst (λ (s : ScreenChoice). ServesWith (λ screen. ServesSo screen options.connections before after) s) (sym is) so
file_done (Err failure) options path before after is so = tt

pub file_left : {W : Type 0} (contents : W → Option (List ℕ)) (r : Result (Unit {0}) Failure)
    (options : ServeOptions) (path : Bor Text)
    (old new : W) → options.screen ≡ PictureAsked path →
    OnErr r ((new ≡ old)
    ⊎ ServesSpelled (λ screen. ServesFewer screen options.connections (contents old) (contents new))) →
    OnErr r (LeavesServed options (contents old) (contents new))
file_left contents (Ok done) options path old new is so = tt
file_left contents (Err failure) options path old new is (inl same) = inl (ap contents same)
file_left contents (Err failure) options path old new is (inr so) =
    inr (subst (λ (s : ScreenChoice).
    ServesWith (λ screen. ServesFewer screen options.connections (contents old) (contents new)) s) (sym is) so)

pub spelled_done : (r : Result (Unit {0}) Failure) (pixmap : Pixmap) (connections : ℕ)
    (before after : Option (List ℕ)) →
    ((bytes : Option (List ℕ)) × SpellsKnown bytes (picture_of pixmap)) →
    OnOk r (ServesSo (Picture pixmap) connections before after) →
    OnOk r (ServesSpelled (λ screen. ServesSo screen connections before after))
spelled_done (Ok done) pixmap connections before after spells so = (spells.0, pixmap, spells.1, so)
spelled_done (Err failure) pixmap connections before after spells so = tt

pub spelled_left : (r : Result (Unit {0}) Failure) (pixmap : Pixmap) (connections : ℕ)
    (before after : Option (List ℕ)) (Same : Type 0) →
    ((bytes : Option (List ℕ)) × SpellsKnown bytes (picture_of pixmap)) →
    OnErr r (ServesFewer (Picture pixmap) connections before after) →
    OnErr r (Same ⊎ ServesSpelled (λ screen. ServesFewer screen connections before after))
spelled_left (Ok done) pixmap connections before after Same spells so = tt
spelled_left (Err failure) pixmap connections before after Same spells so = inr (spells.0, pixmap, spells.1, so)

-- ---- why it fails

pub by_fault : (r : Result (Unit {0}) Failure) →
    IfErr r (λ f. (fault : FaultOf) × (f ≡ Fault fault)) → IfErr r FailsToServe
by_fault (Ok done) why = tt
by_fault (Err (Fault fault)) why = tt
by_fault (Err (PictureFailure flaw)) why = tt
by_fault (Err (BadLine n)) why = let e = why.1 in absurd (cc)
by_fault (Err (Undone n reason)) why = let e = why.1 in absurd (cc)
by_fault (Err (Engine fault)) why = let e = why.1 in absurd (cc)

pub by_no_picture : (r : Result (Unit {0}) Failure) (flaw : Flaw) →
    IfErr r (λ f. (fault : FaultOf) × (f ≡ Fault fault)) →
    r ≡ Err (PictureFailure flaw) → ⊥
by_no_picture r flaw why is =
    let there =
    subst (λ (s : Result (Unit {0}) Failure). IfErr s (λ f. (fault : FaultOf) × (f ≡ Fault fault))) is why in
    let e = there.1 in
    cc

pub some_spelled : (r : Result Pixmap Failure) (known : Option (List ℕ)) →
    IfOk r (λ pixmap. SpellsKnown known (picture_of pixmap)) →
    IfOk r (λ pixmap. (bytes : Option (List ℕ)) × SpellsKnown bytes (picture_of pixmap))
some_spelled (Ok pixmap) known spells = (known, spells)
some_spelled (Err failure) known spells = tt

pub read_as : (known : Option (List ℕ)) (error : PixmapError) (failure : Failure) →
    FailsToSpell known error → FailsAs error failure →
    FailsToRead known failure
read_as None (FlawError flaw) failure fails is = rw is tt
read_as (Some bytes) (FlawError flaw) failure fails is = rw is fails
read_as None (Input error) failure fails is = rw is.1 tt
read_as (Some bytes) (Input error) failure fails is = rw is.1 tt
read_as None NoMemoryError failure fails is = rw is tt
read_as (Some bytes) NoMemoryError failure fails is = rw is tt

serves_read : (known : Option (List ℕ)) (failure : Failure) → FailsToRead known failure → FailsToServe failure
serves_read known (Fault fault) fails = tt
serves_read known (PictureFailure flaw) fails = tt
serves_read None (BadLine n) fails = absurd fails
serves_read (Some bytes) (BadLine n) fails = absurd fails
serves_read None (Undone n why) fails = absurd fails
serves_read (Some bytes) (Undone n why) fails = absurd fails
serves_read None (Engine fault) fails = absurd fails
serves_read (Some bytes) (Engine fault) fails = absurd fails

pub fails_to_read : (r : Result Pixmap Failure) (known : Option (List ℕ)) →
    IfErr r (FailsToRead known) → IfErr r FailsToServe
fails_to_read (Ok pixmap) known fails = tt
fails_to_read (Err failure) known fails = serves_read known failure fails
