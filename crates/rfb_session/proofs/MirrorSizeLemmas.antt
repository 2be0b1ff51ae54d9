-- A viewer's picture keeps its size, whatever the server sends.
use Rattle.std.proofs.Common.{◌≡◌, ℕ, List, [], ◌∷◌, ◌++◌, Option, Some}
use Rattle.std.proofs.Common.{None, inl, inr, sym}
use Rattle.std.proofs.Common.{ap, subst, ◌∙◌}
use Rattle.rfb_pixel.specs.declared.colour.Colour.{Colour}
use Rattle.rfb_pixel.specs.Format.{PixelFormat}
use Rattle.rfb_picture.specs.declared.rect.Rect.{Rect}
use Rattle.rfb_picture.specs.Grid.{Grid}
use Rattle.rfb_wire.specs.declared.encoding.Encoding.{Encoding}
use Rattle.rfb_wire.specs.stream.Grammar.{ReadsAll}
use Rattle.rfb_wire.specs.stream.Sequel.{First, Second, past_in}
use Rattle.rfb_wire.specs.stream.End.{acts, FedBy}
use Rattle.rfb_codec.specs.Front.{ShowsFront}
use Rattle.rfb_codec.proofs.EffectLaws.{effect_picture}
use Rattle.rfb_hello.specs.ServerHandshake.{AwaitsVersion, AwaitsSecurity, AwaitsResult, AwaitsInit}
use Rattle.rfb_hello.specs.ServerHandshake.{AwaitsName, Begun, ProtocolVersion, SecurityNone, SecurityTypes}
use Rattle.rfb_hello.specs.ServerHandshake.{SecurityResult, ServerInit, Name}
use Rattle.rfb_viewer.specs.declared.fault.ViewerFault.{ViewerFault}
use Rattle.rfb_viewer.specs.declared.viewer.Viewer.{Viewer}
use Rattle.rfb_viewer.specs.Failed.{ShowsLast, KeepsPicture}
use Rattle.rfb_viewer.specs.ServerBytes.{ServerAt, FromServer, server_two, server_bytes, server_bytes_say}
use Rattle.rfb_viewer.specs.ShownPieces.{ShowsAt}
use Rattle.rfb_viewer.specs.Model.{StandsFor}
use Rattle.rfb_viewer.specs.Told.{ViewerTold}
use Rattle.rfb_viewer.specs.Viewer.{Viewing, ViewerState, viewer, shows, picture_after}
use Rattle.rfb_viewer.proofs.CallLemmas.{shown_columns, shown_rows}
use Rattle.rfb_viewer.proofs.DamageStepLemmas.{AtScreen, at_screen}
use Rattle.rfb_viewer.proofs.LendLemmas.{shows_at}
use Rattle.rfb_viewer.proofs.ViewerLaws.{server_bytes_spelled}

-- there is a picture, and it has this size
abbrev pub IsSized : ℕ → ℕ → Option (Grid Colour) → Type 0
IsSized w h None = ⊥
IsSized w h (Some g) = (g.width ≡ w) × (g.height ≡ h)

pub some_sized : (w h : ℕ) (o : Option (Grid Colour)) (g : Grid Colour) → o ≡ Some g → g.width ≡ w →
    g.height ≡ h →
    IsSized w h o
some_sized w h o g is wide high = subst (λ (k : Option (Grid Colour)). IsSized w h k) (sym is) (wide, high)

pub sized_some : (w h : ℕ) (o : Option (Grid Colour)) (g : Grid Colour) → o ≡ Some g → IsSized w h o →
    (g.width ≡ w) × (g.height ≡ h)
sized_some w h o g is sized = subst (λ (k : Option (Grid Colour)). IsSized w h k) is sized

-- ---- what is stored has the size of the picture

module _ (w h : ℕ) where
  front_sized : (f : PixelFormat) (rect : Rect) (encoding : Encoding) (before : Grid Colour)
      (body pending : List ℕ) (now : Grid Colour) → ShowsFront f rect encoding before body pending now →
      (now.width ≡ before.width) × (now.height ≡ before.height)
  front_sized f rect encoding before body pending now s =
      let is = s.shown_is.shows in (
        ap (λ (g : Grid Colour). g.width) is ∙ shown_columns f rect s.front before,
        ap (λ (g : Grid Colour). g.height) is ∙ shown_rows f rect s.front before,
      )

  same_sized : (g stored : Option (Grid Colour)) → stored ≡ g → IsSized w h g → IsSized w h stored
  same_sized g stored same sized = subst (λ (k : Option (Grid Colour)). IsSized w h k) (sym same) sized

  -- a picture with a part of a rectangle stored in it has the size that it had
  part_sized : (f : PixelFormat) (rect : Rect) (encoding : Encoding) (before : Grid Colour) (body pending : List ℕ)
      (now : Grid Colour) (g stored : Option (Grid Colour)) → g ≡ Some before → stored ≡ Some now →
      ShowsFront f rect encoding before body pending now → IsSized w h g → IsSized w h stored
  part_sized f rect encoding before body pending now g stored was is shows sized =
      let size = front_sized f rect encoding before body pending now shows in
      let two = sized_some w h g before was sized in
      some_sized w h stored now is (size.0 ∙ two.0) (size.1 ∙ two.1)

  stored_there : (at : ServerAt) (g stored : Option (Grid Colour)) (prefix : List ℕ) →
      ShowsAt at g prefix stored →
      IsSized w h stored → IsSized w h g
  stored_there (First p) g stored prefix shows sized = same_sized stored g (sym shows) sized
  stored_there (Second q) g stored prefix (inl shows) sized = same_sized stored g (sym shows.1) sized
  stored_there (Second q) g stored prefix (inr (before, now, was, is, pieces)) sized =
      let size = front_sized q.form pieces.head.rect pieces.head.encoding before pieces.body pieces.pending now
      pieces.shown in
      let two = sized_some w h stored now is sized in
      some_sized w h g before was (sym size.0 ∙ two.0) (sym size.1 ∙ two.1)

  pub there_stored : (at : ServerAt) (g stored : Option (Grid Colour)) (prefix : List ℕ) →
      ShowsAt at g prefix stored →
      IsSized w h g → IsSized w h stored
  there_stored (First p) g stored prefix shows sized = same_sized g stored shows sized
  there_stored (Second q) g stored prefix (inl shows) sized = same_sized g stored shows.1 sized
  there_stored (Second q) g stored prefix (inr (before, now, was, is, pieces)) sized =
      part_sized q.form pieces.head.rect pieces.head.encoding before pieces.body pieces.pending now g stored was is
      pieces.shown sized

  -- and so has what is shown last
  last_stored : (at : ServerAt) (g stored : Option (Grid Colour)) (bytes : List ℕ) → ShowsLast at g bytes stored →
      IsSized w h g → IsSized w h stored
  last_stored (First p) g stored bytes shows sized = same_sized g stored shows sized
  last_stored (Second q) g stored bytes (inl shows) sized = same_sized g stored shows.1 sized
  last_stored (Second q) g stored bytes (inr (before, now, was, is, until)) sized =
      part_sized q.form until.head.rect until.head.encoding before _ until.refused.pending now g stored was is
      until.refused.shows sized

  -- ---- items keep it

  -- the screen is made
  abbrev IsMade : ServerAt → Type 0
  IsMade (First AwaitsVersion) = ⊥
  IsMade (First (AwaitsSecurity version)) = ⊥
  IsMade (First (AwaitsResult version)) = ⊥
  IsMade (First (AwaitsInit version)) = ⊥
  IsMade (First (AwaitsName version width height n)) = Unit {0}
  IsMade (First (Begun version width height)) = Unit {0}
  IsMade (Second q) = Unit {0}

  not_sized : (o : Option (Grid Colour)) → o ≡ None → IsSized w h o → ⊥
  not_sized o none sized = subst (λ (k : Option (Grid Colour)). IsSized w h k) none sized

  made_at : (at : ServerAt) (g : Option (Grid Colour)) → AtScreen at g → IsSized w h g → IsMade at
  made_at (First AwaitsVersion) g screen sized = not_sized g screen sized
  made_at (First (AwaitsSecurity version)) g screen sized = not_sized g screen sized
  made_at (First (AwaitsResult version)) g screen sized = not_sized g screen sized
  made_at (First (AwaitsInit version)) g screen sized = not_sized g screen sized
  made_at (First (AwaitsName version width height n)) g screen sized = tt
  made_at (First (Begun version width height)) g screen sized = tt
  made_at (Second q) g screen sized = tt

  item_sized : (viewing : Viewing) (at : ServerAt) (i : FromServer) (g : Option (Grid Colour)) (bytes : List ℕ) →
      (server_bytes_say viewing.form viewing.hello at).item i bytes → IsMade at → IsSized w h g →
      IsSized w h (picture_after at i g) × IsMade (past_in (server_two viewing.form viewing.hello) at i)
  item_sized viewing (First AwaitsVersion) i g bytes said made sized = absurd made
  item_sized viewing (First (AwaitsSecurity version)) i g bytes said made sized = absurd made
  item_sized viewing (First (AwaitsResult version)) i g bytes said made sized = absurd made
  item_sized viewing (First (AwaitsInit version)) i g bytes said made sized = absurd made
  item_sized viewing (First (AwaitsName version width height n)) (First (ProtocolVersion v)) g bytes said made sized =
      absurd said
  item_sized viewing (First (AwaitsName version width height n)) (First SecurityNone) g bytes said made sized =
      absurd said
  item_sized viewing (First (AwaitsName version width height n)) (First (SecurityTypes types)) g bytes said made sized =
      absurd said
  item_sized viewing (First (AwaitsName version width height n)) (First SecurityResult) g bytes said made sized =
      absurd said
  item_sized viewing (First (AwaitsName version width height n)) (First (ServerInit x y k)) g bytes said made sized =
      absurd said
  item_sized viewing (First (AwaitsName version width height n)) (First (Name text)) g bytes said made sized =
      (sized, tt)
  item_sized viewing (First (AwaitsName version width height n)) (Second item) g bytes said made sized = absurd said
  item_sized viewing (First (Begun version width height)) (First (ProtocolVersion v)) g bytes said made sized =
      absurd said
  item_sized viewing (First (Begun version width height)) (First SecurityNone) g bytes said made sized = absurd said
  item_sized viewing (First (Begun version width height)) (First (SecurityTypes types)) g bytes said made sized =
      absurd said
  item_sized viewing (First (Begun version width height)) (First SecurityResult) g bytes said made sized = absurd said
  item_sized viewing (First (Begun version width height)) (First (ServerInit x y k)) g bytes said made sized =
      absurd said
  item_sized viewing (First (Begun version width height)) (First (Name text)) g bytes said made sized = absurd said
  item_sized viewing (First (Begun version width height)) (Second item) g bytes said made sized = absurd said
  item_sized viewing (Second q) (First step) g bytes said made sized = absurd said
  item_sized viewing (Second q) (Second item) None bytes said made sized = absurd sized
  item_sized viewing (Second q) (Second item) (Some g) bytes said made sized =
      let kept = effect_picture q item g in
      ((kept.columns ∙ sized.0, kept.rows ∙ sized.1), tt)

  items_sized : (viewing : Viewing) (items : List FromServer) (s : ViewerState) (bytes rest : List ℕ) →
      ReadsAll (server_bytes viewing.form viewing.hello) s.point bytes items rest → IsMade s.point →
      IsSized w h s.picture → IsSized w h (acts (viewer viewing) s items).picture
  items_sized viewing [] s bytes rest reads made sized = sized
  items_sized viewing (i ∷ items) s bytes rest reads made sized =
      let r = ((server_bytes_spelled viewing.form viewing.hello).reads s.point).found bytes i reads.0 reads.1 in
      let one = item_sized viewing s.point i s.picture r.0 r.2 made sized in
      items_sized viewing items (shows viewing s i) reads.0 rest reads.2 one.1 one.0

  -- ---- a viewer that is fed keeps it

  -- what it stands for has a picture of the size of its own
  stands_sized : (viewing : Viewing) (old : Viewer) (s : ViewerState) (prefix : List ℕ) →
      StandsFor viewing old s prefix → IsSized w h old.picture → IsSized w h s.picture × IsMade s.point
  stands_sized viewing old s prefix stands sized =
      let there = stored_there s.point s.picture old.picture prefix
      (shows_at viewing old old.progress s.point s.picture prefix stands.progress_is) sized in (
        there,
        made_at s.point s.picture
            (at_screen viewing old old.progress s.point s.picture prefix stands.progress_is) there,
      )

  pub fed_sized : (viewing : Viewing) (old new : Viewer) (bytes : List ℕ) (event : Option ViewerTold)
      (s : ViewerState)
      (prefix : List ℕ) → StandsFor viewing old s prefix →
      FedBy (viewer viewing) (StandsFor viewing) old bytes event new →
      IsSized w h old.picture → IsSized w h new.picture
  fed_sized viewing old new bytes event s prefix stands fed sized =
      let was = stands_sized viewing old s prefix stands sized in
      let one = fed s prefix stands in
      let t : ViewerState = one.0 in
      let takes = one.3 in
      let after = items_sized viewing takes.items s (prefix ++ bytes) one.1 takes.reads was.1 was.0 in
      there_stored t.point t.picture new.picture one.1
      (shows_at viewing new new.progress t.point t.picture one.1 one.2.progress_is)
      (subst (λ (k : ViewerState). IsSized w h k.picture) (sym takes.state) after)

  pub refused_sized : (viewing : Viewing) (old new : Viewer) (bytes : List ℕ) (fault : ViewerFault) (s : ViewerState)
      (prefix : List ℕ) → StandsFor viewing old s prefix → KeepsPicture fault old bytes new →
      IsSized w h old.picture → IsSized w h new.picture
  refused_sized viewing old new bytes fault s prefix stands keeps sized =
      let was = stands_sized viewing old s prefix stands sized in
      let one = keeps viewing s prefix stands in
      let t : ViewerState = acts (viewer viewing) s one.items in
      let after = items_sized viewing one.items s (prefix ++ bytes) (one.front ++ one.later) one.reads was.1 was.0 in
      last_stored t.point t.picture new.picture one.front one.asked.shows after
