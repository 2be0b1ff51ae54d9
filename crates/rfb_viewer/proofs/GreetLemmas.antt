-- What the handshake's end takes, a viewer does: each call of that is by bytes of one step.
use Rattle.std.proofs.Common.{◌≡◌, ℕ, zero, suc, ◌<◌, inl, inr, true, false, List, [], ◌∷◌, ◌++◌, Option, Some, None}
use Rattle.std.proofs.Common.{Ok, if◌then◌else◌, refl, sym, subst, ◌∙◌, ap, arith}
use Rattle.arrayvec.specs.ArrayVec.{ArrayVec}
use Rattle.rfb_pixel.specs.declared.colour.Colour.{Colour}
use Rattle.rfb_pixel.specs.Format.{PixelFormat}
use Rattle.rfb_picture.specs.Grid.{Grid, uniform}
use Rattle.rfb_wire.specs.stream.Prefix.{Next, More, Got}
use Rattle.rfb_wire.specs.stream.Parts.{named}
use Rattle.rfb_wire.specs.stream.Sequel.{First, Second, turn, past_in}
use Rattle.rfb_wire.specs.stream.End.{acts, EndsWith, Takes, FedBy, Steps, StepsBy}
use Rattle.rfb_wire.specs.stream.Grammar.{ReadsAll}
use Rattle.rfb_wire.specs.stream.Both.{event_as}
use Rattle.rfb_wire.specs.declared.encoding.Encoding.{Encoding}
use Rattle.rfb_picture.proofs.GridLaws.{width-uniform, height-uniform}
use Rattle.rfb_codec.specs.UpdateStream.{UpdatePoint}
use Rattle.rfb_hello.specs.declared.version.Version.{Version}
use Rattle.rfb_hello.specs.declared.version.Version.TheVariants.{V33, V37, V38}
use Rattle.rfb_hello.specs.declared.fault.HelloFault.{HelloFault}
use Rattle.rfb_hello.specs.declared.step.ViewerStep.{ViewerStep}
use Rattle.rfb_hello.specs.declared.step.ViewerStep.TheVariants.{Reply, Screen, Ready}
use Rattle.rfb_hello.specs.declared.viewer_hello.ViewerHello.{ViewerHello}
use Rattle.rfb_hello.specs.KeptText.{KeptText}
use Rattle.rfb_hello.specs.ServerHandshake.{ServerPoint, AwaitsVersion, AwaitsSecurity, AwaitsResult, AwaitsInit}
use Rattle.rfb_hello.specs.ServerHandshake.{AwaitsName, Begun, ServerItem, ProtocolVersion, SecurityNone, SecurityTypes}
use Rattle.rfb_hello.specs.ServerHandshake.{SecurityResult, ServerInit, Name, SpellsServerItem, past_server_item}
use Rattle.rfb_hello.specs.ServerItems.{server_handshake}
use Rattle.rfb_hello.specs.ViewerEnd.{ViewerSetup, viewer_tells as handshake_tells, viewer_end}
use Rattle.rfb_hello.specs.ViewerModel.{StandsFor as HelloStandsFor, setup_of, is_open, reason_of}
use Rattle.rfb_hello.proofs.ServerStreamLaws.{server_handshake_spelled}
use Rattle.rfb_hello.proofs.ToldOfLaws.{screen_at, viewer_ready_at}
use Rattle.rfb_viewer.specs.declared.fault.ViewerFault.{ViewerFault}
use Rattle.rfb_viewer.specs.declared.viewer.Viewer.{Viewer}
use Rattle.rfb_viewer.specs.declared.viewer.progress.Progress.{Progress}
use Rattle.rfb_viewer.specs.declared.viewer.progress.Progress.TheVariants.{Handshake}
use Rattle.rfb_viewer.specs.Fault.{fault_of_hello}
use Rattle.rfb_viewer.specs.ServerBytes.{ServerAt, FromServer, to_updates, first_between, server_two, server_bytes}
use Rattle.rfb_viewer.specs.Messages.{ready_bytes}
use Rattle.rfb_viewer.specs.Told.{ViewerTold, Reply as ReplyTold, Ready as ReadyTold, step_told}
use Rattle.rfb_viewer.specs.Viewer.{Viewing, ViewerState, viewer, shows, told_at, picture_after, screen_after}
use Rattle.rfb_viewer.specs.Viewer.{ends_update, black}
use Rattle.rfb_viewer.specs.Progress.{ProgressStandsFor, Stores, IsScreenAt}
use Rattle.rfb_viewer.specs.Model.{StandsFor, is_outstanding}
use Rattle.rfb_viewer.specs.steps.Steps.{at_message, screen_or}
use Rattle.rfb_viewer.proofs.LendLemmas.{hello_unreasoned}
use Rattle.rfb_viewer.proofs.MessageLemmas.{here}

-- ---- each step of a handshake has an event

told_always : (setup : ViewerSetup) (p : ServerPoint) (i : ServerItem) (bytes : List ℕ) →
    SpellsServerItem setup.max_places p i bytes → handshake_tells setup p i ≡ None → ⊥
told_always setup AwaitsVersion (ProtocolVersion version) bytes s e = cc
told_always setup (AwaitsSecurity V33) SecurityNone bytes s e = cc
told_always setup (AwaitsSecurity V37) (SecurityTypes types) bytes s e = cc
told_always setup (AwaitsSecurity V38) (SecurityTypes types) bytes s e = cc
told_always setup (AwaitsResult version) SecurityResult bytes s e = cc
told_always setup (AwaitsInit version) (ServerInit width height name_length) bytes s e = cc
told_always setup (AwaitsName version width height name_length) (Name text) bytes s e = cc
told_always setup p i bytes s e = s

got_told : (setup : ViewerSetup) (p : ServerPoint) (i : ServerItem) (bytes rest : List ℕ) →
    (server_handshake setup.limit setup.max_places).next p bytes ≡ Got i rest → handshake_tells setup p i ≡ None → ⊥
got_told setup p i bytes rest e none =
    let found = ((server_handshake_spelled setup.limit setup.max_places).reads p).found bytes i rest e in
    told_always setup p i found.0 found.2 none

-- so a call without an event took no step, and one with an event took one
pub none_taken : (setup : ViewerSetup) (p v : ServerPoint) (prefix bytes rest : List ℕ) →
    Takes (viewer_end setup) p prefix bytes None v rest → (v ≡ p) × (rest ≡ prefix ++ bytes)
    × ((server_handshake setup.limit setup.max_places).next p (prefix ++ bytes) ≡ More)
none_taken setup p v prefix bytes rest takes = by takes.items takes.reads takes.state takes.ends
  where
    by : (items : List ServerItem) →
        ReadsAll (server_handshake setup.limit setup.max_places) p (prefix ++ bytes) items rest →
        v ≡ acts (viewer_end setup) p items → EndsWith (viewer_end setup) p items None → (v ≡ p)
        × (rest ≡ prefix ++ bytes) × ((server_handshake setup.limit setup.max_places).next p (prefix ++ bytes) ≡ More)
    by [] reads state ends = (
      state,
      sym reads,
      subst (λ (ys : List ℕ). (server_handshake setup.limit setup.max_places).next p ys ≡ More) (sym reads)
          (subst (λ (w : ServerPoint). (server_handshake setup.limit setup.max_places).next w rest ≡ More)
          state takes.partial),
    )
    by (i ∷ []) reads state ends = absurd (got_told setup p i (prefix ++ bytes) reads.0 reads.1 ends)
    by (i ∷ j ∷ items) reads state ends = absurd (got_told setup p i (prefix ++ bytes) reads.0 reads.1 ends.0)

pub some_taken : (setup : ViewerSetup) (p v : ServerPoint) (prefix bytes rest : List ℕ) (d : ViewerStep) →
    Takes (viewer_end setup) p prefix bytes (Some d) v rest →
    (i : ServerItem) × ((server_handshake setup.limit setup.max_places).next p (prefix ++ bytes) ≡ Got i [])
    × (handshake_tells setup p i ≡ Some d) × (v ≡ past_server_item setup.limit p i) × (rest ≡ [])
some_taken setup p v prefix bytes rest d takes = by takes.items takes.reads takes.state takes.ends
  where
    by : (items : List ServerItem) →
        ReadsAll (server_handshake setup.limit setup.max_places) p (prefix ++ bytes) items rest →
        v ≡ acts (viewer_end setup) p items → EndsWith (viewer_end setup) p items (Some d) →
        (i : ServerItem) × ((server_handshake setup.limit setup.max_places).next p (prefix ++ bytes) ≡ Got i [])
        × (handshake_tells setup p i ≡ Some d) × (v ≡ past_server_item setup.limit p i) × (rest ≡ [])
    by [] reads state ends = absurd (no ends)
      where
        no : Some d ≡ None → ⊥
        no e = cc
    by (i ∷ []) reads state ends =
        let none : reads.0 ≡ [] = reads.2 ∙ takes.whole in (
          i,
          subst (λ (ys : List ℕ). (server_handshake setup.limit setup.max_places).next p (prefix ++ bytes)
              ≡ Got i ys) none reads.1,
          ends,
          state,
          takes.whole,
        )
    by (i ∷ j ∷ items) reads state ends = absurd (got_told setup p i (prefix ++ bytes) reads.0 reads.1 ends.0)

-- items without an event are none
pub none_quiet : (setup : ViewerSetup) (p : ServerPoint) (bytes rest : List ℕ) (items : List ServerItem) →
    ReadsAll (server_handshake setup.limit setup.max_places) p bytes items rest →
    EndsWith (viewer_end setup) p items None → items ≡ []
none_quiet setup p bytes rest [] reads ends = refl
none_quiet setup p bytes rest (i ∷ []) reads ends = absurd (got_told setup p i bytes reads.0 reads.1 ends)
none_quiet setup p bytes rest (i ∷ j ∷ items) reads ends = absurd (got_told setup p i bytes reads.0 reads.1 ends.0)

-- ---- points

-- an answer leads on in the handshake, and makes no screen
reply_keeps : (setup : ViewerSetup) (form : PixelFormat) (p : ServerPoint) (i : ServerItem) (g : Option (Grid Colour))
    (r : ArrayVec ℕ) → handshake_tells setup p i ≡ Some (Reply r) → (to_updates form p i ≡ None)
    × (screen_after i g ≡ g) × (IsScreenAt p g → IsScreenAt (past_server_item setup.limit p i) g)
reply_keeps setup form AwaitsVersion (ProtocolVersion version) g r e = (refl, refl, λ h. h)
reply_keeps setup form (AwaitsSecurity V33) SecurityNone g r e = (refl, refl, λ h. h)
reply_keeps setup form (AwaitsSecurity V37) SecurityNone g r e = (refl, refl, λ h. h)
reply_keeps setup form (AwaitsSecurity V38) SecurityNone g r e = (refl, refl, λ h. h)
reply_keeps setup form (AwaitsSecurity V33) (SecurityTypes types) g r e = (refl, refl, λ h. h)
reply_keeps setup form (AwaitsSecurity V37) (SecurityTypes types) g r e = (refl, refl, λ h. h)
reply_keeps setup form (AwaitsSecurity V38) (SecurityTypes types) g r e = (refl, refl, λ h. h)
reply_keeps setup form (AwaitsResult version) SecurityResult g r e = (refl, refl, λ h. h)
reply_keeps setup form (AwaitsInit version) (ServerInit width height zero) g r e = absurd cc
reply_keeps setup form (AwaitsInit version) (ServerInit width height (suc n)) g r e = absurd cc
reply_keeps setup form (AwaitsName version width height name_length) (Name text) g r e = absurd cc
reply_keeps setup form p i g r e = absurd cc

pub at_hello : (viewing : Viewing) (v : Viewer) (at : ServerAt) (g : Option (Grid Colour)) (prefix : List ℕ) →
    ProgressStandsFor viewing v Handshake at g prefix → (p : ServerPoint) × (at ≡ First p) × HelloStandsFor
    viewing.hello v.hello p prefix × (is_open v.hello ≡ true) × (v.format ≡ viewing.form) × Stores v g × IsScreenAt p g
at_hello viewing v (First p) g prefix h = (p, refl, h.0, h.1, h.2, h.3, h.4)
at_hello viewing v (Second q) g prefix h = absurd h

-- ---- a viewer that is made of another in the handshake

pub record IsGreeted (old new : Viewer) (after : ViewerHello) (progress : Progress)
    (picture : Option (Grid Colour)) : Type 0 where
  pub hello : new.hello ≡ after
  pub setup : setup_of after ≡ setup_of old.hello
  pub form : new.format ≡ old.format
  pub encodings : new.encodings ≡ old.encodings
  pub limit : new.text_limit ≡ old.text_limit
  pub request : new.request ≡ old.request
  pub progress_is : new.progress ≡ progress
  pub picture_is : new.picture ≡ picture

module _ (viewing : Viewing) (old new : Viewer) (after : ViewerHello) where
  greeted_stands : (p : Progress) (g : Option (Grid Colour)) (s t : ViewerState) (prefix rest : List ℕ) →
      IsGreeted old new after p g → StandsFor viewing old s prefix → t.outstanding ≡ s.outstanding →
      ProgressStandsFor viewing new p t.point t.picture rest → StandsFor viewing new t rest
  greeted_stands p g s t prefix rest made stands out progress = record {
    setup_is = ap setup_of made.hello ∙ (made.setup ∙ stands.setup_is);
    limit_is = made.limit ∙ stands.limit_is;
    encodings_are = ap (λ e. e.items) made.encodings ∙ stands.encodings_are;
    outstanding_is = out ∙ (stands.outstanding_is ∙ ap is_outstanding (sym made.request));
    progress_is = subst (λ (q : Progress). ProgressStandsFor viewing new q t.point t.picture rest)
        (sym made.progress_is) progress;
  }

  next_is : (s : ViewerState) (p : ServerPoint) (bytes : List ℕ) (n : Next ServerItem HelloFault) →
      s.point ≡ First p → (server_handshake viewing.hello.limit viewing.hello.max_places).next p bytes ≡ n →
      (server_bytes viewing.form viewing.hello).next s.point bytes ≡ named (λ i. First i) fault_of_hello n
  next_is s p bytes n at e = ap (λ (a : ServerAt). (server_bytes viewing.form viewing.hello).next a bytes)
      at ∙ ap (named (λ i. First i) fault_of_hello) e

  -- more of a step has come
  pub greet_more : (bytes : List ℕ) → old.progress ≡ Handshake →
      FedBy (viewer_end viewing.hello) (HelloStandsFor viewing.hello) old.hello bytes None after →
      is_open after ≡ true → IsGreeted old new after Handshake old.picture →
      StepsBy (viewer viewing) (StandsFor viewing) old bytes (Ok None) new
  greet_more bytes was fed goes made s prefix stands =
      let h = at_hello viewing old s.point s.picture prefix (here viewing old Handshake s prefix was stands) in
      let f = fed h.0 prefix h.2 in
      let t = none_taken viewing.hello h.0 f.0 prefix bytes f.1 f.3 in
      let stands' : HelloStandsFor viewing.hello after h.0 (prefix ++ bytes) =
      subst (λ (w : ServerPoint). HelloStandsFor viewing.hello after w (prefix ++ bytes)) t.0
      (subst (λ (ys : List ℕ). HelloStandsFor viewing.hello after f.0 ys) t.1 f.2) in
      let hello : HelloStandsFor viewing.hello new.hello h.0 (prefix ++ bytes) =
      subst (λ (v : ViewerHello). HelloStandsFor viewing.hello v h.0 (prefix ++ bytes)) (sym made.hello) stands' in
      let now : StandsFor viewing new s (prefix ++ bytes) =
      greeted_stands Handshake old.picture s s prefix (prefix ++ bytes) made stands refl
      (subst (λ (a : ServerAt). ProgressStandsFor viewing new Handshake a s.picture (prefix ++ bytes)) (sym h.1)
      (hello, ap is_open made.hello ∙ goes, made.form ∙ h.4, made.picture_is ∙ h.5, h.6)) in
      subst (λ (n : Next FromServer ViewerFault). Steps (viewer viewing) (StandsFor viewing) new s (prefix ++ bytes) n
      (Ok None)) (sym (next_is s h.0 (prefix ++ bytes) More h.1 t.2)) (refl, now)

  -- a step has come
  greet_got : (bytes : List ℕ) (d : ViewerStep) (event : Option ViewerTold) → old.progress ≡ Handshake →
      FedBy (viewer_end viewing.hello) (HelloStandsFor viewing.hello) old.hello bytes (Some d) after →
      ((s : ViewerState) (prefix : List ℕ) (p : ServerPoint) (i : ServerItem) →
      StandsFor viewing old s prefix → s.point ≡ First p → viewing.form ≡ old.format → Stores old s.picture →
      IsScreenAt p s.picture → handshake_tells viewing.hello p i ≡ Some d →
      HelloStandsFor viewing.hello after (past_server_item viewing.hello.limit p i) [] →
      (step_told (ready_bytes viewing.form viewing.encodings) d ≡ event)
      × StandsFor viewing new (shows viewing s (First i)) []) →
      StepsBy (viewer viewing) (StandsFor viewing) old bytes (Ok event) new
  greet_got bytes d event was fed step s prefix stands =
      let h = at_hello viewing old s.point s.picture prefix (here viewing old Handshake s prefix was stands) in
      let f = fed h.0 prefix h.2 in
      let t = some_taken viewing.hello h.0 f.0 prefix bytes f.1 d f.3 in
      let after_is : HelloStandsFor viewing.hello after (past_server_item viewing.hello.limit h.0 t.0) [] =
      subst (λ (w : ServerPoint). HelloStandsFor viewing.hello after w []) t.3
      (subst (λ (ys : List ℕ). HelloStandsFor viewing.hello after f.0 ys) t.4 f.2) in
      let made = step s prefix h.0 t.0 stands h.1 (sym h.4) h.5 h.6 t.2 after_is in
      let told : told_at viewing s.point (First t.0) ≡ event = ap (λ (a : ServerAt). told_at viewing a (First t.0)) h.1
      ∙ (ap (event_as (step_told (ready_bytes viewing.form viewing.encodings))) t.2 ∙ made.0) in
      subst (λ (n : Next FromServer ViewerFault). Steps (viewer viewing) (StandsFor viewing) new s (prefix ++ bytes) n
      (Ok event)) (sym (next_is s h.0 (prefix ++ bytes) (Got t.0 []) h.1 t.1)) (refl, told, made.1)

  -- the state after a step, by its parts
  stands_later : (s : ViewerState) (prefix : List ℕ) (p : ServerPoint) (i : ServerItem) (to : ServerAt)
      (g : Option (Grid Colour)) (progress : Progress) (k : Option (Grid Colour)) → StandsFor viewing old s prefix →
      s.point ≡ First p → turn (to_updates viewing.form p i) (past_server_item viewing.hello.limit p i) ≡ to →
      screen_after i s.picture ≡ g → IsGreeted old new after progress k →
      ProgressStandsFor viewing new progress to g [] → StandsFor viewing new (shows viewing s (First i)) []
  stands_later s prefix p i to g progress k stands at point picture made now =
      let t = shows viewing s (First i) in
      let point' : t.point ≡ to =
      ap (λ (a : ServerAt). past_in (server_two viewing.form viewing.hello) a (First i)) at ∙ point in
      let picture' : t.picture ≡ g = ap (λ (a : ServerAt). picture_after a (First i) s.picture) at ∙ picture in
      let out : t.outstanding ≡ s.outstanding =
      ap (λ (a : ServerAt). if ends_update a (First i) then false else s.outstanding) at in
      greeted_stands progress k s t prefix [] made stands out
      (subst (λ (a : ServerAt). ProgressStandsFor viewing new progress a t.picture []) (sym point')
      (subst (λ (x : Option (Grid Colour)). ProgressStandsFor viewing new progress to x []) (sym picture') now))

  pub greet_reply : (bytes : List ℕ) (r : ArrayVec ℕ) → old.progress ≡ Handshake →
      FedBy (viewer_end viewing.hello) (HelloStandsFor viewing.hello) old.hello bytes (Some (Reply r)) after →
      is_open after ≡ true → IsGreeted old new after Handshake old.picture →
      StepsBy (viewer viewing) (StandsFor viewing) old bytes (Ok (Some (ReplyTold r.items))) new
  greet_reply bytes r was fed goes made =
      greet_got bytes (Reply r) (Some (ReplyTold r.items)) was fed
      (λ s prefix p i stands at form stores screen told after_is.
      let keeps = reply_keeps viewing.hello viewing.form p i s.picture r told in
      let hello = subst (λ (v : ViewerHello). HelloStandsFor viewing.hello v (past_server_item viewing.hello.limit p i)
      []) (sym made.hello) after_is in (
        refl,
        stands_later s prefix p i (First (past_server_item viewing.hello.limit p i)) s.picture
            Handshake old.picture stands at
            (ap (λ (over : Option UpdatePoint). turn over (past_server_item viewing.hello.limit p i)) keeps.0) keeps.1
            made
            (hello, ap is_open made.hello ∙ goes, made.form ∙ sym form, made.picture_is ∙ stores, keeps.2 screen),
      ))

  pub greet_screen : (bytes : List ℕ) (width height : ℕ) → old.progress ≡ Handshake →
      FedBy (viewer_end viewing.hello) (HelloStandsFor viewing.hello) old.hello bytes (Some (Screen width height))
      after → is_open after ≡ true → IsGreeted old new after Handshake (Some (screen_or width height old.picture)) →
      StepsBy (viewer viewing) (StandsFor viewing) old bytes (Ok None) new
  greet_screen bytes width height was fed goes made =
      greet_got bytes (Screen width height) None was fed (λ s prefix p i stands at form stores screen told after_is.
      let is = screen_at viewing.hello p i width height told in
      let none : s.picture ≡ None = subst (λ (w : ServerPoint). IsScreenAt w s.picture) is.at_point screen in
      let shown : new.picture ≡ Some (uniform width height black) =
      made.picture_is ∙ ap (λ (g : Option (Grid Colour)). Some (screen_or width height g)) (stores ∙ none) in
      let hello : HelloStandsFor viewing.hello new.hello (AwaitsName is.version width height is.name_length) [] = subst
      (λ (v : ViewerHello). HelloStandsFor viewing.hello v (AwaitsName is.version width height is.name_length) [])
      (sym made.hello) (subst (λ (w : ServerPoint). HelloStandsFor viewing.hello after w []) is.after after_is) in
      let over : to_updates viewing.form p i ≡ None = ap (λ (w : ServerPoint). to_updates viewing.form w i) is.at_point
      ∙ (ap (λ (j : ServerItem). to_updates viewing.form (AwaitsInit is.version) j) is.item_is
      ∙ none_over is.version width height is.name_length is.named) in (
        refl,
        stands_later s prefix p i (First (AwaitsName is.version width height is.name_length))
            (Some (uniform width height black)) Handshake (Some (screen_or width height old.picture)) stands at
            (ap (λ (o : Option UpdatePoint). turn o (past_server_item viewing.hello.limit p i)) over
            ∙ ap (λ (w : ServerPoint). First w) is.after)
            (ap (λ (j : ServerItem). screen_after j s.picture) is.item_is) made
            (hello, ap is_open made.hello ∙ goes, made.form ∙ sym form, shown, refl),
      ))
    where
      none_over : (version : Version) (w h n : ℕ) → 0 < n →
          to_updates viewing.form (AwaitsInit version) (ServerInit w h n) ≡ None
      none_over version w h zero some = absurd (omega (arith, some))
      none_over version w h (suc n) some = refl

  -- the handshake is done
  ready_at : (width height : ℕ) (version : Version) →
      IsGreeted old new after at_message (Some (screen_or width height old.picture)) → viewing.form ≡ old.format →
      HelloStandsFor viewing.hello after (Begun version width height) [] → is_open after ≡ false →
      Some (screen_or width height old.picture) ≡ Some (uniform width height black) → ProgressStandsFor viewing new
      at_message (Second (first_between viewing.form width height)) (Some (uniform width height black)) []
  ready_at width height version made form stands closed shown = (
    record {
      closed = ap is_open made.hello ∙ closed;
      unreasoned = ap reason_of made.hello
          ∙ hello_unreasoned viewing.hello.text_limit after.progress (Begun version width height) []
          stands.progress_is;
      form_is = form ∙ sym made.form;
      left_is = refl;
      screen = uniform width height black;
      picture_is = refl;
      columns = width-uniform width height black;
      rows = height-uniform width height black;
    },
    made.picture_is ∙ shown,
    refl,
    tt,
  )

  pub greet_ready : (bytes : List ℕ) (width height : ℕ) (version : Version) (name : KeptText) (name_length : ℕ) →
      old.progress ≡ Handshake → FedBy (viewer_end viewing.hello) (HelloStandsFor viewing.hello) old.hello bytes
      (Some (Ready width height version name name_length)) after → is_open after ≡ false →
      IsGreeted old new after at_message (Some (screen_or width height old.picture)) → StepsBy (viewer viewing)
      (StandsFor viewing) old bytes (Ok (Some (ReadyTold (ready_bytes old.format old.encodings.items) width height
      name.bytes name_length))) new
  greet_ready bytes width height version name name_length was fed closed made =
      greet_got bytes (Ready width height version name name_length) (Some (ReadyTold
      (ready_bytes old.format old.encodings.items) width height name.bytes name_length)) was fed
      (λ s prefix p i stands at form stores screen told after_is.
      let is = viewer_ready_at viewing.hello p i width height version name name_length told in
      let hello = subst (λ (w : ServerPoint). HelloStandsFor viewing.hello after w []) is.after after_is in
      let event : Some (ReadyTold (ready_bytes viewing.form viewing.encodings) width height name.bytes name_length)
      ≡ Some (ReadyTold (ready_bytes old.format old.encodings.items) width height name.bytes name_length) = ap
      (λ (f : PixelFormat). Some (ReadyTold (ready_bytes f viewing.encodings) width height name.bytes
      name_length)) form ∙ ap (λ (es : List Encoding). Some (ReadyTold
      (ready_bytes old.format es) width height name.bytes name_length)) (sym stands.encodings_are) in (
        event,
        elim is.told_at [
          | inl one ↦
              let none : s.picture ≡ None = subst (λ (w : ServerPoint). IsScreenAt w s.picture) one.at_point screen in
              let shown : Some (screen_or width height old.picture) ≡ Some (uniform width height black) =
              ap (λ (g : Option (Grid Colour)). Some (screen_or width height g)) (stores ∙ none) in
              let item : i ≡ ServerInit width height 0 =
              one.item_is ∙ ap (λ (k : ℕ). ServerInit width height k) one.unnamed in
              let over : to_updates viewing.form p i ≡ Some (first_between viewing.form width height) =
              ap (λ (w : ServerPoint). to_updates viewing.form w i) one.at_point
              ∙ ap (λ (j : ServerItem). to_updates viewing.form (AwaitsInit version) j) item in
              stands_later s prefix p i (Second (first_between viewing.form width height))
              (Some (uniform width height black)) at_message (Some (screen_or width height old.picture)) stands at
              (ap (λ (o : Option UpdatePoint). turn o (past_server_item viewing.hello.limit p i))
              over) (ap (λ (j : ServerItem). screen_after j s.picture) item) made
              (ready_at width height version made form hello closed shown)
          | inr one ↦
              let some : s.picture ≡ Some (uniform width height black) =
              subst (λ (w : ServerPoint). IsScreenAt w s.picture) one.at_point screen in
              let shown : Some (screen_or width height old.picture) ≡ Some (uniform width height black) =
              ap (λ (g : Option (Grid Colour)). Some (screen_or width height g)) (stores ∙ some) in
              let over : to_updates viewing.form p i ≡ Some (first_between viewing.form width height) =
              ap (λ (w : ServerPoint). to_updates viewing.form w i) one.at_point ∙ ap (λ (j : ServerItem).
              to_updates viewing.form (AwaitsName version width height name_length) j) one.item_is in
              stands_later s prefix p i (Second (first_between viewing.form width height))
              (Some (uniform width height black)) at_message (Some (screen_or width height old.picture)) stands at
              (ap (λ (o : Option UpdatePoint). turn o (past_server_item viewing.hello.limit p i))
              over) (ap (λ (j : ServerItem). screen_after j s.picture) one.item_is ∙ some) made
              (ready_at width height version made form hello closed shown)
        ],
      ))
