-- Where an update is due, and what holds of a link once it has joined the items in flight.
use Rattle.std.proofs.Common.{◌≡◌, ℕ, false, List, [], ◌∷◌, ◌++◌, map, Option, Some, refl, sym, ap, ◌∙◌, subst}
use Rattle.rfb_pixel.specs.declared.colour.Colour.{Colour}
use Rattle.rfb_pixel.specs.Format.{PixelFormat}
use Rattle.rfb_picture.specs.Grid.{Grid}
use Rattle.rfb_picture.specs.Area.{Places}
use Rattle.rfb_wire.specs.stream.Sequel.{Second, past_in}
use Rattle.rfb_wire.specs.stream.End.{acts}
use Rattle.rfb_codec.specs.UpdateStream.{UpdatePoint, UpdateItem, left_after, update_stream}
use Rattle.rfb_codec.specs.Effect.{effect, effects, IsAlike, Agrees}
use Rattle.rfb_codec.specs.WholeUpdate.{update_of}
use Rattle.rfb_codec.proofs.EffectLaws.{effects_left}
use Rattle.rfb_server.specs.Request.{needs_sending}
use Rattle.rfb_server.specs.Composition.{Part, sent_as, between, Composes, IsDue}
use Rattle.rfb_server.proofs.ComposingLaws.{shows_screen}
use Rattle.rfb_viewer.specs.ServerBytes.{ServerAt, FromServer, server_two}
use Rattle.rfb_viewer.specs.Viewer.{ViewerState, viewer, shows, picture_after, effect_on}
use Rattle.rfb_session.specs.Link.{Ends, SessionState, server_of, LinkState}
use Rattle.rfb_session.specs.Headline.{ShowsKnown, ShowsLatest}
use Rattle.rfb_session.specs.LinkSteps.{ComposesOn}
use Rattle.rfb_session.proofs.QueueLemmas.{IsRest, update_rest, IsUnasked, none_unasked}
use Rattle.rfb_session.proofs.PhaseLemmas.{Core, core, Meets, Awaits, Phase, Greeting, Versioned, Typed, Choosing37}
use Rattle.rfb_session.proofs.PhaseLemmas.{Choosing38, Chosen, Sharing, Begun, Named, Idling, Asking, Held, Sent}
use Rattle.rfb_session.proofs.PhaseLemmas.{meets_as}
use Rattle.rfb_session.proofs.HoldsLemmas.{due, Holds}

past_effects : (p : UpdatePoint) (item : UpdateItem) (items : List UpdateItem)
    (picture : Grid Colour) → effects (update_stream.past p item) items picture
    ≡ effects p items picture
unfolding update_stream
past_effects p item items picture = effects_left p (left_after p.left item) items picture

-- items after the handshake have their effects on the picture
acts_effects : (e : Ends) (v : ViewerState) (p : UpdatePoint) (items : List UpdateItem)
    (picture : Grid Colour) → v.point ≡ Second p → v.picture ≡ Some picture →
    (acts (viewer e.viewing) v (map (λ item. Second item) items)).picture
    ≡ Some (effects p items picture)
acts_effects e v p [] picture at is = is
acts_effects e v p (item ∷ items) picture at is =
    let point =
    ap (λ (q : ServerAt). past_in (server_two e.viewing.form e.viewing.hello) q
    (Second item)) at in
    let now =
    ap (λ (q : ServerAt). picture_after q (Second item) v.picture) at
    ∙ ap (λ (o : Option (Grid Colour)). effect_on p item o) is in
    acts_effects e (shows e.viewing v (Second item)) (update_stream.past p item) items
    (effect p item picture) point now
    ∙ ap (λ (g : Grid Colour). Some g) (past_effects p item items (effect p item picture))

-- where nothing is asked no update is due
not_due : (screen : Grid Colour) (s : SessionState) → IsUnasked s.area →
    IsDue (server_of screen s) → ⊥
not_due screen s unasked d =
    let none : needs_sending (server_of screen s) d.x d.y ≡ false = rw (unasked d.x d.y) refl in
    let some = d.needs in
    cc

-- the server has a request
pub record IsHeld (e : Ends) (c : Core) : Type 0 where
  pub p : UpdatePoint
  pub meets : Meets e c p
  pub awaits : Awaits c p

pub due_held : (e : Ends) (screen : Grid Colour) (c : Core) → Phase e c →
    IsDue (server_of screen c.session) → IsHeld e c
due_held e screen c (Greeting s) d = absurd (not_due screen c.session s.unasked d)
due_held e screen c (Versioned v s) d = absurd (not_due screen c.session s.unasked d)
due_held e screen c (Typed v s) d = absurd (not_due screen c.session s.unasked d)
due_held e screen c (Choosing37 s) d = absurd (not_due screen c.session s.unasked d)
due_held e screen c (Choosing38 s) d = absurd (not_due screen c.session s.unasked d)
due_held e screen c (Chosen s) d = absurd (not_due screen c.session s.unasked d)
due_held e screen c (Sharing v s) d = absurd (not_due screen c.session s.unasked d)
due_held e screen c (Begun v s) d = absurd (not_due screen c.session s.unasked d)
due_held e screen c (Named v n text s h) d = absurd (not_due screen c.session s.unasked d)
due_held e screen c (Idling p m s) d = absurd (not_due screen c.session s.unasked d)
due_held e screen c (Asking p m s) d = absurd (not_due screen c.session s.unasked d)
due_held e screen c (Held p m s) d = record { p = p; meets = m; awaits = s }
due_held e screen c (Sent p m s) d = absurd (not_due screen c.session s.unasked d)

pub point_is : (p : UpdatePoint) (w h : ℕ) (f : PixelFormat) → p.width ≡ w → p.height ≡ h → p.form
    ≡ f → p.left ≡ 0 → p ≡ record { width = w; height = h; form = f; left = 0 }
point_is p w h f wide high formed none =
    let at : (a b : ℕ) (g : PixelFormat) (n : ℕ) → UpdatePoint =
    λ a b g n. record { width = a; height = b; form = g; left = n } in
    let e1 : at p.width p.height p.form p.left ≡ at w p.height p.form p.left =
    ap (λ (a : ℕ). at a p.height p.form p.left) wide in
    let e2 : at w p.height p.form p.left ≡ at w h p.form p.left =
    ap (λ (b : ℕ). at w b p.form p.left) high in
    let e3 : at w h p.form p.left ≡ at w h f p.left =
    ap (λ (g : PixelFormat). at w h g p.left) formed in
    let e4 : at w h f p.left ≡ at w h f 0 = ap (λ (n : ℕ). at w h f n) none in
    e1 ∙ e2 ∙ e3 ∙ e4

abbrev composed_core : Grid Colour → Core → SessionState → List Part → Core
composed_core screen c to parts = record c {
  session = to;
  to_viewer = c.to_viewer ++ map (λ item. Second item) (update_of (map sent_as parts));
  latest = Some (record { screen = screen; area = c.session.area; form = c.session.form });
}

holds_composed_at : (e : Ends) (screen : Grid Colour) (c : Core) (to : SessionState)
    (bytes : List ℕ) (copies blocks : List Part) → Holds e screen c → IsHeld e c →
    Composes (server_of screen c.session) (server_of screen to) bytes copies blocks →
    Holds e screen (composed_core screen c to (copies ++ blocks))
holds_composed_at e screen c to bytes copies blocks h held composed =
    let p = held.p in
    let m = held.meets in
    let a = held.awaits in
    let picture = m.picture in
    let items = update_of (map sent_as (copies ++ blocks)) in
    let queue : c.to_viewer ++ map (λ item. Second item) items ≡ map (λ item. Second item) items =
    ap (λ (q : List FromServer). q ++ map (λ item. Second item) items) a.none in
    let point : p ≡ between (server_of screen c.session) =
    point_is p screen.width screen.height c.session.form (m.wide ∙ sym h.wide)
    (m.high ∙ sym h.high) (sym a.formed) a.between in
    let before : due e c ≡ Some picture.picture =
    ap (λ (q : List FromServer). (acts (viewer e.viewing) c.viewer q).picture) a.none
    ∙ picture.picture_is in
    let agrees : Agrees c.session.form picture.picture c.session.known =
    subst (λ (d : Option
    (Grid Colour)). ShowsKnown c.session.form c.session.known d) before h.known in
    let alike : IsAlike picture.picture c.session.known =
    record {
      columns = picture.wide ∙ sym h.known_wide;
      rows = picture.high
          ∙ sym h.known_high;
    } in
    let sized : IsAlike screen c.session.known =
    record { columns = h.wide ∙ sym h.known_wide; rows = h.high ∙ sym h.known_high } in
    let after : due e (composed_core screen c to (copies ++ blocks))
    ≡ Some (effects (between (server_of screen c.session)) items picture.picture) =
    ap (λ (q : List FromServer). (acts (viewer e.viewing) c.viewer q).picture) queue
    ∙ acts_effects e c.viewer p items picture.picture m.viewer_at picture.picture_is
    ∙ ap (λ (q : UpdatePoint). Some (effects q items picture.picture)) point in
    let known : Agrees to.form
    (effects (between (server_of screen c.session)) items picture.picture) to.known =
    subst (λ (f : PixelFormat). Agrees f
    (effects (between (server_of screen c.session)) items picture.picture) to.known)
    (sym composed.same_format) (composed.agrees picture.picture picture.whole alike agrees) in
    record {
      wide = h.wide;
      high = h.high;
      known_wide = composed.same_size.columns ∙ h.known_wide;
      known_high = composed.same_size.rows ∙ h.known_high;
      phase = Sent p
          (meets_as e c (composed_core screen c to (copies ++ blocks)) p p m
          (composed.same_point ∙ m.session_at) m.viewer_at refl refl refl)
          (record {
            busy = a.busy;
            unasked =
                subst (λ (area : Places). IsUnasked area) (sym composed.emptied) (none_unasked _ _);
            mere = a.mere;
            formed = composed.same_format ∙ a.formed;
            rest = subst (λ (q : List FromServer). IsRest p q) (sym queue)
                (update_rest p (map sent_as (copies ++ blocks)));
          });
      known = subst (λ (d : Option (Grid Colour)). ShowsKnown to.form to.known d)
          (sym after) known;
      latest = subst
          (λ (d : Option (Grid Colour)). ShowsLatest
          (Some (record { screen = screen; area = c.session.area; form = c.session.form })) d)
          (sym after)
          (λ x y d wide high asked. shows_screen (server_of screen c.session)
          (server_of screen to) bytes copies blocks picture.picture x y d
          composed sized picture.whole alike agrees (wide, high) asked);
    }

pub holds_composed : (e : Ends) (screen : Grid Colour) (old new : LinkState) →
    Holds e screen (core old) → ComposesOn screen old new → Holds e screen (core new)
holds_composed e screen old new h c =
    subst (λ (l : LinkState). Holds e screen (core l)) (sym c.result)
    (holds_composed_at e screen (core old) c.session c.bytes c.copies c.blocks h
    (due_held e screen (core old) h.phase c.due) c.composed)
