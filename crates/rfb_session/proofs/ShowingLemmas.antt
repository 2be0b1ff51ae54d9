-- How far a link is once an item has reached the viewer.
use Rattle.std.proofs.Common.{◌≡◌, ℕ, suc, Bool, true, false, List, [], ◌∷◌, ◌++◌, map, length, Option, Some}
use Rattle.std.proofs.Common.{if◌then◌else◌, refl, sym, ap, ◌∙◌, subst, append-nil}
use Rattle.rfb_pixel.specs.declared.colour.Colour.{Colour}
use Rattle.rfb_picture.specs.Grid.{Grid, uniform}
use Rattle.rfb_picture.proofs.GridLaws.{width-uniform, height-uniform, whole-uniform}
use Rattle.rfb_wire.specs.stream.Sequel.{First, Second, past_in}
use Rattle.rfb_codec.specs.UpdateStream.{UpdatePoint, UpdateItem, update_stream}
use Rattle.rfb_codec.specs.Effect.{effect}
use Rattle.rfb_codec.proofs.EffectLaws.{effect_picture}
use Rattle.rfb_hello.specs.declared.version.Version.{Version}
use Rattle.rfb_hello.specs.declared.version.Version.TheVariants.{V33, V37, V38}
use Rattle.rfb_hello.specs.Version.{lower}
use Rattle.rfb_hello.specs.ClientHandshake.{after_version}
use Rattle.rfb_hello.specs.ServerHandshake.{ServerPoint, AwaitsSecurity, AwaitsResult, AwaitsInit, AwaitsName}
use Rattle.rfb_hello.specs.ServerHandshake.{ServerItem, ServerInit, Name}
use Rattle.rfb_hello.specs.ServerAnswers.{types_asked, name_asked}
use Rattle.rfb_server.specs.ClientBytes.{ClientAt, FromClient}
use Rattle.rfb_viewer.specs.ServerBytes.{ServerAt, FromServer, server_two, first_between}
use Rattle.rfb_viewer.specs.Told.{is_last}
use Rattle.rfb_viewer.specs.Viewer.{shows, picture_after, effect_on, ends_update, black}
use Rattle.rfb_session.specs.Link.{Ends}
use Rattle.rfb_session.specs.Answers.{ready_messages, viewer_answers}
use Rattle.rfb_session.proofs.QueueLemmas.{AreMere, AreLater, form_after, mere_forms, all_later, IsRest, form_kept}
use Rattle.rfb_session.proofs.QueueLemmas.{width_kept, height_kept, last_leaves_none}
use Rattle.rfb_session.proofs.PhaseLemmas.{Core, HasPicture, Stands, Meets, Sends, Phase, Greeting, Versioned, Typed}
use Rattle.rfb_session.proofs.PhaseLemmas.{Choosing37, Choosing38, Chosen, Sharing, Begun, Named, Idling, Asking, Held}
use Rattle.rfb_session.proofs.PhaseLemmas.{Sent, first_is, none_first}

abbrev pub shown : Ends → Core → FromServer → List FromServer → Core
shown e c item rest = record c {
  viewer = shows e.viewing c.viewer item;
  to_viewer = rest;
  to_server = c.to_server ++ viewer_answers e.viewing c.viewer.point item;
}

-- the queue's first item is known
shown_as : (e : Ends) (c : Core) (item i : FromServer) (rest r : List FromServer) → item ∷ rest
    ≡ i ∷ r → Phase e (shown e c i r) → Phase e (shown e c item rest)
shown_as e c item i rest r same phase =
    let parts = first_is item i rest r same in
    subst (λ (k : FromServer). Phase e (shown e c k rest)) (sym parts.0)
    (subst (λ (q : List FromServer). Phase e (shown e c i q)) (sym parts.1) phase)

if_same : (b : Bool) (x y : Bool) → x ≡ y → (if b then y else x) ≡ y
if_same true x y same = refl
if_same false x y same = same

-- a step of the handshake after which it goes on
shown_stands : (e : Ends) (c : Core) (sp : ClientAt) (vp to : ServerPoint)
    (ts more : List FromClient) (step : ServerItem) (rest : List FromServer) →
    Stands c sp vp ts (First step ∷ rest) →
    past_in (server_two e.viewing.form e.viewing.hello) (First vp) (First step) ≡ First to →
    ts ++ viewer_answers e.viewing (First vp) (First step) ≡ more →
    Stands (shown e c (First step) rest) sp to more rest
shown_stands e c sp vp to ts more step rest s past answered = record {
  session_at = s.session_at;
  viewer_at =
      ap (λ (at : ServerAt). past_in (server_two e.viewing.form e.viewing.hello) at
      (First step)) s.viewer_at ∙ past;
  quiet = if_same (ends_update c.viewer.point (First step)) c.viewer.outstanding false s.quiet;
  to_server_is =
      ap (λ (q : List FromClient). q ++ viewer_answers e.viewing c.viewer.point
      (First step)) s.to_server_is ∙ ap
      (λ (at : ServerAt). ts ++ viewer_answers e.viewing at (First step)) s.viewer_at ∙ answered;
  to_viewer_is = refl;
  unasked = s.unasked;
  unknown = s.unknown;
  none_yet = s.none_yet;
}

-- the last step of the handshake
shown_meets : (e : Ends) (c : Core) (vp : ServerPoint) (step : ServerItem)
    (rest : List FromServer) →
    Stands c (Second tt) vp [] (First step ∷ rest) → rest ≡ [] →
    past_in (server_two e.viewing.form e.viewing.hello) (First vp) (First step)
    ≡ Second (first_between e.viewing.form e.serving.hello.width e.serving.hello.height) →
    viewer_answers e.viewing (First vp) (First step) ≡ ready_messages e.viewing →
    HasPicture e (shown e c (First step) rest) → Phase e (shown e c (First step) rest)
shown_meets e c vp step rest s none past answered picture =
    let queue : c.to_server ++ viewer_answers e.viewing c.viewer.point (First step)
    ≡ ready_messages e.viewing =
    ap (λ (q : List FromClient). q ++ viewer_answers e.viewing c.viewer.point
    (First step)) s.to_server_is ∙ ap
    (λ (at : ServerAt). viewer_answers e.viewing at (First step)) s.viewer_at ∙ answered in
    Idling (first_between e.viewing.form e.serving.hello.width e.serving.hello.height)
    (record {
      session_at = s.session_at;
      viewer_at =
          ap (λ (at : ServerAt). past_in (server_two e.viewing.form e.viewing.hello) at
          (First step)) s.viewer_at ∙ past;
      wide = refl;
      high = refl;
      picture = picture;
    })
    (record {
      quiet = if_same (ends_update c.viewer.point (First step)) c.viewer.outstanding false s.quiet;
      none = none;
      between = refl;
      unasked = s.unasked;
      later = subst (λ (q : List FromClient). AreLater q) (sym queue) (tt, (tt, tt));
      formed = ap (λ (q : List FromClient). form_after c.session.form q) queue;
    })

-- ServerInit makes a picture of the size that it gives
made : (e : Ends) (c : Core) (v : Version) (n : ℕ) (rest : List FromServer) → c.viewer.point
    ≡ First (AwaitsInit v) →
    HasPicture e
    (shown e c (First (ServerInit e.serving.hello.width e.serving.hello.height n)) rest)
made e c v n rest at = record {
  picture = uniform e.serving.hello.width e.serving.hello.height black;
  picture_is =
      ap (λ (p : ServerAt). picture_after p
      (First (ServerInit e.serving.hello.width e.serving.hello.height n)) c.viewer.picture) at;
  whole = whole-uniform e.serving.hello.width e.serving.hello.height black;
  wide = width-uniform e.serving.hello.width e.serving.hello.height black;
  high = height-uniform e.serving.hello.width e.serving.hello.height black;
}

begun_shown : (e : Ends) (c : Core) (v : Version) (text : List ℕ) →
    Stands c (Second tt) (AwaitsInit v) []
    (map (λ i. First i)
    (ServerInit e.serving.hello.width e.serving.hello.height (length text) ∷ name_asked text)) →
    Phase e (shown e c
    (First (ServerInit e.serving.hello.width e.serving.hello.height (length text)))
    (map (λ i. First i) (name_asked text)))
begun_shown e c v [] s =
    shown_meets e c (AwaitsInit v)
    (ServerInit e.serving.hello.width e.serving.hello.height 0) [] s refl refl refl
    (made e c v 0 [] s.viewer_at)
begun_shown e c v (byte ∷ text) s =
    Named v (suc (length text)) (byte ∷ text)
    (shown_stands e c (Second tt) (AwaitsInit v)
    (AwaitsName v e.serving.hello.width e.serving.hello.height (suc (length text))) [] []
    (ServerInit e.serving.hello.width e.serving.hello.height (suc (length text)))
    (First (Name (byte ∷ text)) ∷ []) s refl refl)
    (made e c v (suc (length text)) (First (Name (byte ∷ text)) ∷ []) s.viewer_at)

named_picture : (e : Ends) (c : Core) (vp : ServerPoint) (text : List ℕ) → c.viewer.point
    ≡ First vp → HasPicture e c → HasPicture e (shown e c (First (Name text)) [])
named_picture e c vp text at h = record {
  picture = h.picture;
  picture_is =
      ap (λ (p : ServerAt). picture_after p (First (Name text)) c.viewer.picture) at
      ∙ h.picture_is;
  whole = h.whole;
  wide = h.wide;
  high = h.high;
}

typed_shown : (e : Ends) (c : Core) (v : Version) (item : FromServer) (rest : List FromServer) →
    Stands c (First (after_version v)) (AwaitsSecurity v) [] (map (λ i. First i) (types_asked v)) →
    c.to_viewer ≡ item ∷ rest → Phase e (shown e c item rest)
typed_shown e c V33 item rest s queue =
    shown_as e c item _ rest _ (sym queue ∙ s.to_viewer_is)
    (Sharing V33 (shown_stands e c _ _ (AwaitsInit V33) [] _ _ [] s refl refl))
typed_shown e c V37 item rest s queue =
    shown_as e c item _ rest _ (sym queue ∙ s.to_viewer_is)
    (Choosing37 (shown_stands e c _ _ (AwaitsInit V37) [] _ _ [] s refl refl))
typed_shown e c V38 item rest s queue =
    shown_as e c item _ rest _ (sym queue ∙ s.to_viewer_is)
    (Choosing38 (shown_stands e c _ _ (AwaitsResult V38) [] _ _ [] s refl refl))

-- after an item of an update the picture has its size
effect_on_it : (p : UpdatePoint) (item : UpdateItem) (picture : Grid Colour)
    (o : Option (Grid Colour)) → o ≡ Some picture → effect_on p item o
    ≡ Some (effect p item picture)
effect_on_it p item picture o is = ap (λ (x : Option (Grid Colour)). effect_on p item x) is

shown_picture : (e : Ends) (c : Core) (p : UpdatePoint) (item : UpdateItem)
    (rest : List FromServer) → c.viewer.point ≡ Second p → HasPicture e c →
    HasPicture e (shown e c (Second item) rest)
shown_picture e c p item rest at h =
    let kept = effect_picture p item h.picture in
    record {
      picture = effect p item h.picture;
      picture_is =
          ap (λ (q : ServerAt). picture_after q (Second item) c.viewer.picture) at
          ∙ effect_on_it p item h.picture c.viewer.picture h.picture_is;
      whole = kept.whole h.whole;
      wide = kept.columns ∙ h.wide;
      high = kept.rows ∙ h.high;
    }

shown_then : (e : Ends) (c : Core) (p : UpdatePoint) (item : UpdateItem)
    (rest : List FromServer) → Meets e c p →
    Meets e (shown e c (Second item) rest) (update_stream.past p item)
shown_then e c p item rest m = record {
  session_at = m.session_at;
  viewer_at =
      ap (λ (at : ServerAt). past_in (server_two e.viewing.form e.viewing.hello) at
      (Second item)) m.viewer_at;
  wide = width_kept p item ∙ m.wide;
  high = height_kept p item ∙ m.high;
  picture = shown_picture e c p item rest m.viewer_at m.picture;
}

-- it is answered by nothing
unanswered : (e : Ends) (c : Core) (p : UpdatePoint) (item : UpdateItem) → c.viewer.point
    ≡ Second p → c.to_server ++ viewer_answers e.viewing c.viewer.point (Second item) ≡ c.to_server
unanswered e c p item at =
    ap (λ (q : ServerAt). c.to_server ++ viewer_answers e.viewing q (Second item)) at
    ∙ append-nil c.to_server

-- whether a request is still outstanding
outstanding_after : (c : Core) (p : UpdatePoint) (item : UpdateItem) (last : Bool) → c.viewer.point
    ≡ Second p → is_last p item ≡ last → c.viewer.outstanding ≡ true →
    (if ends_update c.viewer.point (Second item) then false else c.viewer.outstanding)
    ≡ (if last then false else true)
outstanding_after c p item last at is busy =
    ap (λ (q : ServerAt). if ends_update q (Second item) then false else c.viewer.outstanding) at
    ∙ ap (λ (b : Bool). if b then false else c.viewer.outstanding) is
    ∙ ap (λ (b : Bool). if last then false else b) busy

sent_shown : (e : Ends) (c : Core) (p : UpdatePoint) (item : FromServer) (rest : List FromServer) →
    Meets e c p → Sends c p → IsRest p (item ∷ rest) → Phase e (shown e c item rest)
sent_shown e c p (First step) rest m s ends = absurd ends
sent_shown e c p (Second item) [] m s ends =
    let queue = unanswered e c p item m.viewer_at in
    let mere : AreMere (c.to_server ++ viewer_answers e.viewing c.viewer.point (Second item)) =
    subst (λ (q : List FromClient). AreMere q) (sym queue) s.mere in
    Idling (update_stream.past p item) (shown_then e c p item [] m)
    (record {
      quiet = outstanding_after c p item true m.viewer_at ends s.busy;
      none = refl;
      between = last_leaves_none p item ends;
      unasked = s.unasked;
      later = all_later _ mere;
      formed = mere_forms c.session.form _ mere ∙ s.formed ∙ sym (form_kept p item);
    })
sent_shown e c p (Second item) (next ∷ rest) m s (more, ends) =
    let queue = unanswered e c p item m.viewer_at in
    Sent (update_stream.past p item) (shown_then e c p item (next ∷ rest) m)
    (record {
      busy = outstanding_after c p item false m.viewer_at more s.busy;
      unasked = s.unasked;
      mere = subst (λ (q : List FromClient). AreMere q) (sym queue) s.mere;
      formed = s.formed ∙ sym (form_kept p item);
      rest = ends;
    })

pub phase_shown : (e : Ends) (c : Core) (item : FromServer) (rest : List FromServer) → Phase e c →
    c.to_viewer ≡ item ∷ rest → Phase e (shown e c item rest)
phase_shown e c item rest (Greeting s) queue =
    shown_as e c item _ rest _ (sym queue ∙ s.to_viewer_is)
    (Versioned (lower e.viewing.hello.limit e.serving.hello.offer)
    (shown_stands e c _ _ _ [] _ _ [] s refl refl))
phase_shown e c item rest (Versioned v s) queue =
    absurd (none_first item rest (sym s.to_viewer_is ∙ queue))
phase_shown e c item rest (Typed v s) queue = typed_shown e c v item rest s queue
phase_shown e c item rest (Choosing37 s) queue =
    absurd (none_first item rest (sym s.to_viewer_is ∙ queue))
phase_shown e c item rest (Choosing38 s) queue =
    absurd (none_first item rest (sym s.to_viewer_is ∙ queue))
phase_shown e c item rest (Chosen s) queue =
    shown_as e c item _ rest _ (sym queue ∙ s.to_viewer_is)
    (Sharing V38 (shown_stands e c _ _ (AwaitsInit V38) [] _ _ [] s refl refl))
phase_shown e c item rest (Sharing v s) queue =
    absurd (none_first item rest (sym s.to_viewer_is ∙ queue))
phase_shown e c item rest (Begun v s) queue =
    shown_as e c item _ rest _ (sym queue ∙ s.to_viewer_is)
    (begun_shown e c v e.serving.hello.name s)
phase_shown e c item rest (Named v n text s h) queue =
    shown_as e c item _ rest _ (sym queue ∙ s.to_viewer_is)
    (shown_meets e c _ (Name text) [] s refl refl refl (named_picture e c _ text s.viewer_at h))
phase_shown e c item rest (Idling p m s) queue = absurd (none_first item rest (sym s.none ∙ queue))
phase_shown e c item rest (Asking p m s) queue = absurd (none_first item rest (sym s.none ∙ queue))
phase_shown e c item rest (Held p m s) queue = absurd (none_first item rest (sym s.none ∙ queue))
phase_shown e c item rest (Sent p m s) queue =
    sent_shown e c p item rest m s (subst (λ (q : List FromServer). IsRest p q) queue s.rest)
