-- How far the viewer of a relay's server is after bytes that it took, and what it reported of them.
use Rattle.std.proofs.Common.{◌≡◌, ◌==◌, ℕ, zero, Bool, true, false, List, [], ◌∷◌}
use Rattle.std.proofs.Common.{Option, Some, None, refl, sym, ap, subst, ◌∙◌, if◌then◌else◌}
use Rattle.rfb_wire.specs.ServerMessage.{FramebufferUpdate, SetColorMapEntries, Bell as BellMessage, ServerCutText}
use Rattle.rfb_wire.specs.stream.End.{Takes, EndsWith, acts}
use Rattle.rfb_wire.specs.stream.Sequel.{First, Second, past_in}
use Rattle.rfb_codec.specs.UpdateStream.{UpdatePoint, UpdateItem, Message, Rectangle, update_stream}
use Rattle.rfb_hello.specs.ServerHandshake.{ServerPoint, AwaitsVersion, AwaitsSecurity, AwaitsResult, AwaitsInit}
use Rattle.rfb_hello.specs.ServerHandshake.{AwaitsName, Begun, SecurityNone}
use Rattle.rfb_hello.specs.ServerHandshake.{ServerInit, Name}
use Rattle.rfb_viewer.specs.ServerBytes.{ServerAt, FromServer, server_two}
use Rattle.rfb_viewer.specs.Told.{ViewerTold, Reply, Ready, UpdateDone, Bell, CutText, ColourMapSkipped, done_told}
use Rattle.rfb_viewer.specs.Told.{is_last, item_told}
use Rattle.rfb_viewer.specs.Viewer.{Viewing, ViewerState, viewer, ends_update, shows, told_at}

-- ---- what is reported

-- nothing, or an answer that is not the last
abbrev pub IsShaking : Option ViewerTold → Type 0
IsShaking None = Unit {0}
IsShaking (Some (Reply bytes)) = Unit {0}
IsShaking (Some (Ready bytes width height name n)) = ⊥
IsShaking (Some UpdateDone) = ⊥
IsShaking (Some Bell) = ⊥
IsShaking (Some (CutText kept n)) = ⊥
IsShaking (Some ColourMapSkipped) = ⊥

-- no answer
abbrev pub IsPlain : Option ViewerTold → Type 0
IsPlain None = Unit {0}
IsPlain (Some (Reply bytes)) = ⊥
IsPlain (Some (Ready bytes width height name n)) = ⊥
IsPlain (Some UpdateDone) = Unit {0}
IsPlain (Some Bell) = Unit {0}
IsPlain (Some (CutText kept n)) = Unit {0}
IsPlain (Some ColourMapSkipped) = Unit {0}

-- ---- in the handshake

-- it goes on, or its last answer ends it, on a screen of the size that is reported
pub data Shakes (at : ServerAt) (event : Option ViewerTold) : Type 0 where
  GoesOn : (point : ServerPoint) → at ≡ First point → IsShaking event → Shakes at event
  Ends : (p : UpdatePoint) (bytes name : List ℕ) (n : ℕ) → at ≡ Second p →
      event ≡ Some (Ready bytes p.width p.height name n) → Shakes at event

one_step : (viewing : Viewing) (point : ServerPoint) (item : FromServer) →
    Shakes (past_in (server_two viewing.form viewing.hello) (First point) item) (told_at viewing (First point) item)
one_step viewing point (Second item) = GoesOn point refl tt
one_step viewing (AwaitsInit version) (First (ServerInit width height zero)) = Ends _ _ _ _ refl refl
one_step viewing (AwaitsName version w h n) (First (Name text)) = Ends _ _ _ _ refl refl
one_step viewing AwaitsVersion (First SecurityNone) = GoesOn _ refl tt
one_step viewing (AwaitsSecurity version) (First SecurityNone) = GoesOn _ refl tt
one_step viewing (AwaitsResult version) (First SecurityNone) = GoesOn _ refl tt
one_step viewing (Begun version w h) (First SecurityNone) = GoesOn _ refl tt
one_step viewing point (First item) = GoesOn _ refl tt

no_end : (told : ViewerTold) (o : Option ViewerTold) → o ≡ None → o ≡ Some told → ⊥
no_end told o none some = cc

shakes_all : (viewing : Viewing) (s : ViewerState) (point : ServerPoint) (items : List FromServer)
    (event : Option ViewerTold) → s.point ≡ First point → EndsWith (viewer viewing) s items event →
    Shakes (acts (viewer viewing) s items).point event
shakes_all viewing s point [] event at ends =
    subst (λ (o : Option ViewerTold). Shakes s.point o) (sym ends) (GoesOn point at tt)
shakes_all viewing s point (item ∷ []) event at ends =
    subst (λ (o : Option ViewerTold). Shakes (shows viewing s item).point o) ends (rw at (one_step viewing point item))
shakes_all viewing s point (item ∷ next ∷ items) event at (quiet, ends) =
    by (rw at (one_step viewing point item))
    (λ after is. shakes_all viewing (shows viewing s item) after (next ∷ items) event is ends)
  where
    by : Shakes (shows viewing s item).point (told_at viewing s.point item) →
        ((after : ServerPoint) → (shows viewing s item).point ≡ First after →
        Shakes (acts (viewer viewing) s (item ∷ next ∷ items)).point event) →
        Shakes (acts (viewer viewing) s (item ∷ next ∷ items)).point event
    by (GoesOn after is shaking) more = more after is
    by (Ends p bytes name n is told) more = absurd (no_end _ _ quiet told)

pub shakes : (viewing : Viewing) (s : ViewerState) (point : ServerPoint) (prefix bytes : List ℕ)
    (event : Option ViewerTold) (t : ViewerState) (rest : List ℕ) → s.point ≡ First point →
    Takes (viewer viewing) s prefix bytes event t rest → Shakes t.point event
shakes viewing s point prefix bytes event t rest at takes =
    subst (λ (x : ViewerState). Shakes x.point event) (sym takes.state)
    (shakes_all viewing s point takes.items event at takes.ends)

-- ---- after it

-- the screen keeps its size, and nothing is answered any more
pub record GoesFurther (p : UpdatePoint) (at : ServerAt) (event : Option ViewerTold) : Type 0 where
  pub to : UpdatePoint
  pub at_is : at ≡ Second to
  pub wide : to.width ≡ p.width
  pub high : to.height ≡ p.height
  pub plain : IsPlain event

done_plain : (b : Bool) → IsPlain (done_told b)
done_plain true = tt
done_plain false = tt

item_plain : (limit : ℕ) (p : UpdatePoint) (item : UpdateItem) → IsPlain (item_told limit p item)
item_plain limit p (Message (FramebufferUpdate rectangles)) = done_plain (rectangles == 0)
item_plain limit p (Message (SetColorMapEntries first colors)) = tt
item_plain limit p (Message BellMessage) = tt
item_plain limit p (Message (ServerCutText text)) = tt
item_plain limit p (Rectangle head body) = done_plain (p.left == 1)

one_further : (viewing : Viewing) (p : UpdatePoint) (item : FromServer) →
    GoesFurther p (past_in (server_two viewing.form viewing.hello) (Second p) item) (told_at viewing (Second p) item)
unfolding update_stream
one_further viewing p (First step) = record { to = p; at_is = refl; wide = refl; high = refl; plain = tt }
one_further viewing p (Second item) = record {
  to = update_stream.past p item;
  at_is = refl;
  wide = refl;
  high = refl;
  plain = item_plain viewing.hello.text_limit p item;
}

further_all : (viewing : Viewing) (s : ViewerState) (p : UpdatePoint) (items : List FromServer)
    (event : Option ViewerTold) → s.point ≡ Second p → EndsWith (viewer viewing) s items event →
    GoesFurther p (acts (viewer viewing) s items).point event
further_all viewing s p [] event at ends =
    subst (λ (o : Option ViewerTold). GoesFurther p s.point o) (sym ends)
    (record { to = p; at_is = at; wide = refl; high = refl; plain = tt })
further_all viewing s p (item ∷ []) event at ends =
    subst (λ (o : Option ViewerTold). GoesFurther p (shows viewing s item).point o) ends
    (rw at (one_further viewing p item))
further_all viewing s p (item ∷ next ∷ items) event at (quiet, ends) =
    let one : GoesFurther p (shows viewing s item).point (told_at viewing s.point item) =
    rw at (one_further viewing p item) in
    let more = further_all viewing (shows viewing s item) one.to (next ∷ items) event one.at_is ends in
    record {
      to = more.to;
      at_is = more.at_is;
      wide = more.wide ∙ one.wide;
      high = more.high ∙ one.high;
      plain = more.plain;
    }

pub further : (viewing : Viewing) (s : ViewerState) (p : UpdatePoint) (prefix bytes : List ℕ)
    (event : Option ViewerTold) (t : ViewerState) (rest : List ℕ) → s.point ≡ Second p →
    Takes (viewer viewing) s prefix bytes event t rest → GoesFurther p t.point event
further viewing s p prefix bytes event t rest at takes =
    subst (λ (x : ViewerState). GoesFurther p x.point event) (sym takes.state)
    (further_all viewing s p takes.items event at takes.ends)

-- ---- requests

-- a whole update answers the one that is outstanding, and nothing else does
abbrev pub out_told : Option ViewerTold → Bool → Bool
out_told None out = out
out_told (Some (Reply bytes)) out = out
out_told (Some (Ready bytes width height name n)) out = out
out_told (Some UpdateDone) out = false
out_told (Some Bell) out = out
out_told (Some (CutText kept n)) out = out
out_told (Some ColourMapSkipped) out = out

done_out : (done out : Bool) → (if done then false else out) ≡ out_told (done_told done) out
done_out true out = refl
done_out false out = refl

item_out : (limit : ℕ) (p : UpdatePoint) (item : UpdateItem) (out : Bool) →
    (if is_last p item then false else out) ≡ out_told (item_told limit p item) out
item_out limit p (Message (FramebufferUpdate rectangles)) out = done_out (rectangles == 0) out
item_out limit p (Message (SetColorMapEntries first colors)) out = refl
item_out limit p (Message BellMessage) out = refl
item_out limit p (Message (ServerCutText text)) out = refl
item_out limit p (Rectangle head body) out = done_out (p.left == 1) out

one_out : (viewing : Viewing) (at : ServerAt) (p : UpdatePoint) (item : FromServer) (out : Bool) → at ≡ Second p →
    (if ends_update at item then false else out) ≡ out_told (told_at viewing at item) out
one_out viewing at p item out is = rw is (by item)
  where
    by : (item : FromServer) →
        (if ends_update (Second p) item then false else out) ≡ out_told (told_at viewing (Second p) item) out
    by (First step) = refl
    by (Second item) = item_out viewing.hello.text_limit p item out

out_all : (viewing : Viewing) (s : ViewerState) (p : UpdatePoint) (items : List FromServer)
    (event : Option ViewerTold) → s.point ≡ Second p → EndsWith (viewer viewing) s items event →
    (acts (viewer viewing) s items).outstanding ≡ out_told event s.outstanding
out_all viewing s p [] event at ends = ap (λ (o : Option ViewerTold). out_told o s.outstanding) (sym ends)
out_all viewing s p (item ∷ []) event at ends =
    one_out viewing s.point p item s.outstanding at ∙ ap (λ (o : Option ViewerTold). out_told o s.outstanding) ends
out_all viewing s p (item ∷ next ∷ items) event at (quiet, ends) =
    let one : GoesFurther p (shows viewing s item).point (told_at viewing s.point item) =
    rw at (one_further viewing p item) in
    out_all viewing (shows viewing s item) one.to (next ∷ items) event one.at_is ends
    ∙ ap (λ (b : Bool). out_told event b)
    (one_out viewing s.point p item s.outstanding at ∙ ap (λ (o : Option ViewerTold). out_told o s.outstanding) quiet)

pub outstanding_after : (viewing : Viewing) (s : ViewerState) (p : UpdatePoint) (prefix bytes : List ℕ)
    (event : Option ViewerTold) (t : ViewerState) (rest : List ℕ) → s.point ≡ Second p →
    Takes (viewer viewing) s prefix bytes event t rest → t.outstanding ≡ out_told event s.outstanding
outstanding_after viewing s p prefix bytes event t rest at takes =
    ap (λ (x : ViewerState). x.outstanding) takes.state ∙ out_all viewing s p takes.items event at takes.ends
