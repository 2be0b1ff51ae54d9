-- The calls of a viewer as events: what is said of a link that was called is said of the event.
use Rattle.std.proofs.Common.{◌≡◌, ℕ, Bool, false, List, Option, Some, None}
use Rattle.std.proofs.Common.{Bor, refl, ap, ◌∙◌, subst}
use Rattle.arrayvec.specs.ArrayVec.{ArrayVec}
use Rattle.rfb_pixel.specs.declared.colour.Colour.{Colour}
use Rattle.rfb_pixel.specs.Format.{PixelFormat}
use Rattle.rfb_picture.specs.declared.rect.Rect.{Rect}
use Rattle.rfb_picture.specs.Grid.{Grid}
use Rattle.rfb_wire.specs.declared.encoding.Encoding.{Encoding}
use Rattle.rfb_wire.specs.ClientMessage.{ClientCutText}
use Rattle.rfb_server.specs.Hints.{hints_in as session_hints}
use Rattle.rfb_viewer.specs.declared.call.Call.{Call}
use Rattle.rfb_viewer.specs.declared.call.Call.TheVariants.{Request as RequestCall}
use Rattle.rfb_viewer.specs.declared.call.Call.TheVariants.{SetFormat as FormatCall}
use Rattle.rfb_viewer.specs.declared.call.Call.TheVariants.{SetEncodings as EncodingsCall}
use Rattle.rfb_viewer.specs.declared.call.Call.TheVariants.{Key as KeyCall, Pointer as PointerCall}
use Rattle.rfb_viewer.specs.declared.call.Call.TheVariants.{CutText as TextCall}
use Rattle.rfb_viewer.specs.Messages.{text_message}
use Rattle.rfb_session.specs.declared.event.Event.{Event}
use Rattle.rfb_session.specs.declared.event.Event.TheVariants.{Fill, Put, Copy, Hint, Request}
use Rattle.rfb_session.specs.declared.event.Event.TheVariants.{SetFormat, SetEncodings, Key}
use Rattle.rfb_session.specs.declared.event.Event.TheVariants.{Pointer, CutText, Compose, ToServer}
use Rattle.rfb_session.specs.declared.event.Event.TheVariants.{ToViewer}
use Rattle.rfb_session.specs.declared.link.Link.{Link}
use Rattle.rfb_session.specs.declared.told.Delivery.{Delivery}
use Rattle.rfb_session.specs.declared.told.Refused.{Refused}
use Rattle.rfb_session.specs.declared.told.Told.{Told}
use Rattle.rfb_session.specs.declared.world.World.{World}
use Rattle.rfb_session.specs.HubSeats.{LinkActs, LinkHints, SoleAs, IsIdleOn}
use Rattle.rfb_session.specs.Link.{Ends, LinkState}
use Rattle.rfb_session.specs.LinkBytes.{ActsOnBytes, SendsPlain, MovesNone, refusal_on}
use Rattle.rfb_session.specs.LinkCalls.{refusal_at, StepsByCall, DoesCall, CallsOnBytes}
use Rattle.rfb_session.specs.LinkCalls.{IsRefusedCall, call_refusal_on}
use Rattle.rfb_session.specs.LinkModel.{LinkDoes, LosesOn, IsLostOn, IsRefusedOn}
use Rattle.rfb_session.specs.LinkSteps.{sends}
use Rattle.rfb_session.specs.Network.{Network, Steps}
use Rattle.rfb_session.specs.Told.{refused_as, moved_by, RefusesAs, ComposesAs, TellsAlone}
use Rattle.rfb_session.specs.World.{Acts, HintsAs, IsDrawing, ComposesNothing, hints_in}

-- an event that is a call of a viewer
abbrev pub IsCall : Event → Type 0
IsCall (Request incremental rect) = Unit
IsCall (SetFormat format) = Unit
IsCall (SetEncodings encodings) = Unit
IsCall (Key down key) = Unit
IsCall (Pointer buttons x y) = Unit
IsCall (CutText text) = Unit
IsCall event = ⊥

-- it moves no bytes, composes nothing and draws nothing
pub record OnlyCalls (event : Event) : Type 0 where
  pub moves : (e : Ends) (l : LinkState) → 0 ≡ moved_by e l event
  pub composes : (n : Network) (b : Bool) → b ≡ false → ComposesAs n event b
  pub world_acts : (old : World) (told : Told) (new : World) → new.screen ≡ old.screen →
      ActsOnBytes old.link event told new.link → Acts old event told new
  pub link_acts : (screen : Grid Colour) (old : Link) (told : Told) (new : Link) →
      ActsOnBytes old event told new → LinkActs screen old event told new
  pub tells : (told : Told) → (told.moved ≡ 0) × (told.composed ≡ false) → TellsAlone event told
  pub lost : (old : Link) (told : Told) (new : Link) → LosesOn old event told new
  pub world_hints : (old : World) (told : Told) (new : World) → hints_in new ≡ hints_in old →
      HintsAs old event told new
  pub link_hints : (old : Link) (told : Told) (new : Link) →
      session_hints new.session ≡ session_hints old.session → LinkHints old event told new
  pub sole : (old : Link) (d : Delivery) (new : Link) → d.sole ≡ false → SoleAs old event d new
  pub no_drawing : IsDrawing event → ⊥
  pub not_lost : (link : Link) → IsLostOn link event → ⊥
  pub moves_some : (link : Link) → MovesNone link event → ⊥
  pub not_composing : (world : World) → ComposesNothing world event → ⊥
  pub not_idle : (screen : Grid Colour) (link : Link) → IsIdleOn screen link event → ⊥

-- every event that is a call does no more
only_calls : (event : Event) → IsCall event → OnlyCalls event
only_calls (Fill rect colour) is = absurd is
only_calls (Put x y row) is = absurd is
only_calls (Copy rect sx sy) is = absurd is
only_calls (Hint rect sx sy) is = absurd is
only_calls Compose is = absurd is
only_calls (ToServer count) is = absurd is
only_calls (ToViewer count) is = absurd is
only_calls event is = record {
  moves = λ e l. refl;
  composes = λ n b none. none;
  world_acts = λ old told new screens acts. (screens, acts);
  link_acts = λ screen old told new acts. acts;
  tells = λ told tells. tells;
  lost = λ old told new. tt;
  world_hints = λ old told new same. same;
  link_hints = λ old told new same. same;
  sole = λ old d new without. without;
  no_drawing = λ drawing. drawing;
  not_lost = λ link lost. lost;
  moves_some = λ link none. none;
  not_composing = λ world composes. composes;
  not_idle = λ screen link idle. idle;
}

-- the event is that call
pub record IsEventOf (event : Event) (call : Call) : Type 0 where
  pub only : OnlyCalls event
  pub steps : (e : Ends) (n m : Network) → StepsByCall n call m → Steps e n event m
  pub refuses : (n : Network) (refused : Option Refused) →
      refused ≡ refused_as (refusal_at n.link call) → RefusesAs n event refused
  pub refused_so : (n : Network) (refused : Refused) → RefusesAs n event (Some refused) →
      Some refused ≡ refused_as (refusal_at n.link call)
  pub acts : (old : Link) (told : Told) (new : Link) → CallsOnBytes old call told new →
      ActsOnBytes old event told new
  pub alone : (link : Link) → refusal_on link event ≡ call_refusal_on link call

pub request_event : (incremental : Bool) (rect : Rect) → IsEventOf (Request incremental rect)
    (RequestCall incremental rect)
request_event incremental rect = record {
  only = only_calls (Request incremental rect) tt;
  steps = λ e n m step. step;
  refuses = λ n refused is. is;
  refused_so = λ n refused is. is;
  acts = λ old told new calls. calls.sends;
  alone = λ link. refl;
}

pub format_event : (format : PixelFormat) → IsEventOf (SetFormat format) (FormatCall format)
format_event format = record {
  only = only_calls (SetFormat format) tt;
  steps = λ e n m step. step;
  refuses = λ n refused is. is;
  refused_so = λ n refused is. is;
  acts = λ old told new calls. calls.sends;
  alone = λ link. refl;
}

pub encodings_event : (list : Bor (ArrayVec Encoding)) → IsEventOf (SetEncodings list.now) (EncodingsCall list)
encodings_event list = record {
  only = only_calls (SetEncodings list.now) tt;
  steps = λ e n m step. step;
  refuses = λ n refused is. is;
  refused_so = λ n refused is. is;
  acts = λ old told new calls. (calls.sends, calls.same refl);
  alone = λ link. refl;
}

pub key_event : (down : Bool) (key : ℕ) → IsEventOf (Key down key) (KeyCall down key)
key_event down key = record {
  only = only_calls (Key down key) tt;
  steps = λ e n m step. step;
  refuses = λ n refused is. is;
  refused_so = λ n refused is. is;
  acts = λ old told new calls. (calls.sends, calls.same refl);
  alone = λ link. refl;
}

pub pointer_event : (buttons x y : ℕ) → IsEventOf (Pointer buttons x y) (PointerCall buttons x y)
pointer_event buttons x y = record {
  only = only_calls (Pointer buttons x y) tt;
  steps = λ e n m step. step;
  refuses = λ n refused is. is;
  refused_so = λ n refused is. is;
  acts = λ old told new calls. (calls.sends, calls.same refl);
  alone = λ link. refl;
}

-- the bytes of a text, of an event that has them
abbrev pub text_of : Event → Option (List ℕ)
text_of (CutText text) = Some text.items
text_of event = None

one_text : (a b : List ℕ) → Some a ≡ Some b → b ≡ a
one_text a b is = cc

no_text : (a : List ℕ) → None ≡ Some a → ⊥
no_text a is = cc

pub text_event : (event : Event) (bytes : Bor (List ℕ)) → text_of event ≡ Some bytes.now →
    IsEventOf event (TextCall bytes)
text_event (CutText text) bytes is = record {
  only = only_calls (CutText text) tt;
  steps = λ e n m step. (
    step.0,
    step.1 ∙ ap (λ (t : List ℕ). sends n.link (ClientCutText t))
        (one_text text.items bytes.now is),
  );
  refuses = λ n refused is. is;
  refused_so = λ n refused is. is;
  acts = λ old told new calls.
      subst (λ (t : List ℕ). SendsPlain (ClientCutText t) (text_message t) old told new)
      (one_text text.items bytes.now is) (calls.sends, calls.same refl);
  alone = λ link. refl;
}
text_event event bytes is = absurd (no_text bytes.now is)

-- ---- what a call does, as what the event does

pub does_event : (event : Event) (call : Call) (old : Link) (told : Told) (new : Link) →
    IsEventOf event call → (told.moved ≡ 0) × (told.composed ≡ false) → DoesCall old call told new →
    LinkDoes old event told new
does_event event call old told new of tells does = λ e n made reached stands.
    let one = does e n made reached stands in (
      one.0,
      of.steps e n one.0 one.1,
      record {
        moved = tells.0 ∙ of.only.moves e n.link;
        refused = of.refuses n told.refused one.2;
        composed = of.only.composes n told.composed tells.1;
      },
      one.1.0,
      one.3,
    )

-- an event that is refused is a call that is
pub refused_event : (event : Event) (call : Call) (link : Link) → IsEventOf event call →
    IsRefusedOn link event → IsRefusedCall link call
refused_event event call link of (e, n, refused, reached, stands, is) = record {
  e = e;
  n = n;
  refused = refused;
  reached = reached;
  stands = stands;
  refuses = of.refused_so n refused is;
}
