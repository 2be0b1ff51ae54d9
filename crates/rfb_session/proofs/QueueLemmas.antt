-- Queues of messages to a server, and of the items of an update to a viewer.
use Rattle.std.proofs.Common.{◌≡◌, ℕ, zero, suc, ◌+◌, ◌-◌, ◌*◌, ◌==◌, Bool, true, false, List, [], ◌∷◌, ◌++◌, map}
use Rattle.std.proofs.Common.{length, None, replicate, slice_index_or, refl, sym, ap, ◌∙◌, subst, arith}
use Rattle.std.proofs.lemmas.Bool.Decides.{nat_tests}
use Rattle.std.specs.List.{fold}
use Rattle.std.proofs.lemmas.List.Sums.{fold-append}
use Rattle.rfb_pixel.specs.Format.{PixelFormat}
use Rattle.rfb_picture.specs.declared.rect.Rect.{Rect}
use Rattle.rfb_picture.specs.Grid.{Grid, at_or, uniform}
use Rattle.rfb_picture.specs.Area.{Places, no_places, asked_at}
use Rattle.rfb_wire.specs.ClientMessage.{SetPixelFormat, SetEncodings, FramebufferUpdateRequest, KeyEvent, PointerEvent}
use Rattle.rfb_wire.specs.ClientMessage.{ClientCutText}
use Rattle.rfb_wire.specs.ServerMessage.{FramebufferUpdate, SetColorMapEntries, Bell, ServerCutText}
use Rattle.rfb_wire.specs.stream.Sequel.{First, Second}
use Rattle.rfb_codec.specs.UpdateStream.{UpdatePoint, UpdateItem, Message, Rectangle, update_stream}
use Rattle.rfb_codec.specs.WholeUpdate.{SentRect, item_of, update_of}
use Rattle.rfb_server.specs.ClientBytes.{FromClient}
use Rattle.rfb_server.specs.Record.{forgotten}
use Rattle.rfb_viewer.specs.ServerBytes.{FromServer}
use Rattle.rfb_viewer.specs.Told.{is_last}
use Rattle.rfb_session.specs.Headline.{IsUnknown}

-- ---- messages to a server

-- a message that is neither a request nor a format
abbrev pub IsMere : FromClient → Type 0
IsMere (First step) = ⊥
IsMere (Second (SetPixelFormat form)) = ⊥
IsMere (Second (SetEncodings numbers)) = Unit {0}
IsMere (Second (FramebufferUpdateRequest incremental rect)) = ⊥
IsMere (Second (KeyEvent down key)) = Unit {0}
IsMere (Second (PointerEvent buttons x y)) = Unit {0}
IsMere (Second (ClientCutText text)) = Unit {0}

-- a message that is no request
abbrev pub IsLater : FromClient → Type 0
IsLater (First step) = ⊥
IsLater (Second (SetPixelFormat form)) = Unit {0}
IsLater (Second (SetEncodings numbers)) = Unit {0}
IsLater (Second (FramebufferUpdateRequest incremental rect)) = ⊥
IsLater (Second (KeyEvent down key)) = Unit {0}
IsLater (Second (PointerEvent buttons x y)) = Unit {0}
IsLater (Second (ClientCutText text)) = Unit {0}

abbrev pub AreMere : List FromClient → Type 0
AreMere [] = Unit {0}
AreMere (item ∷ items) = IsMere item × AreMere items

abbrev pub AreLater : List FromClient → Type 0
AreLater [] = Unit {0}
AreLater (item ∷ items) = IsLater item × AreLater items

-- one request is among them, and after it no format
abbrev pub AskOnce : List FromClient → Type 0
AskOnce [] = ⊥
AskOnce (First step ∷ items) = ⊥
AskOnce (Second (SetPixelFormat form) ∷ items) = AskOnce items
AskOnce (Second (SetEncodings numbers) ∷ items) = AskOnce items
AskOnce (Second (FramebufferUpdateRequest incremental rect) ∷ items) = AreMere items
AskOnce (Second (KeyEvent down key) ∷ items) = AskOnce items
AskOnce (Second (PointerEvent buttons x y) ∷ items) = AskOnce items
AskOnce (Second (ClientCutText text) ∷ items) = AskOnce items

-- the format after an item, and after items
abbrev pub form_past : PixelFormat → FromClient → PixelFormat
form_past form (First step) = form
form_past form (Second (SetPixelFormat other)) = other
form_past form (Second (SetEncodings numbers)) = form
form_past form (Second (FramebufferUpdateRequest incremental rect)) = form
form_past form (Second (KeyEvent down key)) = form
form_past form (Second (PointerEvent buttons x y)) = form
form_past form (Second (ClientCutText text)) = form

abbrev pub form_after : PixelFormat → List FromClient → PixelFormat
form_after form items = fold form_past form items

pub form_append : (form : PixelFormat) (items : List FromClient) (last : FromClient) →
    form_after form (items ++ last ∷ []) ≡ form_past (form_after form items) last
form_append form items last = fold-append form_past form items (last ∷ [])

pub mere_form : (form : PixelFormat) (item : FromClient) → IsMere item → form_past form item ≡ form
mere_form form (First step) mere = refl
mere_form form (Second (SetPixelFormat other)) mere = absurd mere
mere_form form (Second (SetEncodings numbers)) mere = refl
mere_form form (Second (FramebufferUpdateRequest incremental rect)) mere = refl
mere_form form (Second (KeyEvent down key)) mere = refl
mere_form form (Second (PointerEvent buttons x y)) mere = refl
mere_form form (Second (ClientCutText text)) mere = refl

pub mere_forms : (form : PixelFormat) (items : List FromClient) → AreMere items →
    form_after form items ≡ form
mere_forms form [] mere = refl
mere_forms form (item ∷ items) mere =
    ap (λ (f : PixelFormat). form_after f items) (mere_form form item mere.0)
    ∙ mere_forms form items mere.1

pub mere_later : (item : FromClient) → IsMere item → IsLater item
mere_later (First step) mere = mere
mere_later (Second (SetPixelFormat other)) mere = tt
mere_later (Second (SetEncodings numbers)) mere = tt
mere_later (Second (FramebufferUpdateRequest incremental rect)) mere = mere
mere_later (Second (KeyEvent down key)) mere = tt
mere_later (Second (PointerEvent buttons x y)) mere = tt
mere_later (Second (ClientCutText text)) mere = tt

pub all_later : (items : List FromClient) → AreMere items → AreLater items
all_later [] mere = tt
all_later (item ∷ items) mere = (mere_later item mere.0, all_later items mere.1)

pub mere_more : (items : List FromClient) (last : FromClient) → AreMere items → IsMere last →
    AreMere (items ++ last ∷ [])
mere_more [] last mere one = (one, tt)
mere_more (item ∷ items) last mere one = (mere.0, mere_more items last mere.1 one)

pub later_more : (items : List FromClient) (last : FromClient) → AreLater items → IsLater last →
    AreLater (items ++ last ∷ [])
later_more [] last later one = (one, tt)
later_more (item ∷ items) last later one = (later.0, later_more items last later.1 one)

pub ask_more : (items : List FromClient) (last : FromClient) → AskOnce items → IsMere last →
    AskOnce (items ++ last ∷ [])
ask_more [] last once one = absurd once
ask_more (First step ∷ items) last once one = absurd once
ask_more (Second (SetPixelFormat form) ∷ items) last once one = ask_more items last once one
ask_more (Second (SetEncodings numbers) ∷ items) last once one = ask_more items last once one
ask_more (Second (FramebufferUpdateRequest incremental rect) ∷ items) last once one =
    mere_more items last once one
ask_more (Second (KeyEvent down key) ∷ items) last once one = ask_more items last once one
ask_more (Second (PointerEvent buttons x y) ∷ items) last once one = ask_more items last once one
ask_more (Second (ClientCutText text) ∷ items) last once one = ask_more items last once one

-- a request after messages that are none
pub asks_now : (items : List FromClient) (incremental : Bool) (rect : Rect) → AreLater items →
    AskOnce (items ++ Second (FramebufferUpdateRequest incremental rect) ∷ [])
asks_now [] incremental rect later = tt
asks_now (First step ∷ items) incremental rect later = absurd later.0
asks_now (Second (SetPixelFormat form) ∷ items) incremental rect later =
    asks_now items incremental rect later.1
asks_now (Second (SetEncodings numbers) ∷ items) incremental rect later =
    asks_now items incremental rect later.1
asks_now (Second (FramebufferUpdateRequest i r) ∷ items) incremental rect later = absurd later.0
asks_now (Second (KeyEvent down key) ∷ items) incremental rect later =
    asks_now items incremental rect later.1
asks_now (Second (PointerEvent buttons x y) ∷ items) incremental rect later =
    asks_now items incremental rect later.1
asks_now (Second (ClientCutText text) ∷ items) incremental rect later =
    asks_now items incremental rect later.1

-- ---- items of an update to a viewer

-- they are what is left of one update: its last item is their last
abbrev pub IsRest : UpdatePoint → List FromServer → Type 0
IsRest p [] = ⊥
IsRest p (First step ∷ items) = ⊥
IsRest p (Second item ∷ []) = is_last p item ≡ true
IsRest p (Second item ∷ next ∷ items) =
    (is_last p item ≡ false) × IsRest (update_stream.past p item) (next ∷ items)

-- where no item changes the format and the size
pub form_kept : (p : UpdatePoint) (item : UpdateItem) → (update_stream.past p item).form ≡ p.form
unfolding update_stream
form_kept p item = refl

pub width_kept : (p : UpdatePoint) (item : UpdateItem) → (update_stream.past p item).width ≡ p.width
unfolding update_stream
width_kept p item = refl

pub height_kept : (p : UpdatePoint) (item : UpdateItem) → (update_stream.past p item).height
    ≡ p.height
unfolding update_stream
height_kept p item = refl

one_test : (n : ℕ) → (n == 1) ≡ true → n - 1 ≡ 0
one_test n e = grind (arith, nat_tests)

none_test : (n : ℕ) → (n == 0) ≡ true → n ≡ 0
none_test n e = grind (arith, nat_tests)

-- after the last item of an update no rectangle is left
pub last_leaves_none : (p : UpdatePoint) (item : UpdateItem) → is_last p item ≡ true →
    (update_stream.past p item).left ≡ 0
unfolding update_stream
last_leaves_none p (Message (FramebufferUpdate rectangles)) e = none_test rectangles e
last_leaves_none p (Message (SetColorMapEntries first colors)) e = absurd cc
last_leaves_none p (Message Bell) e = absurd cc
last_leaves_none p (Message (ServerCutText text)) e = absurd cc
last_leaves_none p (Rectangle head body) e = one_test p.left e

more_test : (n : ℕ) → (suc (suc n) == 1) ≡ false
more_test n = grind (arith, nat_tests)

some_test : (n : ℕ) → (suc n == 0) ≡ false
some_test n = grind (arith, nat_tests)

-- as many rectangles as are left are what is left of an update
rectangles_rest : (width height : ℕ) (form : PixelFormat) (s : SentRect) (sent : List SentRect) →
    IsRest (record { width = width; height = height; form = form; left = suc (length sent) })
    (map (λ item. Second item) (map item_of (s ∷ sent)))
unfolding update_stream
rectangles_rest width height form s [] = refl
rectangles_rest width height form s (t ∷ sent) =
    let less : suc (suc (length sent)) - 1 ≡ suc (length sent) = omega arith in (
      more_test (length sent),
      subst
          (λ (left : ℕ). IsRest
          (record { width = width; height = height; form = form; left = left })
          (map (λ item. Second item) (map item_of (t ∷ sent)))) (sym less)
          (rectangles_rest width height form t sent),
    )

-- a whole update is
pub update_rest : (p : UpdatePoint) (sent : List SentRect) →
    IsRest p (map (λ item. Second item) (update_of sent))
unfolding update_stream
update_rest p [] = refl
update_rest p (s ∷ sent) = (some_test (length sent), rectangles_rest p.width p.height p.form s sent)

-- ---- grids of one value

module _ {X : Type 0} where
  any_of : (n i : ℕ) (c : X) → slice_index_or (replicate n c) i c ≡ c
  any_of zero i c = refl
  any_of (suc n) zero c = refl
  any_of (suc n) (suc i) c = any_of n i c

  -- it is everywhere
  pub uniform_at : (w h : ℕ) (c : X) (x y : ℕ) → at_or (uniform w h c) x y c ≡ c
  unfolding uniform
  uniform_at w h c x y = any_of (h * w) (y * w + x) c

pub forgotten_unknown : {X : Type 0} (g : Grid X) → IsUnknown (forgotten g)
forgotten_unknown g x y = uniform_at g.width g.height None x y

-- no place is asked
abbrev pub IsUnasked : Places → Type 0
IsUnasked area = (x y : ℕ) → asked_at area x y ≡ false

pub none_unasked : (w h : ℕ) → IsUnasked (no_places w h)
none_unasked w h x y = uniform_at w h false x y
