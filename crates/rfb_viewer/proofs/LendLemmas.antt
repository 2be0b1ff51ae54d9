-- What is known of a viewer that stands for a state.
use Rattle.std.proofs.Common.{◌≡◌, ◌≢◌, ℕ, ◌+◌, ◌-◌, ◌*◌, ◌%◌, ◌<◌, ◌==◌, false, List, [], ◌∷◌, ◌++◌, Option, None}
use Rattle.std.proofs.Common.{length, refl, sym, subst, ◌∙◌, ap, arith, inl, inr}
use Rattle.std.proofs.lemmas.Bool.Decides.{nat_tests}
use Rattle.arrayvec.specs.ArrayVec.{ArrayVec}
use Rattle.rfb_pixel.specs.declared.colour.Colour.{Colour}
use Rattle.rfb_picture.specs.Grid.{Grid}
use Rattle.rfb_wire.specs.ServerHead.{server_head_size}
use Rattle.rfb_wire.specs.MessagePieces.{server_pending, server_piece_size}
use Rattle.rfb_wire.specs.stream.PendingBytes.{in_pieces}
use Rattle.rfb_wire.specs.stream.Sequel.{First, Second}
use Rattle.rfb_wire.proofs.PendingLaws.{server_text_pending}
use Rattle.rfb_wire.proofs.stream_laws.PendingLaws.{head_pending, past_head}
use Rattle.rfb_codec.specs.Front.{ShowsFront}
use Rattle.rfb_codec.specs.Painter.{Painting}
use Rattle.rfb_codec.specs.PendingBytes.{update_pending, data_pending}
use Rattle.rfb_codec.specs.UnderWay.{UnderWay}
use Rattle.rfb_codec.specs.UpdateStream.{UpdatePoint}
use Rattle.rfb_codec.proofs.PendingLaws.{message_pending_next, short_head_pending, data_pending_next}
use Rattle.rfb_codec.proofs.FrontPendingLaws.{kept_is_pending, stands_shows}
use Rattle.rfb_hello.specs.KeptText.{KeptText, no_text}
use Rattle.rfb_hello.specs.PendingBytes.{server_handshake_pending}
use Rattle.rfb_hello.specs.ServerHandshake.{ServerPoint}
use Rattle.rfb_hello.specs.ViewerModel.{StandsFor as HelloStandsFor, reason_of as hello_reason}
use Rattle.rfb_hello.specs.ViewerProgress.{ProgressStandsFor as HelloProgressStandsFor, reason_in}
use Rattle.rfb_hello.specs.declared.viewer_hello.progress.Progress.{Progress as HelloProgress}
use Rattle.rfb_hello.specs.declared.viewer_hello.progress.Progress.TheVariants.{Failed as HelloFailed}
use Rattle.rfb_viewer.specs.declared.viewer.Viewer.{Viewer}
use Rattle.rfb_viewer.specs.declared.viewer.progress.Progress.{Progress}
use Rattle.rfb_viewer.specs.declared.viewer.progress.Progress.TheVariants.{Handshake, Head, RectHead, Data, Colours}
use Rattle.rfb_viewer.specs.declared.viewer.progress.Progress.TheVariants.{CutText}
use Rattle.rfb_viewer.specs.ServerBytes.{ServerAt, is_between, server_bytes_pending}
use Rattle.rfb_viewer.specs.steps.Sound.{is_idle}
use Rattle.rfb_viewer.specs.Viewer.{Viewing}
use Rattle.rfb_viewer.specs.ShownPieces.{ShowsPieces, ShowsAt}
use Rattle.rfb_viewer.specs.Progress.{ProgressStandsFor, IsHeadBegun, IsPainting, fault_in}

-- ---- what is shown

pieces_shown : (viewing : Viewing) (v : Viewer) (q : UpdatePoint) (painter : UnderWay) (before : Grid Colour)
    (prefix : List ℕ) → (p : IsPainting v q painter before prefix) → ShowsPieces q prefix before p.now
pieces_shown viewing v q painter before prefix p =
    let f = stands_shows painter.form painter.rect painter.stage painter.pending p.now before p.body p.shows in
    record {
      head = p.head;
      front = p.front;
      body = p.body;
      prefix_is = p.prefix_is;
      awaits = p.awaits;
      pending = painter.pending;
      shown = subst (λ (k : Painting). ShowsFront k.form k.rect k.encoding before p.body painter.pending p.now)
          p.painting_is f;
    }

pub shows_at : (viewing : Viewing) (v : Viewer) (p : Progress) (at : ServerAt) (g : Option (Grid Colour))
    (prefix : List ℕ) → ProgressStandsFor viewing v p at g prefix → ShowsAt at g prefix v.picture
shows_at viewing v Handshake (First point) g prefix h = h.3
shows_at viewing v (Head bytes) (Second q) g prefix h =
    let left = h.0.left_is in
    inl (λ some. absurd (omega (arith, some, left)), h.1)
shows_at viewing v (RectHead more head) (Second q) g prefix h = let short = h.3 in inl (λ some. rw h.2 short, h.1)
shows_at viewing v (Data more painter) (Second q) g prefix h =
    inr (h.0.screen, h.1.now, h.0.picture_is, h.1.now_is, pieces_shown viewing v q painter h.0.screen prefix h.1)
shows_at viewing v (Colours more) (Second q) g prefix h =
    let left = h.0.left_is in
    inl (λ some. absurd (omega (arith, some, left)), h.1)
shows_at viewing v (CutText n more kept) (Second q) g prefix h =
    let left = h.0.left_is in
    inl (λ some. absurd (omega (arith, some, left)), h.1)
shows_at viewing v p at g prefix h = absurd h

-- ---- reasons

pub hello_unreasoned : (limit : ℕ) (p : HelloProgress) (point : ServerPoint) (prefix : List ℕ) →
    HelloProgressStandsFor limit p point prefix → reason_in p ≡ no_text
hello_unreasoned limit (HelloFailed fault kept) point prefix h = absurd h
hello_unreasoned limit p point prefix h = refl

pub unreasoned_at : (viewing : Viewing) (v : Viewer) (p : Progress) (at : ServerAt) (g : Option (Grid Colour))
    (prefix : List ℕ) → ProgressStandsFor viewing v p at g prefix → hello_reason v.hello ≡ no_text
unreasoned_at viewing v Handshake (First point) g prefix h =
    hello_unreasoned viewing.hello.text_limit v.hello.progress point prefix h.0.progress_is
unreasoned_at viewing v (Head bytes) (Second q) g prefix h = h.0.unreasoned
unreasoned_at viewing v (RectHead more head) (Second q) g prefix h = h.0.unreasoned
unreasoned_at viewing v (Data more painter) (Second q) g prefix h = h.0.unreasoned
unreasoned_at viewing v (Colours more) (Second q) g prefix h = h.0.unreasoned
unreasoned_at viewing v (CutText n more kept) (Second q) g prefix h = h.0.unreasoned
unreasoned_at viewing v p at g prefix h = absurd h

-- ---- between two messages

no_bytes : (q : UpdatePoint) (bytes : List ℕ) → q.left ≡ 0 → (length bytes == 0) ≡ is_between (Second q) bytes
no_bytes q [] none = rw none refl
no_bytes q (first ∷ rest) none = grind (arith, nat_tests)

-- rectangles are left
some_left : (q : UpdatePoint) (bytes : List ℕ) (more : ℕ) → q.left ≡ more + 1 → false ≡ is_between (Second q) bytes
some_left q [] more left = grind (arith, nat_tests)
some_left q (first ∷ rest) more left = refl

some_bytes : (q : UpdatePoint) (front rest : List ℕ) → 0 < length front → false ≡ is_between (Second q) (front ++ rest)
some_bytes q [] rest some = absurd (omega arith)
some_bytes q (first ∷ front) rest some = refl

pub idle_is : (viewing : Viewing) (v : Viewer) (p : Progress) (at : ServerAt) (g : Option (Grid Colour))
    (prefix : List ℕ) → ProgressStandsFor viewing v p at g prefix → is_idle p ≡ is_between at prefix
idle_is viewing v Handshake (First point) g prefix h = refl
idle_is viewing v (Head bytes) (Second q) g prefix h = rw h.2 (no_bytes q bytes.items h.0.left_is)
idle_is viewing v (RectHead more head) (Second q) g prefix h = some_left q prefix more h.0.left_is
idle_is viewing v (Data more painter) (Second q) g prefix h = some_left q prefix more h.0.left_is
idle_is viewing v (Colours more) (Second q) g prefix h =
    let size = h.2.head_is.size in
    rw h.2.prefix_is (some_bytes q h.2.head h.2.colours (omega (arith, size)))
idle_is viewing v (CutText n more kept) (Second q) g prefix h =
    let size = h.2.head_is.size in
    rw h.2.prefix_is (some_bytes q h.2.head h.2.text (omega (arith, size)))
idle_is viewing v p at g prefix h = absurd h

pub failed_idle : (p : Progress) → fault_in p ≢ None → is_idle p ≡ false
failed_idle (Head bytes) not = absurd (not refl)
failed_idle p not = refl

-- ---- pending bytes

pub hello_pending : (viewing : Viewing) (v : Viewer) (at : ServerAt) (g : Option (Grid Colour)) (prefix : List ℕ)
    (n : ℕ) → ProgressStandsFor viewing v Handshake at g prefix → ((p : ServerPoint) (bytes : List ℕ) →
    HelloStandsFor viewing.hello v.hello p bytes → n ≡ server_handshake_pending p bytes) →
    n ≡ server_bytes_pending at prefix
hello_pending viewing v (First p) g prefix n h tells = tells p prefix h.0
hello_pending viewing v (Second q) g prefix n h tells = absurd h

begun_pending : (bytes : List ℕ) → IsHeadBegun bytes → server_pending bytes ≡ length bytes
begun_pending [] h = refl
begun_pending (first ∷ rest) h = head_pending server_head_size server_piece_size first h.0 rest h.1 h.2

pub part_pending : (viewing : Viewing) (v : Viewer) (part : ArrayVec ℕ)
    (at : ServerAt) (g : Option (Grid Colour)) (prefix : List ℕ) → ProgressStandsFor viewing v (Head part) at g prefix →
    length part.items ≡ server_bytes_pending at prefix
part_pending viewing v part (First p) g prefix h = absurd h
part_pending viewing v part (Second q) g prefix h =
    sym (ap (update_pending q) h.2 ∙ (message_pending_next q part.items h.0.left_is ∙ begun_pending part.items h.3))

pub head_part_pending : (viewing : Viewing) (v : Viewer) (more : ℕ) (head : ArrayVec ℕ) (at : ServerAt)
    (g : Option (Grid Colour)) (prefix : List ℕ) → ProgressStandsFor viewing v (RectHead more head) at g prefix →
    length head.items ≡ server_bytes_pending at prefix
head_part_pending viewing v more head (First p) g prefix h = absurd h
head_part_pending viewing v more head (Second q) g prefix h =
    let left = h.0.left_is in
    sym (ap (update_pending q) h.2 ∙ short_head_pending q head.items (omega (arith, left)) h.3)

pub painter_pending : (viewing : Viewing) (v : Viewer) (more : ℕ) (painter : UnderWay) (at : ServerAt)
    (g : Option (Grid Colour)) (prefix : List ℕ) → ProgressStandsFor viewing v (Data more painter) at g prefix →
    length painter.pending ≡ server_bytes_pending at prefix
painter_pending viewing v more painter (First p) g prefix h = absurd h
painter_pending viewing v more painter (Second q) g prefix h =
    let p = h.1 in
    let kept =
    kept_is_pending painter.form painter.rect painter.stage painter.pending p.now h.0.screen p.body p.shows in
    let same : data_pending q.form p.head.rect p.head.encoding p.body ≡ length painter.pending = subst
    (λ (k : Painting). data_pending k.form k.rect k.encoding p.body ≡ length painter.pending) p.painting_is kept in
    sym (ap (update_pending q) p.prefix_is
    ∙ (data_pending_next q p.head p.front p.body p.awaits.some_left p.awaits.head_is p.awaits.on_screen ∙ same))

short_of : (n more count : ℕ) → n + (more + 1) ≡ count * 6 → 5 - more % 6 ≡ n % 6
short_of n more count missing = omega (arith, missing)

pub colours_pending : (viewing : Viewing) (v : Viewer) (more : ℕ) (at : ServerAt)
    (g : Option (Grid Colour)) (prefix : List ℕ) → ProgressStandsFor viewing v (Colours more) at g prefix →
    5 - more % 6 ≡ server_bytes_pending at prefix
colours_pending viewing v more (First p) g prefix h = absurd h
colours_pending viewing v more (Second q) g prefix h =
    let b = h.2 in
    let after : server_pending (b.head ++ b.colours) ≡ in_pieces 6 b.colours = past_head server_head_size
    server_piece_size 1 6 b.head b.colours (omega arith) b.head_is.size b.head_is.message_type refl in
    sym (ap (update_pending q) b.prefix_is ∙ (message_pending_next q (b.head ++ b.colours) h.0.left_is
    ∙ (after ∙ sym (short_of (length b.colours) more b.count b.missing))))

pub text_pending : (viewing : Viewing) (v : Viewer) (n more : ℕ) (kept : KeptText) (at : ServerAt)
    (g : Option (Grid Colour)) (prefix : List ℕ) → ProgressStandsFor viewing v (CutText n more kept) at g prefix →
    0 ≡ server_bytes_pending at prefix
text_pending viewing v n more kept (First p) g prefix h = absurd h
text_pending viewing v n more kept (Second q) g prefix h = sym (ap (update_pending q) h.2.prefix_is
    ∙ (message_pending_next q (h.2.head ++ h.2.text) h.0.left_is ∙ server_text_pending n h.2.head h.2.text h.2.head_is))
