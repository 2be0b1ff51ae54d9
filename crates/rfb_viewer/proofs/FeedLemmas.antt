-- What a viewer stands for waits for more.
use Rattle.std.proofs.Common.{◌≡◌, ℕ, List, [], ◌++◌, Option, None, refl, subst, ap, arith, append-nil}
use Rattle.rfb_pixel.specs.declared.colour.Colour.{Colour}
use Rattle.rfb_picture.specs.Grid.{Grid}
use Rattle.rfb_wire.specs.stream.Prefix.{Next, More}
use Rattle.rfb_wire.specs.stream.Parts.{named}
use Rattle.rfb_wire.specs.stream.Sequel.{First, Second}
use Rattle.rfb_wire.specs.stream.End.{FedBy}
use Rattle.rfb_wire.proofs.stream_laws.FeedLaws.{fed_start}
use Rattle.rfb_wire.proofs.WaitLaws.{colours_wait, server_text_waits}
use Rattle.rfb_codec.specs.UpdateStream.{UpdateItem, UpdateFault, UpdatePoint, update_stream}
use Rattle.rfb_codec.proofs.UpdateWaitLaws.{message_waits, rect_short}
use Rattle.rfb_hello.specs.declared.fault.HelloFault.{HelloFault}
use Rattle.rfb_hello.specs.ServerHandshake.{ServerItem}
use Rattle.rfb_hello.specs.ServerItems.{server_handshake}
use Rattle.rfb_hello.proofs.ViewerHelloLaws.{viewer_starts}
use Rattle.rfb_viewer.specs.declared.fault.ViewerFault.{ViewerFault}
use Rattle.rfb_viewer.specs.declared.viewer.Viewer.{Viewer}
use Rattle.rfb_viewer.specs.declared.viewer.progress.Progress.{Progress}
use Rattle.rfb_viewer.specs.declared.viewer.progress.Progress.TheVariants.{Handshake, Head, RectHead, Data, Colours}
use Rattle.rfb_viewer.specs.declared.viewer.progress.Progress.TheVariants.{CutText, Failed}
use Rattle.rfb_viewer.specs.Fault.{fault_of_hello, fault_of_update}
use Rattle.rfb_viewer.specs.ServerBytes.{ServerAt, server_bytes}
use Rattle.rfb_viewer.specs.Viewer.{Viewing, ViewerState, viewer}
use Rattle.rfb_viewer.specs.Progress.{ProgressStandsFor, fault_in}
use Rattle.rfb_viewer.specs.Model.{StandsFor}
use Rattle.rfb_viewer.proofs.HeadLemmas.{begun_waits}
use Rattle.rfb_viewer.proofs.GreetLemmas.{none_taken}

pub second_waits : (viewing : Viewing) (q : UpdatePoint) (prefix : List ℕ) → update_stream.next q prefix ≡ More →
    (server_bytes viewing.form viewing.hello).next (Second q) prefix ≡ More
second_waits viewing q prefix e = ap (λ (n : Next UpdateItem UpdateFault). named (λ j. Second j) fault_of_update n) e

waits_at : (viewing : Viewing) (v : Viewer) (p : Progress) (at : ServerAt) (g : Option (Grid Colour)) (prefix : List
    ℕ) → ProgressStandsFor viewing v p at g prefix → (server_bytes viewing.form viewing.hello).next at prefix ≡ More
waits_at viewing v Handshake (First point) g prefix h =
    let f = viewer_starts viewing.hello v.hello point prefix h.0 in
    let t = none_taken viewing.hello point f.0 prefix [] f.1 f.3 in
    let waits : (server_handshake viewing.hello.limit viewing.hello.max_places).next point prefix ≡ More =
    subst (λ (ys : List ℕ). (server_handshake viewing.hello.limit viewing.hello.max_places).next point ys ≡ More)
    (append-nil prefix) t.2 in
    ap (λ (n : Next ServerItem HelloFault). named (λ i. First i) fault_of_hello n) waits
waits_at viewing v Handshake (Second q) g prefix h = absurd h
waits_at viewing v (Head bytes) (First point) g prefix h = absurd h
waits_at viewing v (Head bytes) (Second q) g prefix h =
    rw h.2 (second_waits viewing q bytes.items (message_waits q bytes.items h.0.left_is (begun_waits bytes.items h.3)))
waits_at viewing v (RectHead more head) (First point) g prefix h = absurd h
waits_at viewing v (RectHead more head) (Second q) g prefix h =
    let left = h.0.left_is in
    rw h.2 (second_waits viewing q head.items (rect_short q head.items (omega (arith, left)) h.3))
waits_at viewing v (Data more painter) (First point) g prefix h = absurd h
waits_at viewing v (Data more painter) (Second q) g prefix h = second_waits viewing q prefix h.1.waits
waits_at viewing v (Colours more) (First point) g prefix h = absurd h
waits_at viewing v (Colours more) (Second q) g prefix h =
    let b = h.2 in
    let missing = b.missing in
    rw b.prefix_is (second_waits viewing q (b.head ++ b.colours) (message_waits q (b.head ++ b.colours) h.0.left_is
    (colours_wait b.first b.count b.head b.colours b.head_is (omega (arith, missing)))))
waits_at viewing v (CutText n more kept) (First point) g prefix h = absurd h
waits_at viewing v (CutText n more kept) (Second q) g prefix h =
    let b = h.2 in
    let missing = b.missing in
    rw b.prefix_is (second_waits viewing q (b.head ++ b.text) (message_waits q (b.head ++ b.text) h.0.left_is
    (server_text_waits n b.head b.text b.head_is (omega (arith, missing)))))
waits_at viewing v (Failed fault) at g prefix h = absurd h

pub stands_waits : (viewing : Viewing) (v : Viewer) (s : ViewerState) (prefix : List ℕ) → StandsFor viewing v s prefix →
    (server_bytes viewing.form viewing.hello).next s.point prefix ≡ More
stands_waits viewing v s prefix stands = waits_at viewing v v.progress s.point s.picture prefix stands.progress_is

-- a call that is fed no bytes
pub starts : (viewing : Viewing) (v : Viewer) → FedBy (viewer viewing) (StandsFor viewing) v [] None v
starts viewing v = fed_start (viewer viewing) (StandsFor viewing) v (stands_waits viewing v)

pub not_failed : (p : Progress) → ((fault : ViewerFault) → p ≡ Failed fault → ⊥) → fault_in p ≡ None
not_failed (Failed fault) not = absurd (not fault refl)
not_failed p not = refl
