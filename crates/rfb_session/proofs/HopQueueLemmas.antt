-- What is left of an update on its way to a viewer, item by item.
use Rattle.std.proofs.Common.{◌≡◌, ◌⊎◌, ◌<◌, ◌-◌, suc, List, [], ◌∷◌, ◌++◌, map}
use Rattle.std.proofs.Common.{length, inl, inr, refl, sym, ap}
use Rattle.std.proofs.Common.{◌∙◌, arith}
use Rattle.rfb_wire.specs.ServerMessage.{FramebufferUpdate}
use Rattle.rfb_wire.specs.stream.Sequel.{First, Second, past_in}
use Rattle.rfb_wire.specs.stream.End.{acts}
use Rattle.rfb_codec.specs.UpdateStream.{UpdatePoint, UpdateItem, Message, left_after, update_stream}
use Rattle.rfb_codec.specs.WholeUpdate.{SentRect, item_of, update_of}
use Rattle.rfb_server.specs.ClientBytes.{ClientAt, FromClient, client_two}
use Rattle.rfb_server.specs.Server.{ServerState, serves}
use Rattle.rfb_viewer.specs.ServerBytes.{ServerAt, FromServer, server_two}
use Rattle.rfb_viewer.specs.Viewer.{ViewerState, viewer, shows}
use Rattle.rfb_session.specs.Answers.{server_answers, server_replies}
use Rattle.rfb_session.specs.Link.{Ends}
use Rattle.rfb_session.proofs.PhaseLemmas.{first_is, none_first}

-- nothing; or a whole update, outside of one; or as many rectangles as are left of one
pub data IsLeft (p : UpdatePoint) (queue : List FromServer) : Type 0 where
  Nothing : queue ≡ [] → IsLeft p queue
  Whole : p.left ≡ 0 → (sent : List SentRect) → queue ≡ map (λ item. Second item) (update_of sent) →
      IsLeft p queue
  Part : (s : SentRect) → (sent : List SentRect) → p.left ≡ suc (length sent) →
      queue ≡ map (λ item. Second item) (map item_of (s ∷ sent)) → IsLeft p queue

pub left_same : (p q : UpdatePoint) (queue : List FromServer) → q.left ≡ p.left → IsLeft p queue →
    IsLeft q queue
left_same p q queue same (Nothing none) = Nothing none
left_same p q queue same (Whole none sent is) = Whole (same ∙ none) sent is
left_same p q queue same (Part s sent some is) = Part s sent (same ∙ some) is

-- ---- an item acts

past_left : (p : UpdatePoint) (item : UpdateItem) → (update_stream.past p item).left ≡ left_after p.left item
unfolding update_stream
past_left p item = refl

after_item : (sent : List SentRect) (rest : List FromServer) (q : UpdatePoint) →
    rest ≡ map (λ item. Second item) (map item_of sent) → q.left ≡ length sent →
    IsLeft q rest × ((rest ≡ []) ⊎ ((0 < q.left) × (rest ≡ [] → ⊥)))
after_item [] rest q is left = (Nothing is, inl is)
after_item (s ∷ sent) rest q is left =
    (Part s sent left is, inr (omega (arith, left), λ none. none_first _ _ (sym none ∙ is)))

-- once one has acted nothing is left, or some rectangles
left_shown : (p : UpdatePoint) (item : FromServer) (rest : List FromServer) → IsLeft p (item ∷ rest) →
    (i : UpdateItem) × (item ≡ Second i) × IsLeft (update_stream.past p i) rest
    × ((rest ≡ []) ⊎ ((0 < (update_stream.past p i).left) × (rest ≡ [] → ⊥)))
left_shown p item rest (Nothing none) = absurd (none_first item rest (sym none))
left_shown p item rest (Whole none sent is) =
    let head = Message (FramebufferUpdate (length sent)) in
    let parts = first_is item (Second head) rest (map (λ i. Second i) (map item_of sent)) is in
    let one = after_item sent rest (update_stream.past p head) parts.1 (past_left p head) in
    (head, parts.0, one.0, one.1)
left_shown p item rest (Part s sent some is) =
    let parts = first_is item (Second (item_of s)) rest (map (λ i. Second i) (map item_of sent)) is in
    let less : p.left - 1 ≡ length sent = omega (arith, some) in
    let one = after_item sent rest (update_stream.past p (item_of s)) parts.1 (past_left p (item_of s) ∙ less) in
    (item_of s, parts.0, one.0, one.1)

-- ---- items act, one at least

pub some_shown : (e : Ends) (v : ViewerState) (p : UpdatePoint) (item : FromServer) (done left : List FromServer) →
    v.point ≡ Second p → IsLeft p (item ∷ (done ++ left)) →
    (q : UpdatePoint) × ((acts (viewer e.viewing) v (item ∷ done)).point ≡ Second q) × IsLeft q left
    × ((left ≡ []) ⊎ ((0 < q.left) × (left ≡ [] → ⊥)))
some_shown e v p item [] left at is =
    let one = left_shown p item left is in (
      update_stream.past p one.0,
      ap (λ (i : FromServer). past_in (server_two e.viewing.form e.viewing.hello) v.point i) one.1
          ∙ ap (λ (a : ServerAt). past_in (server_two e.viewing.form e.viewing.hello) a (Second one.0)) at,
      one.2,
      one.3,
    )
some_shown e v p item (next ∷ done) left at is =
    let one = left_shown p item (next ∷ (done ++ left)) is in
    some_shown e (shows e.viewing v item) (update_stream.past p one.0) next done left
    (ap (λ (i : FromServer). past_in (server_two e.viewing.form e.viewing.hello) v.point i) one.1
    ∙ ap (λ (a : ServerAt). past_in (server_two e.viewing.form e.viewing.hello) a (Second one.0)) at) one.2

-- ---- a server after the handshake answers nothing

no_answer : (e : Ends) (at : ClientAt) (item : FromClient) → at ≡ Second tt →
    server_answers e.serving at item ≡ []
no_answer e at (First step) is = ap (λ (p : ClientAt). server_answers e.serving p (First step)) is
no_answer e at (Second message) is = ap (λ (p : ClientAt). server_answers e.serving p (Second message)) is

still_second : (e : Ends) (at : ClientAt) (item : FromClient) → at ≡ Second tt →
    past_in (client_two e.serving.hello.offer) at item ≡ Second tt
still_second e at (First step) is =
    ap (λ (p : ClientAt). past_in (client_two e.serving.hello.offer) p (First step)) is
still_second e at (Second message) is =
    ap (λ (p : ClientAt). past_in (client_two e.serving.hello.offer) p (Second message)) is

pub no_replies : (e : Ends) (s : ServerState) (items : List FromClient) → s.point ≡ Second tt →
    server_replies e.serving s items ≡ []
no_replies e s [] at = refl
no_replies e s (item ∷ items) at =
    ap (λ (q : List FromServer). q ++ server_replies e.serving (serves e.serving s item) items)
    (no_answer e s.point item at)
    ∙ no_replies e (serves e.serving s item) items (still_second e s.point item at)
