use Rattle.std.proofs.Common.{◌∙◌, ◌≡◌, rules, length, inl, inr}
use Rattle.rfb_viewer.proofs.MessageLemmas.{here}
use Rattle.rfb_viewer.proofs.LendLemmas.{hello_pending, part_pending, head_part_pending, painter_pending}
use Rattle.rfb_viewer.proofs.LendLemmas.{colours_pending, text_pending}
use Rattle.rfb_viewer.proofs.viewer.Viewer.pending.Goals as goal

pub returns-in-Handshake-clause-value : goal.returns-in-Handshake-clause-value
returns-in-Handshake-clause-value c = λ viewing s prefix now.
    let v = c.args.self.now in
    hello_pending viewing v s.point s.picture prefix c.pending.result (here viewing v _ s prefix c.in-Handshake.is now)
    (λ p bytes stands. c.pending.ensures.value viewing.hello p bytes stands)

pub returns-in-Head-clause-value : goal.returns-in-Head-clause-value
returns-in-Head-clause-value c = λ viewing s prefix now.
    let v = c.args.self.now in
    let len : c.len.result ≡ length c.in-Head.part.items = search rules in
    len ∙ part_pending viewing v c.in-Head.part s.point s.picture prefix (here viewing v _ s prefix c.in-Head.is now)

pub returns-in-RectHead-clause-value : goal.returns-in-RectHead-clause-value
returns-in-RectHead-clause-value c = λ viewing s prefix now.
    let v = c.args.self.now in
    let len : c.len-in-RectHead.result ≡ length c.in-RectHead.head.items = search rules in
    len ∙ head_part_pending viewing v c.in-RectHead.more c.in-RectHead.head s.point s.picture prefix
    (here viewing v _ s prefix c.in-RectHead.is now)

pub returns-in-Data-clause-value : goal.returns-in-Data-clause-value
returns-in-Data-clause-value c = λ viewing s prefix now.
    let v = c.args.self.now in
    c.pending-in-Data.ensures.value ∙ painter_pending viewing v c.in-Data.more c.in-Data.painter s.point s.picture
    prefix (here viewing v _ s prefix c.in-Data.is now)

pub returns-in-Colours-clause-value : goal.returns-in-Colours-clause-value
returns-in-Colours-clause-value c = λ viewing s prefix now.
    let v = c.args.self.now in
    colours_pending viewing v c.in-Colours.more s.point s.picture prefix (here viewing v _ s prefix c.in-Colours.is now)

pub returns-in-CutText-clause-value : goal.returns-in-CutText-clause-value
returns-in-CutText-clause-value c = λ viewing s prefix now.
    let v = c.args.self.now in
    elim c.in-CutText.is [
      | inl h ↦ text_pending viewing v h.0 h.1 h.2 s.point s.picture prefix (here viewing v _ s prefix h.3 now)
      | inr h ↦ absurd (here viewing v _ s prefix h.1 now)
    ]
