use Rattle.std.proofs.Common.{sym, ◌∙◌, ◌++◌, inl, List, ℕ, ap, refl}
use Rattle.rfb_wire.specs.declared.encoding.Encoding.TheVariants.{Raw}
use Rattle.rfb_codec.specs.Raw.{StandsRaw}
use Rattle.rfb_codec.specs.Effect.{IsAlike}
use Rattle.rfb_server.proofs.ClaimLemmas.{nothing_claimed}
use Rattle.rfb_server.proofs.SendingLemmas.{coded_in}
use Rattle.rfb_server.proofs.SentLemmas.{caught_sent, appends_pixels}
use Rattle.rfb_server.proofs.session.Session.send_raw.Goals as goal

pub returns-clause-about : goal.returns-clause-about
returns-clause-about c =
    let s = c.args.self.now in
    let taken = c.take_raw.ensures in
    let size : IsAlike s.known c.take_raw.new.self =
    record { columns = sym taken.width; rows = sym taken.height } in
    let about = c.requires.about in
    record {
      whole = about.whole;
      alike = record { columns = about.alike.columns ∙ size.columns; rows = about.alike.rows ∙ size.rows };
      caught_up = caught_sent c.args.screen.now s.known c.take_raw.new.self s.area s.format s.marks c.args.rect
          taken.taken.0 s.alike size taken.taken.2.packed taken.taken.1 about.caught_up;
      claimed = nothing_claimed _ _ _ _ c.requires.unclaimed;
    }

pub returns-clause-sent : goal.returns-clause-sent
returns-clause-sent c =
    let s = c.args.self.now in
    let taken = c.take_raw.ensures in
    let raw = taken.taken.2 in
    let size : IsAlike s.known c.take_raw.new.self =
    record { columns = sym taken.width; rows = sym taken.height } in
    let coded = coded_in StandsRaw s.format c.args.rect Raw taken.taken.0 c.args.out.now.items
    c.append_within.new.out.items c.take_raw.new.out.items c.spell.result.items
    (λ width height bytes stands. (raw.sized, stands)) (λ bytes stands. stands)
    (c.append_within.ensures.items ∙ ap (λ (xs : List ℕ). c.args.out.now.items ++ xs) c.as_slice.ensures.value)
    c.spell.ensures.spells raw.appended in
    let a = appends_pixels c.args.screen.now s.format s.encodings c.args.rect Raw taken.taken.0 s.known
    c.take_raw.new.self c.args.out.now.items c.take_raw.new.out.items (sym c.requires.encoding) refl raw.sized
    raw.packed taken.taken.1 taken.whole size (inl ((λ gives. gives), coded)) in
    record { bytes = a.0; appended = a.1; sent = a.2 }
