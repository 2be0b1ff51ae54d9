use Rattle.std.proofs.Common.{refl, sym, ap, ◌∙◌, ◌≡◌, Some, None}
use Rattle.circular_buffer.specs.Buffer.{Buffer}
use Rattle.rfb_server.specs.declared.hint.Hint.{Hint}
use Rattle.rfb_server.specs.Model.{session_fault}
use Rattle.rfb_server.proofs.MarksLemmas.{follows_up}
use Rattle.rfb_server.proofs.SliceLemmas.{ok_map, err_map, serving_kept}
use Rattle.rfb_server.proofs.EndingLemmas.{ends_refuse, ends_starve, failed_ends}
use Rattle.rfb_server.proofs.session.Session.feed_placed.Goals as goal

pub returns-in-Some : goal.returns-in-Some
returns-in-Some c =
    let session = c.args.self.now in
    let fails : session_fault session ≡ Some c.in-Some.fault = sym c.fault.ensures ∙ c.in-Some.is in
    let ends = failed_ends session session c.args.bytes.now c.in-Some.fault fails in
    record {
      used = tt;
      all = tt;
      some = tt;
      fed = tt;
      made = refl;
      hints = refl;
      known = λ _. refl;
      follows = λ screen follows. follows;
      columns = refl;
      rows = refl;
      fault = λ other. ends_refuse session session c.args.bytes.now c.in-Some.fault ends other;
      memory = λ memory. ends_starve session session c.args.bytes.now c.in-Some.fault ends memory;
      kept = ends;
      fails = fails;
      failed = λ f h. (cc, refl);
      place = λ none. let both : Some c.in-Some.fault ≡ None = sym fails ∙ none in absurd (cc);
    }

pub returns : goal.returns
returns c =
    let session = c.args.self.now in
    let new = c.take_items.new.self in
    let none : session_fault session ≡ None = sym c.fault.ensures ∙ c.in_default.is in
    record {
      used = c.take_items.ensures.used;
      all = c.take_items.ensures.all;
      some = c.take_items.ensures.some;
      fed = ok_map _ _ c.take_items.result (λ fed h. h) c.take_items.ensures.fed;
      made = serving_kept session new c.take_items.ensures.up;
      hints = ap (λ (kept : Buffer Hint). kept.items) c.take_items.ensures.up.hints;
      known = c.take_items.ensures.up.known;
      follows = λ screen follows. follows_up session new screen c.take_items.ensures.up follows;
      columns = c.take_items.ensures.up.columns;
      rows = c.take_items.ensures.up.rows;
      fault = err_map _ _ c.take_items.result
          (λ flaw h other. ends_refuse session new c.args.bytes.now flaw.fault h other) c.take_items.ensures.ends;
      memory = err_map _ _ c.take_items.result
          (λ flaw h memory. ends_starve session new c.args.bytes.now flaw.fault h memory) c.take_items.ensures.ends;
      kept = c.take_items.ensures.ends;
      fails = c.take_items.ensures.fails;
      failed = λ f h. absurd cc;
      place = err_map _ _ c.take_items.result (λ flaw h none. h) c.take_items.ensures.place;
    }
