use Rattle.std.proofs.Common.{◌≡◌, ℕ, ◌∙◌, None, refl, ap}
use Rattle.rfb_wire.specs.stream.FaultPlace.{counted_on}
use Rattle.rfb_viewer.specs.Model.{fault_of}
use Rattle.rfb_viewer.proofs.StepLemmas.{made_so}
use Rattle.rfb_viewer.proofs.CountLemmas.{counted_fed, counted_damage, counted_moved, counted_reason}
use Rattle.rfb_viewer.proofs.CountLemmas.{counted_offer, counted_offered}
use Rattle.rfb_viewer.proofs.CountLemmas.{count_of_fed, count_of_fault}
use Rattle.rfb_viewer.proofs.FeedLemmas.{not_failed}
use Rattle.rfb_viewer.proofs.viewer.Viewer.feed.Goals as goal

pub returns : goal.returns
returns c =
    let old = c.args.self.now in
    let mid = c.take_all-result.new.self in
    let bytes = c.args.bytes.now in
    let result = c.take_all-result.result in
    let used = c.take_all-result.new.used in
    let told = c.take_all-result.ensures in
    let count = c.saturating_add-self.ensures ∙ ap (λ (n : ℕ). counted_on n used) told.kept in
    let going : fault_of old ≡ None = not_failed old.progress (λ fault e. c.in_default.not-Failed fault e) in
    record {
      used = told.used;
      all = told.all;
      some = told.some;
      fed = counted_fed old mid _ bytes (made_so refl refl refl refl) refl result told.fed;
      made = told.made;
      outside = told.outside;
      damage = counted_damage old mid _ bytes (made_so refl refl refl refl) refl result told.damage;
      damaged = told.damaged;
      moved = counted_moved old mid _ bytes (made_so refl refl refl refl) refl refl result told.moved;
      unmoved = told.unmoved;
      fault = told.fault;
      memory = told.memory;
      picture = told.picture;
      reason = counted_reason old mid (record mid { taken = c.saturating_add-self.result; sound = _ }) bytes
          (made_so refl refl refl refl) refl result told.reason;
      offer = counted_offer old mid (record mid { taken = c.saturating_add-self.result; sound = _ }) bytes
          (made_so refl refl refl refl) refl result told.offer;
      offered = counted_offered old mid (record mid { taken = c.saturating_add-self.result; sound = _ }) bytes
          (made_so refl refl refl refl) refl result told.offered;
      fails = told.fails;
      failed = λ f h. absurd cc;
      taken = count_of_fed old.taken c.saturating_add-self.result used count result told.taken;
      place = count_of_fault old _ bytes used count result told.place;
    }
