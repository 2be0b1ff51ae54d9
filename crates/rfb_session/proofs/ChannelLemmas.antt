-- An update that joined other bytes comes after those of them that are still in flight.
use Rattle.std.proofs.Common.{◌≡◌, ℕ, ◌≤◌, List, ◌++◌, length, drop, ap, ◌∙◌}
use Rattle.std.proofs.lemmas.List.{drop-append-le}
use Rattle.rfb_pixel.specs.declared.colour.Colour.{Colour}
use Rattle.rfb_picture.specs.Grid.{Grid}
use Rattle.rfb_server.specs.declared.session.Session.{Session}
use Rattle.rfb_server.specs.UpdateCall.{SendsUpdate}

-- bytes that joined others come after those that are left of these
pub rest_of : (all more bytes : List ℕ) (k : ℕ) → k ≤ length all → more ≡ all ++ bytes →
    drop k more ≡ drop k all ++ bytes
rest_of all more bytes k within is =
    ap (λ (q : List ℕ). drop k q) is ∙ drop-append-le k all bytes within

pub updates_rest : (screen : Grid Colour) (old new : Session) (all more : List ℕ) (k : ℕ) →
    k ≤ length all → SendsUpdate screen old new all more →
    SendsUpdate screen old new (drop k all) (drop k more)
updates_rest screen old new all more k within updates = record {
  fault_is = updates.fault_is;
  made_is = updates.made_is;
  sent = λ serving s prefix stands.
      let one = updates.sent serving s prefix stands in
      record {
        resulting = one.resulting;
        update = record {
          due = one.update.due;
          bytes = one.update.bytes;
          copies = one.update.copies;
          blocks = one.update.blocks;
          appended = rest_of all more one.update.bytes k within one.update.appended;
          composes = one.update.composes;
          used = one.update.used;
        };
        stands = one.stands;
      };
}
