-- Calls of a server's viewer whose picture a share has, and what a relay makes of them.
use Rattle.std.proofs.Common.{◌≡◌, ◌≤◌, ◌++◌, ◌∙◌, ℕ, List, Option, Some, None, Result, Ok}
use Rattle.std.proofs.Common.{Err, IfSome, IfOk, IfErr}
use Rattle.std.proofs.Common.{refl, sym, ap, length, drop, arith}
use Rattle.std.proofs.Math.Logic.{∥∥₁_map}
use Rattle.std.proofs.lemmas.List.{drop-append-le, length-append}
use Rattle.rfb_viewer.specs.Call.{message_bytes}
use Rattle.rfb_viewer.specs.declared.call.Call.{Call}
use Rattle.rfb_viewer.specs.declared.fault.AppendFault.{AppendFault}
use Rattle.rfb_viewer.specs.declared.fault.AppendFault.TheVariants.{Refused}
use Rattle.rfb_viewer.specs.declared.fault.CallFault.TheVariants.{NotReady}
use Rattle.rfb_viewer.specs.declared.viewer.Viewer.{Viewer}
use Rattle.rfb_session.specs.declared.share.Share.{Share}
use Rattle.rfb_viewer.specs.Viewer.{ViewerState}
use Rattle.rfb_session.specs.LinkBytes.{IsCalled}
use Rattle.rfb_session.specs.Mirrors.{MakesCall, StandsOrFailed}
use Rattle.rfb_session.specs.Share.{viewer_of}
use Rattle.rfb_session.specs.ShareMirrors.{MakesOn}
use Rattle.rfb_session.specs.relay.Desk.{CallsShare, NoViewer, Calls}

-- ---- behind bytes that have arrived

module _ (k : ℕ) (before : List ℕ) (within : k ≤ length before) where
  sent_behind : (result : Result (Unit {0}) AppendFault) (after message : List ℕ) →
      IfOk result (λ done. after ≡ before ++ message) →
      IfOk result (λ done. drop k after ≡ drop k before ++ message)
  sent_behind (Ok done) after message is =
      ap (λ (l : List ℕ). drop k l) is ∙ drop-append-le k before message within
  sent_behind (Err fault) after message is = is

  kept_behind : (result : Result (Unit {0}) AppendFault) (after : List ℕ) →
      IfErr result (λ fault. after ≡ before) → IfErr result (λ fault. drop k after ≡ drop k before)
  kept_behind (Ok done) after is = is
  kept_behind (Err fault) after is = ap (λ (l : List ℕ). drop k l) is

  makes_behind : (was : Viewer) (call : Call) (result : Result (Unit {0}) AppendFault) (after : List ℕ)
      (now : Viewer) →
      MakesCall was call before result after now → MakesCall was call (drop k before) result (drop k after) now
  makes_behind was call result after now makes = record {
    sent = sent_behind result after (message_bytes call) makes.sent;
    spelled = makes.spelled;
    kept = kept_behind result after makes.kept;
    refusal = makes.refusal;
    refuses = makes.refuses;
    failed = makes.failed;
    stands = makes.stands;
    refused = makes.refused;
    unnoted = makes.unnoted;
    picture = makes.picture;
    keeps = makes.keeps;
    damage = makes.damage;
    moved = makes.moved;
  }

  -- a call of the viewer's, whose message waits behind what waits
  pub calls_behind : (old : Share) (call : Call) (result : Result (Unit {0}) AppendFault) (after : List ℕ)
      (new : Share) →
      (viewer_of old ≡ None → result ≡ Err (Refused NotReady)) → (viewer_of old ≡ None →
      after ≡ before) →
      (viewer_of old ≡ None → new ≡ old) →
      IfSome (viewer_of old) (λ viewer. MakesOn old viewer call before result after new) →
      CallsShare old call (drop k before) result (drop k after) new
  calls_behind old call result after new none kept same makes = by (viewer_of old) refl makes
    where
      by : (v : Option Viewer) → viewer_of old ≡ v →
          IfSome v (λ viewer. MakesOn old viewer call before result after new) →
          CallsShare old call (drop k before) result (drop k after) new
      by None is makes = NoViewer is (none is) (ap (λ (l : List ℕ). drop k l) (kept is)) (same is)
      by (Some was) is makes = Calls was is (record {
        now = makes.now;
        is_there = makes.is_there;
        makes = makes_behind was call result after makes.now makes.makes;
        screen = makes.screen;
        seats = makes.seats;
        made = makes.made;
      })

-- ---- how much waits after a call

grows_by : (result : Result (Unit {0}) AppendFault) (before after message : List ℕ) →
    IfOk result (λ done. after ≡ before ++ message) → IfErr result (λ fault. after ≡ before) →
    length before ≤ length after
grows_by (Ok done) before after message sent kept =
    omega (arith, ap (λ (l : List ℕ). length l) sent, length-append before message)
grows_by (Err fault) before after message sent kept = omega (arith, ap (λ (l : List ℕ). length l) kept)

-- no less than before
pub grows : (old : Share) (call : Call) (before : List ℕ) (result : Result (Unit {0}) AppendFault) (after : List ℕ)
    (new : Share) → (viewer_of old ≡ None → after ≡ before) →
    IfSome (viewer_of old) (λ viewer. MakesOn old viewer call before result after new) →
    length before ≤ length after
grows old call before result after new kept makes = by (viewer_of old) refl makes
  where
    by : (v : Option Viewer) → viewer_of old ≡ v →
        IfSome v (λ viewer. MakesOn old viewer call before result after new) → length before ≤ length after
    by None is makes = omega (arith, ap (λ (l : List ℕ). length l) (kept is))
    by (Some was) is makes =
        grows_by result before after (message_bytes call) makes.makes.sent makes.makes.kept

-- ---- a viewer that was called stands for something, or has failed

pub called_stands : (old new : Viewer) (call : ViewerState → ViewerState) → IsCalled call old new →
    ∥ StandsOrFailed old ∥₁ → ∥ StandsOrFailed new ∥₁
called_stands old new call called stands = ∥∥₁_map stands (λ has going.
    let one = has (sym called.rest.fault ∙ going) in
    record {
      viewing = one.viewing;
      state = call one.state;
      prefix = one.prefix;
      stands = called.stands one.viewing one.state one.prefix one.stands;
    })
