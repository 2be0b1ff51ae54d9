-- A server's engine, turn by turn.
use Rattle.std.proofs.Common.{◌≡◌, ℕ, ◌+◌, ◌-◌, ◌^◌, ◌≤◌, min, List, [], ◌∷◌, Option, Some, IfSome, length, take, refl}
use Rattle.std.proofs.Common.{sym, ◌∙◌, subst, append-nil, length-take-le, arith}
use Rattle.std.specs.Io.KnownBytes.{Consumes}
use Rattle.std.proofs.KnownBytes.{Consumes-nil, Consumes-trans}
use Rattle.rfb_server.specs.declared.server.Server.{Server}
use Rattle.rfb_server.specs.UpdateCall.{StaysUnsent}
use Rattle.rfb_session.specs.declared.engine.fault.EngineFault.{EngineFault}
use Rattle.rfb_session.specs.ServeEngine.{AllServed, ServedSome, StopsServing}
use Rattle.rfb_session.specs.Turns.{Showing, Turns, TurnsNoMore, StopsTurn, FailsToRead, FailsToHear, FailsToUpdate}
use Rattle.rfb_session.specs.Turns.{read_in, TakesTurns, StopsInTurn}
use Rattle.rfb_session.proofs.ServeLemmas.{heard_of, updated_of}
use Rattle.rfb_session.proofs.ServingLemmas.{ServedSoFar, goes_on, serving_more, serving_ends, serving_unread}
use Rattle.rfb_session.proofs.ServingLemmas.{hearing_fails, updating_fails}

pub few_taken : (n : ℕ) (buf : List ℕ) → n ≤ length buf → length buf ≡ 4096 → length (take n buf) ≤ 4096
few_taken n buf within size = omega (arith, within, size, length-take-le n buf within)

-- what holds of the updates of a turn, if it is one
pub turned_by : (turned : Option ℕ) (more : ℕ) (Holds : ℕ → Type 0) → turned ≡ Some more → IfSome turned Holds →
    Holds more
turned_by turned more Holds is holds = subst (λ (o : Option ℕ). IfSome o Holds) is holds

-- a composing of nothing appends nothing, whatever was there
pub unsent_of_none : (old new : Server) (out after : List ℕ) → StaysUnsent old new out after → StaysUnsent old new [] []
unsent_of_none old new out after unsent = record {
  appended = refl;
  kept = unsent.kept;
  not_due = unsent.not_due;
}

module _ {X : Type 0} where
  pub turns_none : (shows : Showing X) (unread before : Option (List ℕ)) (old : Server) (scene : X) →
      TakesTurns shows unread unread before before old scene 0 old scene
  turns_none shows unread before old scene = record {
    reads = [];
    updates = 0;
    told_is = refl;
    read = Consumes-nil unread;
    turns = (refl, refl, refl, refl);
  }

  pub turns_more : (shows : Showing X) (unread mid left before w after : Option (List ℕ)) (old : Server) (scene : X)
      (told : ℕ) (last : Server) (last_scene : X) (more now : ℕ) (new : Server) (new_scene : X) →
      TakesTurns shows unread mid before w old scene told last last_scene →
      Turns shows mid left last last_scene w after more new new_scene →
      now ≡ min (told + more) (2 ^ 64 - 1) →
      TakesTurns shows unread left before after old scene now new new_scene
  turns_more shows unread mid left before w after old scene told last last_scene more now new new_scene was one is =
      record {
        reads = one.bytes ∷ was.reads;
        updates = was.updates + more;
        told_is = goes_on was.updates more told now was.told_is is;
        read = Consumes-trans unread mid left (read_in was.reads) one.bytes was.read one.read;
        turns = (last, last_scene, w, was.updates, more, was.turns, one.turn, refl);
      }

  -- a turn whose source has no more bytes
  pub turns_end : (shows : Showing X) (unread mid left before w after : Option (List ℕ)) (old : Server) (scene : X)
      (told : ℕ) (last : Server) (last_scene : X) (new : Server) (new_scene : X) →
      TakesTurns shows unread mid before w old scene told last last_scene →
      TurnsNoMore mid left last last_scene w after new new_scene →
      TakesTurns shows unread left before after old scene told new new_scene
  turns_end shows unread mid left before w after old scene told last last_scene new new_scene was none =
      subst (λ (v : Server). TakesTurns shows unread left before after old scene told v new_scene) (sym none.unheard)
      (subst (λ (x : X). TakesTurns shows unread left before after old scene told last x) (sym none.undrawn)
      (subst (λ (a : Option (List ℕ)). TakesTurns shows unread left before a old scene told last last_scene)
      (sym none.unwritten) (record {
        reads = was.reads;
        updates = was.updates;
        told_is = was.told_is;
        read = subst (λ (l : List ℕ). Consumes unread left l) (append-nil (read_in was.reads))
            (Consumes-trans unread mid left (read_in was.reads) [] was.read none.read);
        turns = was.turns;
      })))

  -- a turn that stops
  pub turns_stop : (shows : Showing X) (unread mid left before w after : Option (List ℕ))
      (failing failing_mid failed : ℕ)
      (stuck stuck_mid stopped : ℕ) (old : Server) (scene : X) (told : ℕ) (last : Server) (last_scene : X)
      (fault : EngineFault) (new : Server) (new_scene : X) →
      TakesTurns shows unread mid before w old scene told last last_scene →
      failing_mid ≡ failing → stuck_mid ≡ stuck → new_scene ≡ last_scene →
      StopsTurn mid left failing_mid failed w after stuck_mid stopped last fault new →
      StopsInTurn shows unread left failing failed before after stuck stopped old scene fault new new_scene
  turns_stop shows unread mid left before w after failing failing_mid failed stuck stuck_mid stopped old scene told last
      last_scene fault new new_scene was one two same stops =
      record {
        mid = last;
        unread_then = mid;
        written = w;
        told = told;
        turns = subst (λ (x : X). TakesTurns shows unread mid before w old scene told last x) (sym same) was;
        stops = subst (λ (k : ℕ). StopsTurn mid left k failed w after stuck stopped last fault new) one
            (subst (λ (k : ℕ). StopsTurn mid left failing_mid failed w after k stopped last fault new) two stops);
      }

  -- what was served so far, and a turn more
  pub served_more : (shows : Showing X) (unread mid left before w after : Option (List ℕ))
      (old : Server) (reads told : ℕ)
      (last : Server) (last_scene : X) (more now : ℕ) (new : Server) (new_scene : X) →
      ServedSoFar unread mid before w old reads told last →
      Turns shows mid left last last_scene w after more new new_scene →
      now ≡ min (told + more) (2 ^ 64 - 1) → ServedSoFar unread left before after old (reads + 1) now new
  served_more shows unread mid left before w after old reads told last last_scene more now new new_scene was one is =
      let turn = one.turn in
      serving_more unread mid left before w turn.answered after old reads told last turn.heard one.bytes more now new
      was one.read turn.some (heard_of last one.bytes w turn.answered turn.heard turn.hears)
      (updated_of shows turn.heard last_scene turn.answered after more new new_scene turn.ends) is

  pub served_end : (unread mid left before w after : Option (List ℕ)) (old : Server) (reads told : ℕ)
      (last : Server) (last_scene : X) (new : Server) (new_scene : X) →
      ServedSoFar unread mid before w old reads told last → TurnsNoMore mid left last last_scene w after new new_scene →
      AllServed unread left before after [] old told new
  served_end unread mid left before w after old reads told last last_scene new new_scene was none =
      subst (λ (v : Server). AllServed unread left before after [] old told v) (sym none.unheard)
      (subst (λ (a : Option (List ℕ)). AllServed unread left before a [] old told last) (sym none.unwritten)
      (serving_ends unread mid left before w old reads told last was none.read none.ended))

module _ {X : Type 0} where
  -- after a greeting, which no write failed at
  pub greeted_stops : (shows : Showing X) (unread left : Option (List ℕ)) (failing failed : ℕ)
      (before after : Option (List ℕ)) (stuck stuck_mid stopped : ℕ) (old : Server) (scene : X)
      (fault : EngineFault) (new : Server) (last : X) → stuck_mid ≡ stuck →
      StopsInTurn shows unread left failing failed before after stuck_mid stopped old scene fault new last →
      StopsInTurn shows unread left failing failed before after stuck stopped old scene fault new last
  greeted_stops shows unread left failing failed before after stuck stuck_mid stopped old
      scene fault new last same stops =
      subst (λ (k : ℕ). StopsInTurn shows unread left failing failed before after k stopped old scene fault new last)
      same stops

-- one more, where the read failed
one_read : (r s t w x v : ℕ) → s ≡ r → t ≡ s + 1 → w ≡ v → x ≡ w → t + x ≡ r + v + 1
one_read r s t w x v a b c d = omega (arith, a, b, c, d)

pub served_stop : (unread mid left before w after : Option (List ℕ)) (failing failing_mid failed : ℕ)
    (stuck stuck_mid stopped : ℕ) (old : Server) (reads told : ℕ) (last : Server) (fault : EngineFault) (new : Server) →
    ServedSoFar unread mid before w old reads told last → failing_mid ≡ failing → stuck_mid ≡ stuck →
    StopsTurn mid left failing_mid failed w after stuck_mid stopped last fault new →
    StopsServing unread left failing failed before after stuck stopped [] old fault new
served_stop unread mid left before w after failing failing_mid failed stuck stuck_mid stopped old reads told last fault
    new was one two (FailsToRead is keeps read unwritten none unheard) =
    subst (λ (f : EngineFault). StopsServing unread left failing failed before after stuck stopped [] old f new)
    (sym is) (
      one_read failing failing_mid failed stuck_mid stopped stuck one read two none,
      subst (λ (v : Server). ServedSome unread left before after [] old v) (sym unheard)
          (subst (λ (a : Option (List ℕ)). ServedSome unread left before a [] old last) (sym unwritten)
          (serving_unread unread mid left before w old reads told last was keeps)),
    )
served_stop unread mid left before w after failing failing_mid failed stuck stuck_mid stopped old reads told last fault
    new was one two (FailsToHear bytes read few same stops) =
    hearing_fails unread mid left before w after old reads told last bytes failing failed
    stuck stuck_mid stopped fault new
    was read (same ∙ one) two stops
served_stop unread mid left before w after failing failing_mid failed stuck stuck_mid stopped old reads told last fault
    new was one two (FailsToUpdate bytes read few same heard answered hears stops) =
    updating_fails unread mid left before w answered after old reads told last heard bytes
    failing failed stuck stuck_mid
    stopped fault new was read (heard_of last bytes w answered heard hears) (same ∙ one) two stops
