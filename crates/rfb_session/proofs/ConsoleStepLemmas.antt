-- What a happening does to a console that goes on: to its desk, and to what it has read of its owner.
use Rattle.std.proofs.Common.{◌≡◌, ◌≢◌, ◌<◌, ◌+◌, ◌-◌, ◌++◌, ◌∙◌}
use Rattle.std.proofs.Common.{ℕ, zero, suc, List, []}
use Rattle.std.proofs.Common.{Option, Some, None, refl, sym, ap, subst, arith, inl, inr, length, take}
use Rattle.std.proofs.lemmas.Bool.Decides.{eqb_tells, leb_tells}
use Rattle.rfb_session.specs.declared.console.Console.{Console}
use Rattle.rfb_session.specs.declared.console.Outcome.{Outcome}
use Rattle.rfb_session.specs.declared.console.desk.Desk.{Desk}
use Rattle.rfb_session.specs.declared.language.screen.Screen.{Screen as Size}
use Rattle.rfb_session.specs.declared.owner.order.Order.{Order}
use Rattle.rfb_session.specs.declared.owner.order.OwnerLine.TheVariants as Line
use Rattle.rfb_session.specs.declared.owner.order.Refusal.TheVariants.{Bad}
use Rattle.rfb_session.specs.declared.owner.reader.OwnerReader.{OwnerReader}
use Rattle.rfb_session.specs.doors.Events.{Received, Ended, Failed, Wrote, Turned}
use Rattle.rfb_session.specs.doors.Tenants.{Happening, Told, Opened, Declined}
use Rattle.rfb_session.specs.owner.Reader.{ComesTo, ComesFurther, Closes, Feeds, known_after}
use Rattle.rfb_session.specs.Share.{waits_at}
use Rattle.rfb_session.specs.console.Console.{ObeysSome, HearsOwner, Ignored, Heard}
use Rattle.rfb_session.specs.console.Console.{EndsOwner, EndedBefore, EndsNow, Declines, NotYet, IsFull, WantsMemory}
use Rattle.rfb_session.specs.console.Console.{Stays, Steps, OpensAs, DeclinesAs, DoesOnDesk, DoesAlways, KeepsDesk}
use Rattle.rfb_session.specs.console.Console.{waiting_at, seat_waits, lines_on}
use Rattle.rfb_session.specs.console.History.{Happens, Lasts, HasRead, left_in}
use Rattle.rfb_session.proofs.ConsoleMoveLemmas.{Moves, Moved, Goes, Loses, Hears, Writes, WritesOut, Turns}
use Rattle.rfb_session.proofs.ConsoleMoveLemmas.{Comes, Refuses, IsSilent, AtDoor, AtOwner, AtSeat, AtLines, AtOther}
use Rattle.rfb_session.proofs.ConsoleMoveLemmas.{at_door, if_other, came_elsewhere, left_elsewhere, none_some, alike}
use Rattle.rfb_session.proofs.FirstHappeningLemmas.{so_before}
use Rattle.rfb_session.proofs.ConsoleMoveLemmas.{on_desk, order_moves, still_none, order_none, known_stays, in_place}

-- ---- the end of all

none_of : (o last : Option Outcome) → last ≡ None → (o ≢ None → last ≡ o) → o ≡ None
none_of None last goes same = refl
none_of (Some end) last goes same = absurd (none_some last end goes (same some))
  where
    some : Some end ≢ None
    some is = cc

module _ {S : Type 0} where
  pub stays_so : (h : Happening) (old new : Console S) → Happens old h new → Stays old new
  stays_so (Told event) old new happens = happens.stays
  stays_so (Opened door from) old new happens = happens.stays
  stays_so (Declined from) old new happens = happens.stays

  -- a console that goes on in the end went on before
  pub went_on : (old new : Console S) → Stays old new → new.outcome ≡ None → old.outcome ≡ None
  went_on old new stays goes = by old.outcome refl
    where
      by : (o : Option Outcome) → old.outcome ≡ o → old.outcome ≡ None
      by None is = is
      by (Some end) is = absurd (stays.ended (λ none. none_some old.outcome end none is) goes)

  pub lasts_on : (old new : Console S) (happenings : List Happening) → Lasts old happenings new →
      new.outcome ≡ None → old.outcome ≡ None
  lasts_on old new happenings lasts goes =
      so_before Steps OpensAs DeclinesAs (λ c. c.outcome ≡ None)
      (λ a h b happens on. went_on a b (stays_so h a b happens) on) old new happenings lasts goes

-- ---- what waits

take_none : (n : ℕ) → take {A = ℕ} n [] ≡ []
take_none zero = refl
take_none (suc n) = refl

module _ {S : Type 0} where
  waits_is : (old : Console S) (k : ℕ) (a : Desk) → k < 8 → old.desk ≡ Some a →
      waiting_at old (k + 1) ≡ waits_at a.share k
  waits_is old k a within is = elim (eqb_tells (k + 1) 10) [
    | inl same ↦ absurd (omega (arith, within, same.1))
    | inr ten ↦ rw ten.0 (elim (eqb_tells (k + 1) 9) [
      | inl same ↦ absurd (omega (arith, within, same.1))
      | inr nine ↦ rw nine.0 (elim (leb_tells 1 (k + 1)) [
        | inl low ↦ rw low.0 (elim (leb_tells (k + 1) 8) [
          | inl high ↦ rw high.0 (ap (λ (o : Option Desk). seat_waits o (k + 1 - 1)) is
              ∙ ap (λ (n : ℕ). waits_at a.share n) (omega arith))
          | inr far ↦ absurd (omega (arith, within, far.1))
        ])
        | inr none ↦ absurd (omega (arith, none.1))
      ])
    ])
  ]

-- ---- what its owner is read of

first_screen : (known : Option Size) (text : List ℕ) (order : Option Order) (new : OwnerReader) (size : Size) →
    ComesFurther known text order new → order ≡ Some (Order.Line (Line.Screen size)) → known ≡ None
first_screen known text order new size comes is =
    in_place known size ((subst (λ (o : Option Order). ComesFurther known text o new) is comes).0.2.3)

last_screen : (known : Option Size) (text : List ℕ) (order : Option Order) (size : Size) →
    Closes known text order → order ≡ Some (Order.Line (Line.Screen size)) → known ≡ None
last_screen known text order size closes is =
    elim (subst (λ (o : Option Order). Closes known text o) is closes).1 [
      | inl says ↦ in_place known size says.3
      | inr cut ↦ absurd (no_line cut.0)
    ]
  where
    no_line : Order.Line (Line.Screen size) ≡ Order.Refused Bad → ⊥
    no_line same = cc

-- what has come of a line after some bytes that gave this
abbrev pub left_over : Option Order → List ℕ → List ℕ
left_over None text = text
left_over (Some order) text = []

module _ {S : Type 0} where
  -- ---- what is done at the desk

  pub moves_so : (old new : Console S) (h : Happening) (part : List ℕ) → HasRead old part → old.outcome ≡ None →
      new.outcome ≡ None → Happens old h new → Moves h old.desk new.desk
  moves_so old new (Told (Received door bytes)) part read going goes steps = by (at_door door)
    where
      heard : IsSilent (Told (Received door bytes)) → HearsOwner old bytes new →
          Moves (Told (Received door bytes)) old.desk new.desk
      heard silent (Ignored over same keeps) = absurd (over going)
      heard silent (Heard order feeds obeys input) =
          order_moves _ silent old.name.items old.rules old.desk new.desk old.outcome new.outcome going goes order
          (λ size is. read.known (first_screen old.reader.screen (part ++ bytes) order new.reader size
          (feeds.goes part read.stands) is)) obeys

      by : AtDoor door → Moves (Told (Received door bytes)) old.desk new.desk
      by (AtOwner is) = heard (came_elsewhere door bytes (inl is)) (steps.does.at_owner is)
      by (AtSeat k within is) =
          let hears = steps.does.at_seat k within is in
          on_desk _ _ old.desk new.desk old.outcome new.outcome going goes hears.4.desk (λ none. refl)
          (λ a b was done. Hears k hears.0 bytes hears.1 done.0 hears.2 within
          (ap (λ (d : ℕ). Told (Received d bytes)) is) hears.3 done.1)
      by (AtLines is) =
          alike _ old.desk new.desk (came_elsewhere door bytes (inr (omega (arith, is)))) (steps.does.at_lines is).desk
      by (AtOther far) =
          alike _ old.desk new.desk (came_elsewhere door bytes (inr (omega (arith, far))))
          (steps.does.at_other far).desk
  moves_so old new (Told (Ended door)) part read going goes steps = by (at_door door)
    where
      silent : IsSilent (Told (Ended door))
      silent = record { came = λ d some below. refl; gone = λ d some below. refl }

      ended : EndsOwner old new → Moves (Told (Ended door)) old.desk new.desk
      ended (EndedBefore before same reader) = alike _ old.desk new.desk silent same
      ended (EndsNow order closes ends obeys last input) =
          order_moves _ silent old.name.items old.rules old.desk new.desk old.outcome ends going
          (none_of ends new.outcome goes last) order
          (λ size is. read.known (last_screen old.reader.screen part order size (closes.gives part read.stands) is))
          obeys

      by : AtDoor door → Moves (Told (Ended door)) old.desk new.desk
      by (AtOwner is) = ended (steps.does.at_owner is)
      by (AtSeat k within is) =
          on_desk _ _ old.desk new.desk old.outcome new.outcome going goes (steps.does.at_seat k within is).desk
          (λ none. refl) (λ a b was done. Goes k done.0 silent done.1)
      by (AtLines is) = alike _ old.desk new.desk silent (steps.does.at_lines is).desk
      by (AtOther far) = alike _ old.desk new.desk silent (steps.does.at_other far).desk
  moves_so old new (Told (Failed door)) part read going goes steps = by (at_door door)
    where
      silent : IsSilent (Told (Failed door))
      silent = record { came = λ d some below. refl; gone = λ d some below. refl }

      by : AtDoor door → Moves (Told (Failed door)) old.desk new.desk
      by (AtOwner is) = alike _ old.desk new.desk silent (steps.does.at_owner is).desk
      by (AtSeat k within is) =
          on_desk _ _ old.desk new.desk old.outcome new.outcome going goes (steps.does.at_seat k within is).desk
          (λ none. refl) (λ a b was done. Loses k done.0 silent done.1)
      by (AtLines is) = alike _ old.desk new.desk silent (steps.does.at_lines is).0.desk
      by (AtOther far) = alike _ old.desk new.desk silent (steps.does.at_other far).desk
  moves_so old new (Told (Wrote door bytes)) part read going goes steps = by (at_door door)
    where
      none_there : door ≡ 9 → old.desk ≡ None → left_in 9 (Told (Wrote door bytes)) ≡ []
      none_there is none = elim (eqb_tells 9 door) [
        | inl same ↦ rw same.0 (steps.left
            ∙ ap (λ (d : ℕ). take (length bytes) (waiting_at old d)) is
            ∙ ap (λ (o : Option Desk). take (length bytes) (lines_on o)) none
            ∙ take_none (length bytes))
        | inr other ↦ absurd (other.1 (sym is))
      ]

      by : AtDoor door → Moves (Told (Wrote door bytes)) old.desk new.desk
      by (AtOwner is) = alike _ old.desk new.desk (left_elsewhere door bytes (inl is)) (steps.does.at_owner is).desk
      by (AtSeat k within is) =
          on_desk _ _ old.desk new.desk None None refl refl (steps.does.at_seat k within is).desk
          (λ none. if_other 9 door bytes (λ same. omega (arith, same, within, is)))
          (λ a b was writes. Writes k bytes within (ap (λ (d : ℕ). Told (Wrote d bytes)) is)
          (steps.left ∙ ap (λ (d : ℕ). take (length bytes) (waiting_at old d)) is
          ∙ ap (λ (l : List ℕ). take (length bytes) l) (waits_is old k a within was)) writes)
      by (AtLines is) =
          on_desk _ _ old.desk new.desk None None refl refl (steps.does.at_lines is).desk (none_there is)
          (λ a b was writes. WritesOut bytes (ap (λ (d : ℕ). Told (Wrote d bytes)) is)
          (steps.left ∙ ap (λ (d : ℕ). take (length bytes) (waiting_at old d)) is
          ∙ ap (λ (o : Option Desk). take (length bytes) (lines_on o)) was) writes)
      by (AtOther far) =
          alike _ old.desk new.desk (left_elsewhere door bytes (inr far)) (steps.does.at_other far).desk
  moves_so old new (Told (Turned now)) part read going goes steps =
      on_desk _ _ old.desk new.desk old.outcome new.outcome going goes steps.does.0.desk (λ none. refl)
      (λ a b was done. Turns now done.0 done.1 refl
      (record { came = λ d some below. refl; gone = λ d some below. refl }) done.2)
  moves_so old new (Opened door from) part read going goes opens =
      Moved opens.was opens.now opens.was_there opens.is_there
      (Comes from opens.seat opens.left (ap (λ (d : ℕ). Opened d from) opens.door_is) opens.admits)
  moves_so old new (Declined from) part read going goes declines = by declines.declines
    where
      silent : IsSilent (Declined from)
      silent = record { came = λ d some below. refl; gone = λ d some below. refl }

      by : Declines old from new → Moves (Declined from) old.desk new.desk
      by (NotYet keeps) = alike _ old.desk new.desk silent keeps.desk
      by (IsFull was now was_there is_there left admits owner) =
          Moved was now was_there is_there (Refuses from left silent admits)
      by (WantsMemory wants) = absurd (none_some new.outcome _ goes wants)

-- ---- what is read

-- it is neither bytes of the owner's nor their end
abbrev pub IsBeside : Happening → Type 0
IsBeside (Told (Received door bytes)) = door ≢ 0
IsBeside (Told (Ended door)) = door ≢ 0
IsBeside (Told (Failed door)) = Unit {0}
IsBeside (Told (Wrote door bytes)) = Unit {0}
IsBeside (Told (Turned now)) = Unit {0}
IsBeside (Opened door from) = Unit {0}
IsBeside (Declined from) = Unit {0}

module _ {S : Type 0} where
  -- the owner is read no further by it
  pub record IsKept (old new : Console S) : Type 0 where
    pub reader : new.reader ≡ old.reader
    pub none : old.desk ≡ None → new.desk ≡ None

  kept_desk : (old new : Console S) → KeepsDesk old new → IsKept old new
  kept_desk old new keeps = record { reader = keeps.owner.reader; none = λ none. keeps.desk ∙ none }

  kept_on : (does : Desk → Desk → Type 0) (old new : Console S) → new.outcome ≡ None → DoesOnDesk does old new →
      IsKept old new
  kept_on does old new goes done = record {
    reader = done.owner.reader;
    none = λ none. still_none [] old.rules old.desk new.desk old.outcome new.outcome none goes does done.desk;
  }

  kept_always : (does : Desk → Desk → Type 0) (old new : Console S) → DoesAlways does old new → IsKept old new
  kept_always does old new done = record {
    reader = done.owner.reader;
    none = λ none. still_none [] old.rules old.desk new.desk None None none refl does done.desk;
  }

  pub kept_so : (old new : Console S) (h : Happening) → new.outcome ≡ None → Happens old h new → IsBeside h →
      IsKept old new
  kept_so old new (Told (Received door bytes)) goes steps beside = by (at_door door)
    where
      by : AtDoor door → IsKept old new
      by (AtOwner is) = absurd (beside is)
      by (AtSeat k within is) = kept_on _ old new goes (steps.does.at_seat k within is).4
      by (AtLines is) = kept_desk old new (steps.does.at_lines is)
      by (AtOther far) = kept_desk old new (steps.does.at_other far)
  kept_so old new (Told (Ended door)) goes steps beside = by (at_door door)
    where
      by : AtDoor door → IsKept old new
      by (AtOwner is) = absurd (beside is)
      by (AtSeat k within is) = kept_on _ old new goes (steps.does.at_seat k within is)
      by (AtLines is) = kept_desk old new (steps.does.at_lines is)
      by (AtOther far) = kept_desk old new (steps.does.at_other far)
  kept_so old new (Told (Failed door)) goes steps beside = by (at_door door)
    where
      by : AtDoor door → IsKept old new
      by (AtOwner is) =
          let loses = steps.does.at_owner is in
          record { reader = loses.reader; none = λ none. loses.desk ∙ none }
      by (AtSeat k within is) = kept_on _ old new goes (steps.does.at_seat k within is)
      by (AtLines is) = kept_desk old new (steps.does.at_lines is).0
      by (AtOther far) = kept_desk old new (steps.does.at_other far)
  kept_so old new (Told (Wrote door bytes)) goes steps beside = by (at_door door)
    where
      by : AtDoor door → IsKept old new
      by (AtOwner is) = kept_desk old new (steps.does.at_owner is)
      by (AtSeat k within is) = kept_always _ old new (steps.does.at_seat k within is)
      by (AtLines is) = kept_always _ old new (steps.does.at_lines is)
      by (AtOther far) = kept_desk old new (steps.does.at_other far)
  kept_so old new (Told (Turned now)) goes steps beside = kept_on _ old new goes steps.does.0
  kept_so old new (Opened door from) goes opens beside = record {
    reader = opens.owner.reader;
    none = λ none. absurd (none_some old.desk opens.was none opens.was_there);
  }
  kept_so old new (Declined from) goes declines beside = by declines.declines
    where
      by : Declines old from new → IsKept old new
      by (NotYet keeps) = kept_desk old new keeps
      by (IsFull was now was_there is_there left admits owner) =
          record { reader = owner.reader; none = λ none. absurd (none_some old.desk was none was_there) }
      by (WantsMemory wants) = absurd (none_some new.outcome _ goes wants)

  pub kept_read : (old new : Console S) (part : List ℕ) → IsKept old new → HasRead old part → HasRead new part
  kept_read old new part keeps read = record {
    stands = subst (λ (r : OwnerReader). ComesTo r.screen part r.stage) (sym keeps.reader) read.stands;
    known = λ unknown.
        keeps.none (read.known (ap (λ (r : OwnerReader). r.screen) (sym keeps.reader) ∙ unknown));
  }

  -- bytes of its owner's: they join what has come of a line, or end it
  pub heard_read : (old new : Console S) (part bytes : List ℕ) (order : Option Order) → new.outcome ≡ None →
      HasRead old part → Feeds old.reader bytes order new.reader →
      ObeysSome old.name.items old.rules order old.desk old.outcome new.desk new.outcome →
      HasRead new (left_over order (part ++ bytes))
  heard_read old new part bytes order goes read feeds obeys = record {
    stands = stands order refl;
    known = λ none.
        let unknown : known_after old.reader.screen order ≡ None = sym feeds.known ∙ none in
        order_none old.name.items old.rules old.desk new.desk old.outcome new.outcome
        (read.known (known_stays old.reader.screen order unknown)) goes old.reader.screen order unknown obeys;
  }
    where
      stands : (o : Option Order) → order ≡ o →
          ComesTo new.reader.screen (left_over order (part ++ bytes)) new.reader.stage
      stands None is =
          let comes : ComesTo old.reader.screen (part ++ bytes) new.reader.stage =
          subst (λ (x : Option Order). ComesFurther old.reader.screen (part ++ bytes) x new.reader) is
          (feeds.goes part read.stands) in
          let same : new.reader.screen ≡ old.reader.screen = feeds.known
          ∙ ap (λ (x : Option Order). known_after old.reader.screen x) is in
          subst (λ (x : Option Order). ComesTo new.reader.screen (left_over x (part ++ bytes)) new.reader.stage)
          (sym is) (subst (λ (s : Option Size). ComesTo s (part ++ bytes) new.reader.stage) (sym same) comes)
      stands (Some given) is =
          let comes : ComesFurther old.reader.screen (part ++ bytes) (Some given) new.reader =
          subst (λ (x : Option Order). ComesFurther old.reader.screen (part ++ bytes) x new.reader) is
          (feeds.goes part read.stands) in
          subst (λ (x : Option Order). ComesTo new.reader.screen (left_over x (part ++ bytes)) new.reader.stage)
          (sym is) comes.1

  -- the end of them: what has come of a line is one, or nothing is
  pub ended_read : (old new : Console S) (part : List ℕ) → new.outcome ≡ None → HasRead old part →
      EndsOwner old new → (next : List ℕ) × HasRead new next
  ended_read old new part goes read (EndedBefore before same reader) =
      (part, kept_read old new part (record { reader = reader; none = λ none. same ∙ none }) read)
  ended_read old new part goes read (EndsNow order closes ends obeys last input) = (
    [],
    record {
      stands = closes.fresh new.reader.screen;
      known = λ none.
          let unknown : known_after old.reader.screen order ≡ None = sym closes.known ∙ none in
          order_none old.name.items old.rules old.desk new.desk old.outcome ends
          (read.known (known_stays old.reader.screen order unknown)) (none_of ends new.outcome goes last)
          old.reader.screen order unknown obeys;
    },
  )

  pub read_on : (old new : Console S) (h : Happening) (part : List ℕ) → HasRead old part → old.outcome ≡ None →
      new.outcome ≡ None → Happens old h new → (next : List ℕ) × HasRead new next
  read_on old new (Told (Received zero bytes)) part read going goes steps = heard (steps.does.at_owner refl)
    where
      heard : HearsOwner old bytes new → (next : List ℕ) × HasRead new next
      heard (Ignored over same keeps) = absurd (over going)
      heard (Heard order feeds obeys input) =
          (left_over order (part ++ bytes), heard_read old new part bytes order goes read feeds obeys)
  read_on old new (Told (Ended zero)) part read going goes steps =
      ended_read old new part goes read (steps.does.at_owner refl)
  read_on old new (Told (Received (suc door) bytes)) part read going goes steps = (
    part,
    kept_read old new part (kept_so old new (Told (Received (suc door) bytes)) goes steps
        (λ is. omega (arith, is))) read,
  )
  read_on old new (Told (Ended (suc door))) part read going goes steps = (
    part,
    kept_read old new part (kept_so old new (Told (Ended (suc door))) goes steps (λ is. omega (arith, is)))
        read,
  )
  read_on old new (Told (Failed door)) part read going goes steps =
      (part, kept_read old new part (kept_so old new (Told (Failed door)) goes steps tt) read)
  read_on old new (Told (Wrote door bytes)) part read going goes steps =
      (part, kept_read old new part (kept_so old new (Told (Wrote door bytes)) goes steps tt) read)
  read_on old new (Told (Turned now)) part read going goes steps =
      (part, kept_read old new part (kept_so old new (Told (Turned now)) goes steps tt) read)
  read_on old new (Opened door from) part read going goes opens =
      (part, kept_read old new part (kept_so old new (Opened door from) goes opens tt) read)
  read_on old new (Declined from) part read going goes declines =
      (part, kept_read old new part (kept_so old new (Declined from) goes declines tt) read)
