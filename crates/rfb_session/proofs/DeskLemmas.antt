-- What the calls of a desk lead to, one after the other.
use Rattle.std.proofs.Common.{◌≡◌, ◌-◌, ◌++◌, ◌∙◌, ℕ, Bool, true, false}
use Rattle.std.proofs.Common.{not, ◌&&◌, ◌||◌, List, []}
use Rattle.std.proofs.Common.{zero, suc}
use Rattle.std.proofs.Common.{refl, sym, ap, subst, append_assoc, arith, inl, inr, length, cond, Option, None}
use Rattle.std.proofs.lemmas.Bool.{false≢true}
use Rattle.std.proofs.lemmas.List.{length-append}
use Rattle.std.proofs.lemmas.Bool.Decides.{eqb_tells, leb_tells}
use Rattle.rfb_pixel.specs.declared.colour.Colour.{Colour}
use Rattle.rfb_picture.specs.Grid.{Grid}
use Rattle.rfb_picture.specs.Places.{has_bit}
use Rattle.rfb_wire.specs.stream.FaultPlace.{counted_on}
use Rattle.rfb_session.specs.declared.console.desk.Desk.{Desk}
use Rattle.rfb_session.specs.declared.console.guest.Guest.{Guest}
use Rattle.rfb_session.specs.declared.console.guest.Progress.{Progress}
use Rattle.rfb_session.specs.declared.console.guest.Progress.TheVariants.{Failing}
use Rattle.rfb_session.specs.declared.console.plan.Rules.{Rules}
use Rattle.rfb_session.specs.declared.share.Share.{Share}
use Rattle.rfb_session.specs.declared.share.event.Heard.{Heard}
use Rattle.rfb_session.specs.declared.share.event.ShareFault.{ShareFault}
use Rattle.rfb_session.specs.declared.share.seat.ShareSeat.{ShareSeat}
use Rattle.rfb_session.specs.ShareWork.{RestsIn}
use Rattle.rfb_session.specs.ShareSteps.{HearsBy, KeepsScreen, RefusesAs, asks_alone}
use Rattle.rfb_session.specs.owner.ShareLines.{leave_line}
use Rattle.rfb_session.specs.console.SeatLines.{leave_lines, told_line}
use Rattle.rfb_session.specs.console.Desk.{nobody, guest_at, lines_of, is_over, tells_in, KeepsRules}
use Rattle.rfb_session.specs.console.Viewers.{Parts, TellsEvent, CountsTold}
use Rattle.rfb_session.specs.console.Updates.{KeepsBeside, TriesOne}
use Rattle.rfb_session.specs.console.Updates.{Serves, Rested, Tried, Wanted}
use Rattle.rfb_session.specs.console.Viewers.{TellsOf, Fails, Stirs, HearsAt, Took, Refused, progress_after}
use Rattle.rfb_session.specs.console.Viewers.{told_after}

-- one seat more
pub serves_one : (screen : Grid Colour) (tries wants more : Bool) (a b : Option ShareSeat) →
    (tries ≡ false → RestsIn screen a) → (wants ≡ true → more ≡ true) →
    TriesOne screen tries wants a b →
    Serves screen more a b
serves_one screen false wants more a b rests told same = Rested (rests refl) same
serves_one screen true false more a b rests told tried = Tried tried.0 tried.1
serves_one screen true true more a b rests told wanted = Wanted (told refl) wanted

pub serves_more : (screen : Grid Colour) (wants more : Bool) (a b : Option ShareSeat) →
    (wants ≡ true → more ≡ true) →
    Serves screen wants a b → Serves screen more a b
serves_more screen wants more a b told (Rested rests same) = Rested rests same
serves_more screen wants more a b told (Tried found composes) = Tried found composes
serves_more screen wants more a b told (Wanted is wanted) = Wanted (told is) wanted

pub or_first : (a b : Bool) → a ≡ true → (a || b) ≡ true
or_first true b is = refl
or_first false b is = absurd (false≢true is)

pub or_second : (a b : Bool) → b ≡ true → (a || b) ≡ true
or_second true b is = refl
or_second false b is = is

-- what is shown, and what is beside the seats, stays by one thing and by another
pub both_stay : (a b c : Desk) → KeepsScreen a.share b.share → KeepsBeside a b → KeepsScreen b.share c.share →
    KeepsBeside b c → KeepsScreen a.share c.share × KeepsBeside a c
both_stay a b c shown before shows after = (
  record {
    screen = shows.screen ∙ shown.screen;
    canvas = shows.canvas ∙ shown.canvas;
    viewer = shows.viewer ∙ shown.viewer;
    made = shows.made ∙ shown.made;
  },
  record {
    guests = λ k. after.guests k ∙ before.guests k;
    lines = after.lines ∙ before.lines;
    rules = record {
      rules = after.rules.rules ∙ before.rules.rules;
      hold = after.rules.hold ∙ before.rules.hold;
      first = after.rules.first ∙ before.rules.first;
      large = after.rules.large ∙ before.rules.large;
    };
  },
)

-- ---- bytes of a viewer

-- what is not among those that part stays
parts_not : (k set : ℕ) (old new : Desk) → Parts old set new → has_bit set k ≡ false →
    guest_at new k ≡ guest_at old k
parts_not k set old new parts none = elim (leb_tells 8 k) [
  | inl far ↦ parts.forgets.later k far.1
  | inr near ↦ parts.forgets.guests k (omega (arith, near.1))
      ∙ ap (λ (b : Bool). cond b nobody (guest_at old k)) none
]

longer_by : (l whole more : List ℕ) → whole ≡ l ++ more → length whole - length l ≡ length more
longer_by l whole more is = omega (arith, ap (λ (w : List ℕ). length w) is, length-append l more)

pub tells_of_is : (old mid told new : Desk) (k : ℕ) (heard : Heard) → Parts old heard.ended mid →
    TellsEvent mid k heard.event told → CountsTold told k (length (lines_of mid)) new → TellsOf old k heard new
tells_of_is old mid told new k heard parts tells counts = record {
  share = counts.share ∙ tells.share ∙ parts.share;
  progress = λ none. counts.progress ∙ tells.progress
      ∙ ap (λ (g : Guest). progress_after heard.event g.progress)
      (parts_not k heard.ended old mid parts none);
  since = λ none. counts.since ∙ tells.since
      ∙ ap (λ (g : Guest). g.since) (parts_not k heard.ended old mid parts none);
  idle = λ none. counts.idle ∙ tells.idle
      ∙ ap (λ (g : Guest). g.idle) (parts_not k heard.ended old mid parts none);
  told = λ none. counts.told
      ∙ ap (λ (n : ℕ). counted_on n (length (lines_of told) - length (lines_of mid)))
      (tells.told ∙ ap (λ (g : Guest). g.told) (parts_not k heard.ended old mid parts none))
      ∙ ap (λ (n : ℕ). counted_on (guest_at old k).told n)
      (longer_by (lines_of mid) (lines_of told) (told_line mid.rules.view_only k heard.event) tells.lines)
      ∙ ap (λ (r : Rules). told_after r.view_only k heard.event (guest_at old k).told) parts.forgets.rules.rules;
  others = λ j within other. counts.others j other ∙ tells.others j other ∙ parts.forgets.guests j within;
  lines = counts.lines ∙ tells.lines
      ∙ ap (λ (l : List ℕ). l ++ told_line mid.rules.view_only k heard.event) parts.forgets.lines
      ∙ append_assoc (lines_of old) (leave_lines (tells_in old heard.ended) 8)
      (told_line mid.rules.view_only k heard.event)
      ∙ ap (λ (r : Rules). lines_of old
      ++ (leave_lines (tells_in old heard.ended) 8 ++ told_line r.view_only k heard.event))
      parts.forgets.rules.rules;
  rules = record {
    rules = counts.rules.rules ∙ tells.rules.rules ∙ parts.forgets.rules.rules;
    hold = counts.rules.hold ∙ tells.rules.hold ∙ parts.forgets.rules.hold;
    first = counts.rules.first ∙ tells.rules.first ∙ parts.forgets.rules.first;
    large = counts.rules.large ∙ tells.rules.large ∙ parts.forgets.rules.large;
  };
}

and_false : (x : Bool) → (x && false) ≡ false
and_false true = refl
and_false false = refl

-- whoever wishes to be alone is not disconnected for it
pub not_itself : (heeds : Bool) (old new : Share) (k : ℕ) (bytes : List ℕ) (heard : Heard) →
    HearsBy heeds old k bytes heard new → has_bit heard.ended k ≡ false
not_itself heeds old new k bytes heard hears = elim (eqb_tells k k) [
  | inl same ↦ hears.ended k
      ∙ rw same.0 (and_false (heeds && asks_alone hears.told))
  | inr other ↦ absurd (other.1 refl)
]

leave_lines_same : (f g : ℕ → Bool) → ((k : ℕ) → f k ≡ g k) → (n : ℕ) →
    leave_lines f n ≡ leave_lines g n
leave_lines_same f g same zero = refl
leave_lines_same f g same (suc n) =
    ap (λ (l : List ℕ). l ++ cond (f n) (leave_line n) []) (leave_lines_same f g same n)
    ∙ ap (λ (b : Bool). leave_lines g n ++ cond b (leave_line n) []) (same n)

module _ (old mid heard_by new : Desk) (k : ℕ) (bytes : List ℕ) (stirs : Stirs old k mid)
    (guests : (j : ℕ) → guest_at heard_by j ≡ guest_at mid j) (lines : lines_of heard_by ≡ lines_of mid)
    (rules : KeepsRules mid heard_by) where
  same_progress : (j : ℕ) → (guest_at heard_by j).progress ≡ (guest_at old j).progress
  same_progress j = elim (eqb_tells j k) [
    | inl same ↦ ap (λ (g : Guest). g.progress) (guests j)
        ∙ subst (λ (n : ℕ). (guest_at mid n).progress ≡ (guest_at old n).progress) (sym same.1) stirs.progress
    | inr other ↦ ap (λ (g : Guest). g.progress) (guests j ∙ stirs.others j other.0)
  ]

  pub hears_took : (heard : Heard) →
      HearsBy (not mid.rules.always_shared) mid.share k bytes heard heard_by.share →
      TellsOf heard_by k heard new → HearsAt old k bytes heard.used heard.ended heard.event new
  hears_took heard hears tells =
      let made = rules.rules ∙ stirs.rules.rules in
      Took heard refl refl refl
      (subst (λ (s : Share). HearsBy (not old.rules.always_shared) old.share k bytes heard s)
      (sym tells.share)
      (rw (ap (λ (r : Rules). r.always_shared) (sym stirs.rules.rules), sym stirs.share) hears))
      (tells.progress (not_itself (not mid.rules.always_shared) mid.share heard_by.share k bytes heard hears)
      ∙ ap (λ (g : Guest). progress_after heard.event g.progress) (guests k)
      ∙ ap (λ (p : Progress). progress_after heard.event p) stirs.progress)
      (tells.told (not_itself (not mid.rules.always_shared) mid.share heard_by.share k bytes heard hears)
      ∙ ap (λ (g : Guest). told_after heard_by.rules.view_only k heard.event g.told) (guests k)
      ∙ ap (λ (n : ℕ). told_after heard_by.rules.view_only k heard.event n) stirs.told
      ∙ ap (λ (r : Rules). told_after r.view_only k heard.event (guest_at old k).told) made)
      (λ j within other. tells.others j within other
      ∙ ap (λ (g : Guest). cond (has_bit heard.ended j) nobody g) (guests j ∙ stirs.others j other))
      (tells.lines
      ∙ ap (λ (l : List ℕ). l ++ (leave_lines (tells_in heard_by heard.ended) 8
      ++ told_line heard_by.rules.view_only k heard.event)) (lines ∙ stirs.lines)
      ∙ ap (λ (l : List ℕ). lines_of old ++ (l ++ told_line heard_by.rules.view_only k heard.event))
      (leave_lines_same (tells_in heard_by heard.ended) (tells_in old heard.ended)
      (λ j. ap (λ (p : Progress). has_bit heard.ended j && not (is_over p)) (same_progress j)) 8)
      ∙ ap (λ (r : Rules). lines_of old
      ++ (leave_lines (tells_in old heard.ended) 8 ++ told_line r.view_only k heard.event)) made)
      (record {
        rules = tells.rules.rules ∙ made;
        hold = tells.rules.hold ∙ rules.hold ∙ stirs.rules.hold;
        first = tells.rules.first ∙ rules.first ∙ stirs.rules.first;
        large = tells.rules.large ∙ rules.large ∙ stirs.rules.large;
      })

  pub hears_not : (fault : ShareFault) (ended : ℕ) (told : Bool) →
      RefusesAs mid.share k bytes fault heard_by.share → ((j : ℕ) → has_bit ended j ≡ false) →
      Fails heard_by k told new → HearsAt old k bytes (length bytes) ended None new
  hears_not fault ended told refuses none fails =
      let was : (guest_at heard_by k).progress ≡ (guest_at old k).progress =
      ap (λ (g : Guest). g.progress) (guests k) ∙ stirs.progress in
      let over : told ≡ not (is_over (guest_at old k).progress) =
      fails.told_is ∙ ap (λ (p : Progress). not (is_over p)) was in
      let same = lines ∙ stirs.lines in
      Refused fault refl none refl
      (subst (λ (s : Share). RefusesAs old.share k bytes fault s) (sym fails.share)
      (rw (sym stirs.share) refuses))
      (record {
        line = λ going.
            let told_now : told ≡ true = over ∙ ap (λ (b : Bool). not b) going in
            let line = fails.lines.line told_now in
            (line.0, line.1, line.2 ∙ ap (λ (l : List ℕ). l ++ line.0) same);
        none = λ gone. fails.lines.none (over ∙ ap (λ (b : Bool). not b) gone) ∙ same;
      })
      (fails.progress ∙ ap (λ (p : Progress). cond told Failing p) was
      ∙ ap (λ (b : Bool). cond b Failing (guest_at old k).progress) over
      ∙ failed_so (is_over (guest_at old k).progress) (guest_at old k).progress)
      (λ j other. fails.others j other ∙ guests j ∙ stirs.others j other)
      (record {
        rules = fails.rules.rules ∙ rules.rules ∙ stirs.rules.rules;
        hold = fails.rules.hold ∙ rules.hold ∙ stirs.rules.hold;
        first = fails.rules.first ∙ rules.first ∙ stirs.rules.first;
        large = fails.rules.large ∙ rules.large ∙ stirs.rules.large;
      })
    where
      failed_so : (over : Bool) (p : Progress) → cond (not over) Failing p ≡ cond over p Failing
      failed_so true p = refl
      failed_so false p = refl
