-- Runs of a hub's script, and what is reported of its lines.
use Rattle.std.proofs.Common.{◌≡◌, ◌+◌, ◌∙◌, ap, sym, refl, subst, inl, inr, ◌⊎◌, zero, suc, ℕ, Option, None, List, []}
use Rattle.std.proofs.Common.{◌∷◌, ◌++◌, OnErr, Result, Ok, Err, append_assoc, bit_or, arith}
use Rattle.std.proofs.lemmas.List.{flat_map_more}
use Rattle.rfb_picture.specs.Grid.{uniform}
use Rattle.rfb_server.specs.Server.{black}
use Rattle.rfb_server.specs.Model.{serving_with}
use Rattle.rfb_server.proofs.ServerLaws.{session_going}
use Rattle.rfb_viewer.proofs.ViewerLaws.{viewer_going}
use Rattle.rfb_hello.specs.declared.version.Version.TheVariants.{V38}
use Rattle.rfb_session.specs.Devices.{AppendsBeginning}
use Rattle.rfb_session.specs.declared.hub.Hub.{Hub}
use Rattle.rfb_session.specs.declared.hub.event.HubEvent.{HubEvent}
use Rattle.rfb_session.specs.declared.hub.event.HubEvent.TheVariants.{Of}
use Rattle.rfb_session.specs.declared.hub.event.HubFault.{HubFault}
use Rattle.rfb_session.specs.declared.hub.event.HubTold.{HubTold}
use Rattle.rfb_session.specs.declared.hub.event.SlotEvent.TheVariants.{ToServer, ToViewer}
use Rattle.rfb_session.specs.Hub.{AllHeadlines, HubStands, IsEmptyHub, serving_in}
use Rattle.rfb_session.specs.HubSeats.{ends_of}
use Rattle.rfb_session.specs.HubSteps.{HubPlayed, HubSteps, RunsHub}
use Rattle.rfb_session.specs.Played.{name}
use Rattle.rfb_session.proofs.NetworkLaws.{headline_holds}
use Rattle.rfb.specs.declared.fault.Fault.{Fault}
use Rattle.rfb.specs.declared.script.hub_steps.LineTold.{LineTold}
use Rattle.rfb.specs.declared.script.hub.hub_step.HubNumbered.{HubNumbered}
use Rattle.rfb_session.specs.declared.language.screen.Screen.{Screen as Size}
use Rattle.rfb.specs.Plays.{HubPlayedTo, ShowsSlotTo}
use Rattle.rfb.specs.HubRun.{LeadsHub, RunsTelling, TellsLine, deliveries_in, ended_with, hub_events, hub_events_of}
use Rattle.rfb.specs.HubRun.{or_refusal, refusal_with}

-- ---- runs

pub runs_append : (a b c : Hub) (xs ys : List HubEvent) → RunsHub a xs b → RunsHub b ys c → RunsHub a (xs ++ ys) c
runs_append a b c [] ys is runs = subst (λ (h : Hub). RunsHub h ys c) is runs
runs_append a b c (event ∷ xs) ys (mid, told, step, more) runs = (mid, told, step, runs_append mid b c xs ys more runs)

pub leads_none : (hub : Hub) → LeadsHub hub [] hub
leads_none hub = record { runs = refl; stands = λ s. s }

pub leads_append : (a b c : Hub) (xs ys : List HubEvent) → LeadsHub a xs b → LeadsHub b ys c → LeadsHub a (xs ++ ys) c
leads_append a b c xs ys one two = record {
  runs = runs_append a b c xs ys one.runs two.runs;
  stands = λ s. two.stands (one.stands s);
}

pub leads_one : (old new : Hub) (event : HubEvent) (told : HubTold) → HubSteps old event told new →
    (HubStands old → HubStands new) → LeadsHub old (event ∷ []) new
leads_one old new event told step stands = record { runs = (new, told, step, refl); stands = stands }

pub leads_two : (a b c : Hub) (e f : HubEvent) (t u : HubTold) → HubSteps a e t b → HubSteps b f u c →
    (HubStands a → HubStands b) → (HubStands b → HubStands c) → LeadsHub a (e ∷ f ∷ []) c
leads_two a b c e f t u one two first second =
    record { runs = (b, t, one, (c, u, two, refl)); stands = λ s. second (first s) }

-- ---- what is reported of a line

refusal_more : (first : Option HubFault) (all : List HubTold) (told : HubTold) →
    refusal_with first (all ++ told ∷ []) ≡ or_refusal (refusal_with first all) told.refused
refusal_more first [] told = refl
refusal_more first (one ∷ all) told = refusal_more (or_refusal first one.refused) all told

ended_more : (ended : ℕ) (all : List HubTold) (told : HubTold) →
    ended_with ended (all ++ told ∷ []) ≡ bit_or (ended_with ended all) told.ended
ended_more ended [] told = refl
ended_more ended (one ∷ all) told = ended_more (bit_or ended one.ended) all told

telling_more : (old mid new : Hub) (events : List HubEvent) (all : List HubTold) (event : HubEvent) (told : HubTold) →
    RunsTelling old events all mid → HubSteps mid event told new →
    RunsTelling old (events ++ event ∷ []) (all ++ told ∷ []) new
telling_more old mid new [] [] event told is step = (new, subst (λ (h : Hub). HubSteps h event told new) is step, refl)
telling_more old mid new [] (one ∷ all) event told runs step = absurd runs
telling_more old mid new (e ∷ events) [] event told runs step = absurd runs
telling_more old mid new (e ∷ events) (one ∷ all) event told runs step =
    (runs.0, runs.1, telling_more runs.0 mid new events all event told runs.2 step)

pub tells_none : (hub : Hub) (line : LineTold) → line.refused ≡ None → line.ended ≡ 0 → TellsLine hub [] line hub
tells_none hub line refused ended = record { all = []; runs = refl; refused = refused; ended = ended }

pub tells_more : (old mid new : Hub) (events : List HubEvent) (line more : LineTold)
    (event : HubEvent) (told : HubTold) → TellsLine old events line mid → HubSteps mid event told new →
    more.refused ≡ or_refusal line.refused told.refused → more.ended ≡ bit_or line.ended told.ended →
    TellsLine old (events ++ event ∷ []) more new
tells_more old mid new events line more event told tells step refused ended = record {
  all = tells.all ++ told ∷ [];
  runs = telling_more old mid new events tells.all event told tells.runs step;
  refused = refused ∙ ap (λ (r : Option HubFault). or_refusal r told.refused) tells.refused
      ∙ sym (refusal_more None tells.all told);
  ended = ended ∙ ap (λ (n : ℕ). bit_or n told.ended) tells.ended ∙ sym (ended_more 0 tells.all told);
}

pub tells_one : (old new : Hub) (line more : LineTold) (event : HubEvent) (told : HubTold) → line.refused ≡ None →
    line.ended ≡ 0 → HubSteps old event told new → more.refused ≡ or_refusal line.refused told.refused →
    more.ended ≡ bit_or line.ended told.ended → TellsLine old (event ∷ []) more new
tells_one old new line more event told none empty step refused ended =
    tells_more old old new [] line more event told (tells_none old line none empty) step refused ended

-- ---- a settle

pub deliveries_more : (slot n : ℕ) → deliveries_in slot n
    ++ (Of slot (ToServer 4294967295) ∷ Of slot (ToViewer 4294967295) ∷ []) ≡ deliveries_in slot (suc n)
deliveries_more slot zero = refl
deliveries_more slot (suc n) = ap
    (λ (l : List HubEvent). Of slot (ToServer 4294967295) ∷ Of slot (ToViewer 4294967295) ∷ l) (deliveries_more slot n)

next_turn : (slot n : ℕ) → deliveries_in slot n ++ (Of slot (ToServer 4294967295) ∷ Of slot (ToViewer 4294967295) ∷ [])
    ≡ deliveries_in slot (n + 1)
next_turn slot n = deliveries_more slot n ∙ ap (λ (k : ℕ). deliveries_in slot k) next
  where
    next : suc n ≡ n + 1
    next = omega arith

pub turn_leads : (slot n : ℕ) (old a b c : Hub) (e f : HubEvent) (t u : HubTold) → e ≡ Of slot (ToServer 4294967295) →
    f ≡ Of slot (ToViewer 4294967295) → LeadsHub old (deliveries_in slot n) a → HubSteps a e t b → HubSteps b f u c →
    (HubStands a → HubStands b) → (HubStands b → HubStands c) → LeadsHub old (deliveries_in slot (n + 1)) c
turn_leads slot n old a b c e f t u is_e is_f leads one two first second =
    subst (λ (events : List HubEvent). LeadsHub old events c) (next_turn slot n)
    (leads_append old a c (deliveries_in slot n)
    (Of slot (ToServer 4294967295) ∷ Of slot (ToViewer 4294967295) ∷ []) leads
    (leads_two a b c (Of slot (ToServer 4294967295)) (Of slot (ToViewer 4294967295)) t u (rw is_e at one)
    (rw is_f at two) first second))

pub turn_tells : (slot n : ℕ) (old a b c : Hub) (x y z : LineTold) (e f : HubEvent) (t u : HubTold) →
    e ≡ Of slot (ToServer 4294967295) → f ≡ Of slot (ToViewer 4294967295) → TellsLine old (deliveries_in slot n) x a →
    HubSteps a e t b → HubSteps b f u c
    → y.refused ≡ or_refusal x.refused t.refused → y.ended ≡ bit_or x.ended t.ended →
    z.refused ≡ or_refusal y.refused u.refused → z.ended ≡ bit_or y.ended u.ended →
    TellsLine old (deliveries_in slot (n + 1)) z c
turn_tells slot n old a b c x y z e f t u is_e is_f tells one two yr ye zr ze =
    let s = Of slot (ToServer 4294967295) in
    let v = Of slot (ToViewer 4294967295) in
    let first = tells_more old a b (deliveries_in slot n) x y s t tells (rw is_e at one) yr ye in
    let second = tells_more old b c (deliveries_in slot n ++ s ∷ []) y z v u first (rw is_f at two) zr ze in
    subst (λ (events : List HubEvent). TellsLine old events z c)
    (append_assoc (deliveries_in slot n) (s ∷ []) (v ∷ []) ∙ next_turn slot n) second

pub eight_leads : (slot n : ℕ) (old new : Hub) → n ≡ 8 → LeadsHub old (deliveries_in slot n) new →
    LeadsHub old (deliveries_in slot 8) new
eight_leads slot n old new is leads = subst (λ (k : ℕ). LeadsHub old (deliveries_in slot k) new) is leads

-- ---- all steps

pub hub_all_more : (steps : List HubNumbered) (step : HubNumbered) →
    hub_events (steps ++ step ∷ []) ≡ hub_events steps ++ hub_events_of step.step
hub_all_more steps step = sym (flat_map_more (λ (s : HubNumbered). hub_events_of s.step) [] steps step)

pub hub_step_more : (first mid new : Hub) (steps more : List HubNumbered) (step : HubNumbered) →
    more ≡ steps ++ step ∷ [] → LeadsHub first (hub_events steps) mid → LeadsHub mid (hub_events_of step.step) new →
    LeadsHub first (hub_events more) new
hub_step_more first mid new steps more step is leads takes =
    subst (λ (events : List HubEvent). LeadsHub first events new)
    (sym (ap (λ (l : List HubNumbered). hub_events l) is ∙ hub_all_more steps step))
    (leads_append first mid new (hub_events steps) (hub_events_of step.step) leads takes)

pub all_headlines : (hub : Hub) → HubStands hub → AllHeadlines hub
all_headlines hub stands = λ k seat is ours made.
    let e = ends_of (serving_in hub) seat.setup in
    let s = stands k seat is ours made in (
      s.0,
      s.1,
      s.2,
      (
        session_going e.serving s.0.screen seat.link.session _ _ s.2.link_is.carries.server_is,
        viewer_going e.viewing seat.link.viewer _ _ s.2.link_is.carries.viewer_is,
        headline_holds e s.0 s.1,
      ),
    )

pub is_hub_played : (size : Size) (events : List HubEvent) (first hub : Hub) → IsEmptyHub first → first.screen
    ≡ uniform size.width size.height black → serving_in first ≡ serving_with V38 size.width size.height name 1024 →
    HubStands first → LeadsHub first events hub → HubPlayed size.width size.height events hub
is_hub_played size events first hub empty screen made stands leads =
    (first, empty, screen, made, leads.runs, all_headlines hub (leads.stands stands))

pub leaves_hub : {W : Type 0} (contents : W → Option (List ℕ)) (old new : W) (P : Type 0) (hub : Hub)
    (r : Result (Unit {0}) Fault)
    (size : Size) (steps : List HubNumbered) (shown : ℕ) →
    OnErr r ((new ≡ old) ⊎ (P × ShowsSlotTo (AppendsBeginning (contents old) (contents new)) shown hub)) →
    (P → HubPlayed size.width size.height (hub_events steps) hub) →
    OnErr r ((contents new ≡ contents old)
    ⊎ HubPlayedTo (AppendsBeginning (contents old) (contents new)) size steps shown)
leaves_hub contents old new P hub (Ok done) size steps shown left played = tt
leaves_hub contents old new P hub (Err fault) size steps shown (inl same) played = inl (ap contents same)
leaves_hub contents old new P hub (Err fault) size steps shown (inr begun) played = inr (hub, played begun.0, begun.1)
