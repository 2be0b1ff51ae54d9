-- How a viewer that was fed all of a recording ends, by the verdict of its bytes.
use Rattle.std.proofs.Common.{◌≡◌, ◌≢◌, ℕ, ◌+◌, ◌-◌, ◌^◌, ◌<◌, Bool, true, false, List, [], ◌∷◌, ◌++◌, Option, Some}
use Rattle.std.proofs.Common.{None, Result, Ok, Err, length, refl, sym, ap, ◌∙◌, subst, append-nil, arith}
use Rattle.std.specs.Io.KnownBytes.{Consumes, IsAtEnd}
use Rattle.rfb_pixel.specs.declared.colour.Colour.{Colour}
use Rattle.rfb_picture.specs.Grid.{Grid}
use Rattle.rfb_wire.specs.stream.Prefix.{More, Bad}
use Rattle.rfb_wire.specs.stream.Grammar.{ReadsAll, HasVerdict, past_all}
use Rattle.rfb_wire.specs.stream.End.{acts, told, with_event, Takes}
use Rattle.rfb_wire.proofs.stream_laws.GrammarLaws.{all_one, past_append, verdict_fault, verdict_one}
use Rattle.rfb_wire.proofs.stream_laws.EndLaws.{acts_append, point_acts, reads_then, told_append, told_ends}
use Rattle.rfb_viewer.specs.declared.fault.ViewerFault.{ViewerFault}
use Rattle.rfb_viewer.specs.declared.fault.ViewerFault.TheVariants.{NoMemory as WantOfMemory}
use Rattle.rfb_viewer.specs.declared.viewer.Viewer.{Viewer}
use Rattle.rfb_viewer.specs.ServerBytes.{ServerAt, FromServer, server_two, server_bytes, is_between}
use Rattle.rfb_viewer.specs.Told.{ViewerTold}
use Rattle.rfb_viewer.specs.Viewer.{Viewing, ViewerState, viewer, shows, picture_after, told_at}
use Rattle.rfb_wire.specs.stream.Sequel.{past_in}
use Rattle.rfb_viewer.proofs.ViewerLaws.{viewer_machine, server_bytes_laws}
use Rattle.rfb_session.specs.declared.engine.fault.EngineFault.{EngineFault}
use Rattle.rfb_session.specs.declared.engine.fault.EngineFault.TheVariants.{Server as ServerEnded}
use Rattle.rfb_session.specs.declared.engine.fault.EngineFault.TheVariants.{Viewer as ViewerEnded, Truncated, Device}
use Rattle.rfb_session.specs.declared.engine.fault.EngineFault.TheVariants.{NoMemory as EngineNoMemory}
use Rattle.rfb_session.specs.EngineRun.{Step, Fed, Did, Runs, Ran, fed_in, updates_in}
use Rattle.rfb_session.specs.ViewerActs.{ViewerAct, Asked, PassedOver, Asks, viewer_driven, ends_told, StandsBetween}
use Rattle.rfb_session.specs.Playback.{AllPlayed, PlayedUntil, StopsPlaying}
use Rattle.rfb_session.specs.Verdict.{updates_told, answer_to, IsAnsweredAs, IsJudged, JudgesAll}

-- ---- states that differ by requests alone

same_picture : (p q : ServerAt) (item : FromServer) (a b : Option (Grid Colour)) → p ≡ q → a ≡ b →
    picture_after p item a ≡ picture_after q item b
same_picture p q item a b e f =
    ap (λ (x : ServerAt). picture_after x item a) e
    ∙ ap (λ (x : Option (Grid Colour)). picture_after q item x) f

same_point : (viewing : Viewing) (s t : ViewerState) (item : FromServer) → s.point ≡ t.point →
    (shows viewing s item).point ≡ (shows viewing t item).point
same_point viewing s t item e =
    ap (λ (x : ServerAt). past_in (server_two viewing.form viewing.hello) x item) e

alike_acts : (viewing : Viewing) (s t : ViewerState) (items : List FromServer) → s.point ≡ t.point →
    s.picture ≡ t.picture → ((acts (viewer viewing) s items).point ≡ (acts (viewer viewing) t items).point)
    × ((acts (viewer viewing) s items).picture ≡ (acts (viewer viewing) t items).picture)
alike_acts viewing s t [] e f = (e, f)
alike_acts viewing s t (item ∷ items) e f =
    alike_acts viewing (shows viewing s item) (shows viewing t item) items
    (same_point viewing s t item e) (same_picture s.point t.point item s.picture t.picture e f)

alike_told : (viewing : Viewing) (s t : ViewerState) (items : List FromServer) → s.point ≡ t.point →
    told (viewer viewing) s items ≡ told (viewer viewing) t items
alike_told viewing s t [] e = refl
alike_told viewing s t (item ∷ items) e =
    ap (λ (x : ServerAt). with_event (told_at viewing x item)
    (told (viewer viewing) (shows viewing s item) items)) e
    ∙ ap (λ (events : List ViewerTold). with_event (told_at viewing t.point item) events)
    (alike_told viewing (shows viewing s item) (shows viewing t item) items (same_point viewing s t item e))

asks_alike : (s : ViewerState) (act : ViewerAct) (t : ViewerState) → Asks s act t →
    (t.point ≡ s.point) × (t.picture ≡ s.picture)
asks_alike s (Asked incremental area) t asks =
    (ap (λ (x : ViewerState). x.point) asks.2, ap (λ (x : ViewerState). x.picture) asks.2)
asks_alike s (PassedOver incremental) t asks =
    (ap (λ (x : ViewerState). x.point) asks.1, ap (λ (x : ViewerState). x.picture) asks.1)

-- ---- updates

updates_append : (xs ys : List ViewerTold) → updates_told (xs ++ ys) ≡ updates_told xs + updates_told ys
updates_append [] ys = omega arith
updates_append (x ∷ xs) ys = let more = updates_append xs ys in omega arith

updates_one : (event : Option ViewerTold) → updates_told (with_event event []) ≡ ends_told event
updates_one None = refl
updates_one (Some event) = omega arith

-- ---- a run

-- the bytes of a run are items, and it leads where they do
record Came (viewing : Viewing) (s : ViewerState) (prefix fed : List ℕ) (updates : ℕ)
    (t : ViewerState) (rest : List ℕ) : Type 0 where
  pub items : List FromServer
  pub reads : ReadsAll (server_bytes viewing.form viewing.hello) s.point (prefix ++ fed) items rest
  pub point_is : t.point ≡ (acts (viewer viewing) s items).point
  pub picture_is : t.picture ≡ (acts (viewer viewing) s items).picture
  pub updates_are : updates ≡ updates_told (told (viewer viewing) s items)
  pub partial : (server_bytes viewing.form viewing.hello).next t.point rest ≡ More

came_fed : (viewing : Viewing) (s mid t : ViewerState) (prefix fed left bytes rest : List ℕ) (updates : ℕ)
    (event : Option ViewerTold) → Came viewing s prefix fed updates mid left →
    Takes (viewer viewing) mid left bytes event t rest →
    Came viewing s prefix (fed ++ bytes) (updates + ends_told event) t rest
came_fed viewing s mid t prefix fed left bytes rest updates event was takes =
    let m = viewer viewing in
    let g = server_bytes viewing.form viewing.hello in
    let there = acts m s was.items in
    let alike = alike_acts viewing mid there takes.items was.point_is was.picture_is in
    record {
      items = was.items ++ takes.items;
      reads = reads_then m (viewer_machine viewing) s there prefix left fed bytes rest was.items takes.items
          refl was.reads
          (subst (λ (p : ServerAt). ReadsAll g p (left ++ bytes) takes.items rest) was.point_is takes.reads);
      point_is = ap (λ (x : ViewerState). x.point) takes.state ∙ alike.0
          ∙ sym (ap (λ (x : ViewerState). x.point) (acts_append m s was.items takes.items));
      picture_is = ap (λ (x : ViewerState). x.picture) takes.state ∙ alike.1
          ∙ sym (ap (λ (x : ViewerState). x.picture) (acts_append m s was.items takes.items));
      updates_are =
          let here : told m there takes.items ≡ with_event event [] =
          sym (alike_told viewing mid there takes.items was.point_is)
          ∙ told_ends m mid takes.items event takes.ends in
          ap (λ (n : ℕ). n + ends_told event) was.updates_are
          ∙ ap (λ (n : ℕ). updates_told (told m s was.items) + n)
          (sym (ap updates_told here ∙ updates_one event))
          ∙ sym (updates_append (told m s was.items) (told m there takes.items))
          ∙ sym (ap updates_told (told_append m s was.items takes.items));
      partial = takes.partial;
    }

came_did : (viewing : Viewing) (s mid t : ViewerState) (prefix fed left rest : List ℕ) (updates : ℕ)
    (act : ViewerAct) → Came viewing s prefix fed updates mid left → Asks mid act t → rest ≡ left →
    Came viewing s prefix (fed ++ []) (updates + 0) t rest
came_did viewing s mid t prefix fed left rest updates act was asks same =
    let m = viewer viewing in
    let g = server_bytes viewing.form viewing.hello in
    let alike = asks_alike mid act t asks in
    record {
      items = was.items;
      reads = subst (λ (l : List ℕ). ReadsAll g s.point (prefix ++ l) was.items rest) (sym (append-nil fed))
          (subst (λ (l : List ℕ). ReadsAll g s.point (prefix ++ fed) was.items l) (sym same) was.reads);
      point_is = alike.0 ∙ was.point_is;
      picture_is = alike.1 ∙ was.picture_is;
      updates_are = still updates ∙ was.updates_are;
      partial = subst (λ (p : ServerAt). g.next p rest ≡ More) (sym alike.0)
          (subst (λ (l : List ℕ). g.next mid.point l ≡ More) (sym same) was.partial);
    }
  where
    still : (n : ℕ) → n + 0 ≡ n
    still n = omega arith

came : (viewing : Viewing) (s : ViewerState) (prefix : List ℕ) (steps : List (Step ViewerTold ViewerAct))
    (t : ViewerState) (rest : List ℕ) → (server_bytes viewing.form viewing.hello).next s.point prefix ≡ More →
    Runs viewer_driven viewing s prefix steps t rest →
    Came viewing s prefix (fed_in steps) (updates_in viewer_driven steps) t rest
came viewing s prefix [] t rest more run =
    let g = server_bytes viewing.form viewing.hello in
    record {
      items = [];
      reads = append-nil prefix ∙ sym run.1;
      point_is = ap (λ (x : ViewerState). x.point) run.0;
      picture_is = ap (λ (x : ViewerState). x.picture) run.0;
      updates_are = refl;
      partial = subst (λ (x : ViewerState). g.next x.point rest ≡ More) (sym run.0)
          (subst (λ (l : List ℕ). g.next s.point l ≡ More) (sym run.1) more);
    }
came viewing s prefix (Fed bytes event ∷ before) t rest more run =
    came_fed viewing s run.0 t prefix (fed_in before) run.1 bytes rest (updates_in viewer_driven before) event
    (came viewing s prefix before run.0 run.1 more run.2) run.3
came viewing s prefix (Did act ∷ before) t rest more run =
    came_did viewing s run.0 t prefix (fed_in before) run.1 rest (updates_in viewer_driven before) act
    (came viewing s prefix before run.0 run.1 more run.2) run.3.0 run.3.1

came_ran : (viewing : Viewing) (s : ViewerState) (new : Viewer) (fed sent : List ℕ) (updates : ℕ)
    (r : Ran viewer_driven viewing s [] new fed sent updates) → Came viewing s [] fed updates r.state r.rest
came_ran viewing s new fed sent updates r =
    subst (λ (l : List ℕ). Came viewing s [] l updates r.state r.rest) (sym r.fed_is)
    (subst (λ (n : ℕ). Came viewing s [] (fed_in r.steps) n r.state r.rest) (sym r.updates_are)
    (came viewing s [] r.steps r.state r.rest
    ((server_bytes_laws viewing.form viewing.hello).empty s.point) r.runs))

-- ---- what was read

all_consumed : (left : Option (List ℕ)) (bytes fed : List ℕ) → Consumes (Some bytes) left fed → IsAtEnd left →
    bytes ≡ fed
all_consumed None bytes fed read end = absurd read
all_consumed (Some more) bytes fed read end =
    read ∙ ap (λ (l : List ℕ). fed ++ l) end ∙ append-nil fed

some_consumed : (left : Option (List ℕ)) (bytes fed : List ℕ) → Consumes (Some bytes) left fed →
    (later : List ℕ) × (bytes ≡ fed ++ later)
some_consumed None bytes fed read = absurd read
some_consumed (Some more) bytes fed read = (more, read)

none_is_some : {A B : Type 0} (fault : Option A) (f : A) → None ≡ fault → fault ≡ Some f → B
none_is_some fault f one two = absurd (apart (one ∙ two))
  where
    apart : {A : Type 0} {f : A} → None ≡ Some f → ⊥
    apart e = absurd cc

some_is_none : {A B : Type 0} (fault : Option A) (f : A) → Some f ≡ fault → fault ≡ None → B
some_is_none fault f one two = none_is_some fault f (sym two) (sym one)

same_fault : {A : Type 0} (f h : A) → Some f ≡ Some h → Some h ≡ Some f
same_fault f h e = sym e

-- ---- the verdict

-- the bytes have no fault, and `told` updates
judged_end : (unread left : Option (List ℕ)) (old : Viewer) (told : ℕ) (new : Viewer)
    (all : AllPlayed unread left old told new)
    (between : Bool) → StandsBetween new between → (answer : Result ℕ EngineFault) →
    answer ≡ answer_to None between all.updates → (bytes : List ℕ) → unread ≡ Some bytes → length bytes < 2 ^ 64 - 1 →
    IsJudged old bytes answer new
judged_end unread left old count new all between stands answer is bytes known few =
    λ viewing s first items fault v.
    let m = viewer viewing in
    let g = server_bytes viewing.form viewing.hello in
    let r = all.played.runs viewing s [] first in
    let c = came_ran viewing s new all.played.fed all.played.sent all.updates r in
    let whole : bytes ≡ all.played.fed =
    all_consumed left bytes all.played.fed
    (subst (λ (u : Option (List ℕ)). Consumes u left all.played.fed) known all.played.read)
    (all.ended bytes known few) in
    let point : r.state.point ≡ past_all g s.point c.items =
    c.point_is ∙ point_acts m (viewer_machine viewing) s c.items in
    let same = all_one g s.point bytes c.items items r.rest v.rest None fault
    (subst (λ (l : List ℕ). ReadsAll g s.point l c.items r.rest) (sym whole) c.reads)
    (subst (λ (p : ServerAt). g.next p r.rest ≡ More) point c.partial) v.reads v.ends in
    let here : IsAnsweredAs viewing s c.items None r.rest answer new = record {
      answer_is = is
          ∙ ap (λ (b : Bool). answer_to None b all.updates) (stands viewing r.state r.rest r.stands)
          ∙ ap (λ (p : ServerAt). answer_to None (is_between p r.rest) all.updates) point
          ∙ ap (λ (n : ℕ). answer_to None (is_between (past_all g s.point c.items) r.rest) n) c.updates_are;
      stands = λ none. record {
        state = r.state;
        stands = r.stands;
        point_is = c.point_is;
        picture_is = c.picture_is;
      };
      fails = λ f some. none_is_some None f refl some;
    } in
    subst (λ (f : Option ViewerFault). IsAnsweredAs viewing s items f v.rest answer new) same.2
    (subst (λ (l : List ℕ). IsAnsweredAs viewing s items None l answer new) same.1
    (subst (λ (xs : List FromServer). IsAnsweredAs viewing s xs None r.rest answer new) same.0 here))

-- they have this fault
judged_fault : (unread left : Option (List ℕ)) (old : Viewer) (fault : ViewerFault) (new : Viewer) →
    PlayedUntil unread left old fault new → fault ≢ WantOfMemory → (bytes : List ℕ) → unread ≡ Some bytes →
    IsJudged old bytes (Err (ViewerEnded fault)) new
judged_fault unread left old fault new until enough bytes known =
    λ viewing s first items verdict v.
    let m = viewer viewing in
    let g = server_bytes viewing.form viewing.hello in
    let r = until.runs.2 viewing s [] first in
    let c = came_ran viewing s until.last until.fed until.runs.0 until.runs.1 r in
    let refused = until.ends.refused enough viewing r.state r.rest r.stands in
    let there = acts m s c.items in
    let later = some_consumed left bytes (until.fed ++ until.slice)
    (subst (λ (u : Option (List ℕ)). Consumes u left (until.fed ++ until.slice)) known until.bytes_are) in
    let reads : ReadsAll g s.point (until.fed ++ until.slice) (c.items ++ refused.items) refused.rest =
    reads_then m (viewer_machine viewing) s there [] r.rest until.fed until.slice refused.rest c.items refused.items
    refl c.reads
    (subst (λ (p : ServerAt). ReadsAll g p (r.rest ++ until.slice) refused.items refused.rest)
    c.point_is refused.reads) in
    let point : (acts m r.state refused.items).point ≡ past_all g s.point (c.items ++ refused.items) =
    point_acts m (viewer_machine viewing) r.state refused.items
    ∙ ap (λ (p : ServerAt). past_all g p refused.items)
    (c.point_is ∙ point_acts m (viewer_machine viewing) s c.items)
    ∙ sym (past_append g s.point c.items refused.items) in
    let whole : HasVerdict g s.point bytes (c.items ++ refused.items) (Some fault) =
    subst (λ (l : List ℕ). HasVerdict g s.point l (c.items ++ refused.items) (Some fault)) (sym later.1)
    (verdict_fault g (server_bytes_laws viewing.form viewing.hello) s.point (until.fed ++ until.slice) later.0
    (c.items ++ refused.items) refused.rest fault reads
    (subst (λ (p : ServerAt). g.next p refused.rest ≡ Bad fault) point refused.bad)) in
    let same = verdict_one g s.point bytes (c.items ++ refused.items) items (Some fault) verdict whole v in
    record {
      answer_is = subst (λ (f : Option ViewerFault). Err (ViewerEnded fault) ≡ answer_to f
          (is_between (past_all g s.point items) v.rest) (updates_told (told m s items))) same.1 refl;
      stands = λ none. some_is_none verdict fault same.1 none;
      fails = λ f some. until.ends.fails ∙ same.1 ∙ some;
    }

-- ---- an answer

pub judges_end : (unread left : Option (List ℕ)) (failing failed : ℕ) (old : Viewer) (told : ℕ) (new : Viewer) →
    AllPlayed unread left old told new → StandsBetween new true →
    JudgesAll unread failing failed old (Ok told) new
judges_end unread left failing failed old told new all between = λ bytes known few same enough.
    judged_end unread left old told new all true between (Ok told)
    (ap (λ (n : ℕ). Ok n) all.told_is) bytes known few

pub judges_cut : (unread left : Option (List ℕ)) (failing failed : ℕ) (old : Viewer) (told : ℕ) (new : Viewer) →
    AllPlayed unread left old told new → StandsBetween new false →
    JudgesAll unread failing failed old (Err Truncated) new
judges_cut unread left failing failed old told new all between = λ bytes known few same enough.
    judged_end unread left old told new all false between (Err Truncated) refl bytes known few

counted_none : (failing failed : ℕ) → failed ≡ failing + 1 → failed ≡ failing → ⊥
counted_none failing failed one none = omega (arith, one, none)

pub judges_stop : (unread left : Option (List ℕ)) (failing failed : ℕ) (old : Viewer)
    (fault : EngineFault) (new : Viewer) →
    StopsPlaying unread left failing failed old fault new →
    JudgesAll unread failing failed old (Err fault) new
judges_stop unread left failing failed old Truncated new stops =
    judges_cut unread left failing failed old stops.0 new stops.1 stops.2
judges_stop unread left failing failed old Device new stops = λ bytes known few same enough.
    absurd (counted_none failing failed stops.0 same)
judges_stop unread left failing failed old (ViewerEnded fault) new stops = λ bytes known few same enough.
    judged_fault unread left old fault new stops
    (λ wants. enough (ap (λ (f : ViewerFault). Err (ViewerEnded f)) wants)) bytes known
judges_stop unread left failing failed old (ServerEnded fault) new stops = absurd stops
judges_stop unread left failing failed old EngineNoMemory new stops = absurd stops
