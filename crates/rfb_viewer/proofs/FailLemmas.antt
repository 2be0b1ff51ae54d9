-- What a viewer keeps that fails.
use Rattle.std.proofs.Common.{◌≡◌, ℕ, List, [], ◌∷◌, ◌++◌, Option, Some, None, Err, length, take, drop, refl, sym}
use Rattle.std.proofs.Common.{subst, ◌∙◌, ap, arith, append-nil, append_assoc, take-append-drop, inl, inr}
use Rattle.arrayvec.specs.ArrayVec.{ArrayVec}
use Rattle.rfb_pixel.specs.declared.colour.Colour.{Colour}
use Rattle.rfb_picture.specs.Grid.{Grid}
use Rattle.rfb_wire.specs.declared.rect_head.RectHead.{RectHead as HeadOfRect}
use Rattle.rfb_wire.specs.declared.server_head.ServerHead.{ServerHead}
use Rattle.rfb_wire.specs.declared.server_head.ServerHead.TheVariants.{Update, ColourMap, Bell as BellHead}
use Rattle.rfb_wire.specs.declared.server_head.ServerHead.TheVariants.{CutText as CutTextHead}
use Rattle.rfb_wire.specs.ServerHead.{SpellsServerHead}
use Rattle.rfb_wire.specs.declared.fault.WireFault.{WireFault}
use Rattle.rfb_wire.specs.declared.fault.WireFault.TheVariants.{UnknownMessage as WireMessage}
use Rattle.rfb_wire.specs.declared.fault.WireFault.TheVariants.{UnknownEncoding as WireEncoding}
use Rattle.rfb_wire.specs.declared.fault.WireFault.TheVariants.{RectOutside as WireOutside}
use Rattle.rfb_wire.specs.stream.Prefix.{Next, More, Got, Bad}
use Rattle.rfb_wire.specs.stream.End.{FedBy, RunsOutBy, Steps, StepsBy}
use Rattle.rfb_wire.proofs.stream_laws.FeedLaws.{runs_out_later}
use Rattle.rfb_codec.specs.declared.fault.PaintFault.{PaintFault}
use Rattle.rfb_codec.specs.declared.fault.PaintFault.TheVariants.{SubrectOutside, NoBackground, NoForeground}
use Rattle.rfb_codec.specs.declared.fault.PaintFault.TheVariants.{BothColourBits, SourceOutside}
use Rattle.rfb_codec.specs.Painter.{Painting}
use Rattle.rfb_codec.specs.Stage.{IsRefused}
use Rattle.rfb_codec.specs.UnderWay.{UnderWay, painting, Refuses}
use Rattle.rfb_hello.specs.declared.viewer_hello.ViewerHello.{ViewerHello}
use Rattle.rfb_hello.specs.declared.viewer_hello.progress.Cause.{Cause}
use Rattle.rfb_hello.specs.declared.viewer_hello.progress.Cause.TheVariants.{Refused as RefusedCause}
use Rattle.rfb_hello.specs.declared.viewer_hello.progress.Cause.TheVariants.{SecurityFailed as FailedCause}
use Rattle.rfb_hello.specs.KeptText.{KeptText}
use Rattle.rfb_hello.specs.declared.offered.Offered.{Offered}
use Rattle.rfb_hello.specs.ViewerModel.{reason_of as reason_in}
use Rattle.rfb_viewer.specs.declared.fault.ViewerFault.{ViewerFault}
use Rattle.rfb_viewer.specs.declared.fault.ViewerFault.TheVariants.{NoMemory, Refused, SecurityFailed}
use Rattle.rfb_viewer.specs.declared.fault.ViewerFault.TheVariants.{NoneNotOffered as NoneAmongTypes}
use Rattle.rfb_viewer.specs.declared.fault.ViewerFault.TheVariants.{BadSecurityWord as BadWord}
use Rattle.rfb_viewer.specs.declared.viewer.Viewer.{Viewer}
use Rattle.rfb_viewer.specs.declared.viewer.progress.Progress.TheVariants.{Head, RectHead, Data}
use Rattle.rfb_viewer.specs.Fault.{fault_of_wire, fault_of_paint}
use Rattle.rfb_viewer.specs.ServerBytes.{ServerAt, FromServer}
use Rattle.rfb_viewer.specs.Viewer.{Viewing, ViewerState, viewer, AsksMemory}
use Rattle.rfb_viewer.specs.steps.ItemDamage.{EndsHere, EndsIn}
use Rattle.rfb_viewer.specs.steps.Steps.{AsksAfter}
use Rattle.rfb_viewer.specs.Progress.{IsHeadBegun}
use Rattle.rfb_viewer.specs.Model.{StandsFor, offered_of, picture_of}
use Rattle.rfb_viewer.specs.Told.{ViewerTold, Reply as Answer}
use Rattle.rfb_viewer.specs.Offer.{LeadsToOffer, IsOfferedAt, KeepsOffer, IsOfferOn, TakesOffer}
use Rattle.rfb_viewer.specs.Failed.{LeadsToReason, IsReasonAt, KeepsNone, KeepsReason, ShowsLast, EndsAt, KeepsPicture}
use Rattle.rfb_viewer.proofs.ViewerLaws.{viewer_machine}
use Rattle.rfb_viewer.proofs.MessageLemmas.{here, at_head, head_asks}
use Rattle.rfb_viewer.proofs.RectLemmas.{IsOpened, opened_at, at_rect_head, at_data, painted_now, joined}
use Rattle.rfb_viewer.proofs.LendLemmas.{unreasoned_at}

-- ---- a slice with a part taken before

pub ends_later : (fault : ViewerFault) (old mid new : Viewer) (i : ℕ) (bytes : List ℕ) →
    ((viewing : Viewing) → FedBy (viewer viewing) (StandsFor viewing) old (take i bytes) None mid) →
    EndsIn fault mid (drop i bytes) new → KeepsPicture fault old bytes new
ends_later fault old mid new i bytes fed ends = λ viewing.
    runs_out_later (viewer viewing) (viewer_machine viewing) (λ s front. EndsAt viewing fault (picture_of new) s front)
    (StandsFor viewing) old mid i bytes (fed viewing)
    (λ s prefix stands.
    let r = ends viewing s prefix stands in
    record { items = []; front = r.0; later = r.1; reads = r.2; quiet = refl; asked = r.3 })

none_later : (old mid new : Viewer) (i : ℕ) (bytes : List ℕ) →
    ((viewing : Viewing) → FedBy (viewer viewing) (StandsFor viewing) old (take i bytes) None mid) →
    KeepsNone mid new → KeepsNone old new
none_later old mid new i bytes fed kept = λ viewing s prefix stands. let f = fed viewing s prefix stands in
    kept viewing f.0 f.1 f.2

reason_later : (cause : Cause) (n : ℕ) (kept : KeptText) (old mid : Viewer) (i : ℕ) (bytes : List ℕ) →
    ((viewing : Viewing) → FedBy (viewer viewing) (StandsFor viewing) old (take i bytes) None mid) →
    LeadsToReason cause n kept mid (drop i bytes) → LeadsToReason cause n kept old bytes
reason_later cause n kept old mid i bytes fed leads = λ viewing.
    runs_out_later (viewer viewing) (viewer_machine viewing) (λ s front. IsReasonAt viewing.hello.text_limit cause n
    kept s.point front) (StandsFor viewing) old mid i bytes (fed viewing) (leads viewing)

pub kept_later : (fault : ViewerFault) (old mid new : Viewer) (i : ℕ) (bytes : List ℕ) →
    ((viewing : Viewing) → FedBy (viewer viewing) (StandsFor viewing) old (take i bytes) None mid) →
    KeepsReason fault mid (drop i bytes) new → KeepsReason fault old bytes new
kept_later (Refused n) old mid new i bytes fed kept =
    reason_later RefusedCause n (reason_in new.hello) old mid i bytes fed kept
kept_later (SecurityFailed n) old mid new i bytes fed kept =
    reason_later FailedCause n (reason_in new.hello) old mid i bytes fed kept
kept_later fault old mid new i bytes fed kept = none_later old mid new i bytes fed kept

offer_leads_later : (offered : Offered) (old mid : Viewer) (i : ℕ) (bytes : List ℕ) →
    ((viewing : Viewing) → FedBy (viewer viewing) (StandsFor viewing) old (take i bytes) None mid) →
    LeadsToOffer offered mid (drop i bytes) → LeadsToOffer offered old bytes
offer_leads_later offered old mid i bytes fed leads = λ viewing.
    runs_out_later (viewer viewing) (viewer_machine viewing) (λ s front. IsOfferedAt offered s.point front)
    (StandsFor viewing) old mid i bytes (fed viewing) (leads viewing)

pub offer_later : (fault : ViewerFault) (old mid new : Viewer) (i : ℕ) (bytes : List ℕ) →
    ((viewing : Viewing) → FedBy (viewer viewing) (StandsFor viewing) old (take i bytes) None mid) →
    offered_of mid ≡ offered_of old → KeepsOffer fault mid (drop i bytes) new → KeepsOffer fault old bytes new
offer_later NoneAmongTypes old mid new i bytes fed same kept =
    offer_leads_later (offered_of new) old mid i bytes fed kept
offer_later BadWord old mid new i bytes fed same kept = offer_leads_later (offered_of new) old mid i bytes fed kept
offer_later fault old mid new i bytes fed same kept = kept ∙ same

pub taken_later : (told : Option ViewerTold) (old mid new : Viewer) (i : ℕ) (bytes : List ℕ) →
    ((viewing : Viewing) → FedBy (viewer viewing) (StandsFor viewing) old (take i bytes) None mid) →
    offered_of mid ≡ offered_of old → TakesOffer told mid (drop i bytes) new → TakesOffer told old bytes new
taken_later (Some (Answer sent)) old mid new i bytes fed same leads = λ viewing.
    runs_out_later (viewer viewing) (viewer_machine viewing) (λ s front. IsOfferOn (offered_of old) (offered_of new)
    s.point front) (StandsFor viewing) old mid i bytes (fed viewing)
    (subst (λ (o : Offered). RunsOutBy (viewer viewing) (λ s front. IsOfferOn o (offered_of new) s.point front)
    (StandsFor viewing) mid (drop i bytes)) same (leads viewing))
taken_later told old mid new i bytes fed same kept = kept ∙ same

-- ---- no reason

pub none_at : (old : Viewer) (hello : ViewerHello) →
    hello ≡ old.hello → (viewing : Viewing) (s : ViewerState) (prefix : List ℕ) → StandsFor viewing old s prefix →
    (reason_in hello).bytes ≡ []
none_at old hello same viewing s prefix stands =
    ap (λ (h : ViewerHello). (reason_in h).bytes) same ∙ ap (λ (k : KeptText). k.bytes)
    (unreasoned_at viewing old old.progress s.point s.picture prefix stands.progress_is)

none_kept : (old new : Viewer) → new.hello ≡ old.hello → KeepsNone old new
none_kept old new same = none_at old new.hello same

pub wire_keeps : (fault : WireFault) (old new : Viewer) (bytes : List ℕ) → new.hello ≡ old.hello →
    KeepsReason (fault_of_wire fault) old bytes new
wire_keeps (WireMessage kind) old new bytes same = none_kept old new same
wire_keeps (WireEncoding number) old new bytes same = none_kept old new same
wire_keeps WireOutside old new bytes same = none_kept old new same

pub paint_keeps : (fault : PaintFault) (old new : Viewer) (bytes : List ℕ) → new.hello ≡ old.hello →
    KeepsReason (fault_of_paint fault) old bytes new
paint_keeps SubrectOutside old new bytes same = none_kept old new same
paint_keeps NoBackground old new bytes same = none_kept old new same
paint_keeps NoForeground old new bytes same = none_kept old new same
paint_keeps BothColourBits old new bytes same = none_kept old new same
paint_keeps SourceOutside old new bytes same = none_kept old new same

-- no types are at fault
pub wire_offers : (fault : WireFault) (old new : Viewer) (bytes : List ℕ) → offered_of new ≡ offered_of old →
    KeepsOffer (fault_of_wire fault) old bytes new
wire_offers (WireMessage kind) old new bytes same = same
wire_offers (WireEncoding number) old new bytes same = same
wire_offers WireOutside old new bytes same = same

pub paint_offers : (fault : PaintFault) (old new : Viewer) (bytes : List ℕ) → offered_of new ≡ offered_of old →
    KeepsOffer (fault_of_paint fault) old bytes new
paint_offers SubrectOutside old new bytes same = same
paint_offers NoBackground old new bytes same = same
paint_offers NoForeground old new bytes same = same
paint_offers BothColourBits old new bytes same = same
paint_offers SourceOutside old new bytes same = same

pub wire_other : (fault : WireFault) → fault_of_wire fault ≡ NoMemory → ⊥
wire_other (WireMessage kind) e = cc
wire_other (WireEncoding number) e = cc
wire_other WireOutside e = cc

pub paint_other : (fault : PaintFault) → fault_of_paint fault ≡ NoMemory → ⊥
paint_other SubrectOutside e = cc
paint_other NoBackground e = cc
paint_other NoForeground e = cc
paint_other BothColourBits e = cc
paint_other SourceOutside e = cc

-- ---- faults after the handshake

module _ (viewing : Viewing) (old after : Viewer) where
  -- a step that is refused has met a fault
  step_bad : (s : ViewerState) (bytes : List ℕ) (next : Next FromServer ViewerFault) (fault : ViewerFault) →
      Steps (viewer viewing) (StandsFor viewing) after s bytes next (Err fault) → next ≡ Bad fault
  step_bad s bytes More fault h = absurd h
  step_bad s bytes (Got item rest) fault h = absurd h
  step_bad s bytes (Bad other) fault h = ap (λ f. Bad f) (sym h)

  -- it ends at the bytes of a step
  step_ends : (unit later bytes : List ℕ) (fault : ViewerFault) (stored : Option (Grid Colour)) → bytes ≡ unit
      ++ later → (fault ≡ NoMemory → ⊥) → StepsBy (viewer viewing) (StandsFor viewing) old unit (Err fault) after →
      ((s : ViewerState) (prefix : List ℕ) → StandsFor viewing old s prefix →
      ShowsLast s.point s.picture (prefix ++ unit) stored) → EndsHere viewing fault stored old bytes
  step_ends unit later bytes fault stored cut other steps shows s prefix stands = (
    prefix ++ unit,
    later,
    ap (λ (ys : List ℕ). prefix ++ ys) cut ∙ sym (append_assoc prefix unit later),
    record {
      bad = λ _. step_bad s (prefix ++ unit) _ fault (steps s prefix stands);
      asks = λ is. absurd (other is);
      shows = shows s prefix stands;
    },
  )

  pub head_ends : (part : ArrayVec ℕ) (n : ℕ) (bytes : List ℕ) (fault : WireFault) → old.progress ≡ Head part →
      StepsBy (viewer viewing) (StandsFor viewing) old (take n bytes) (Err (fault_of_wire fault)) after →
      EndsHere viewing (fault_of_wire fault) old.picture old bytes
  head_ends part n bytes fault was steps =
      step_ends (take n bytes) (drop n bytes) bytes (fault_of_wire fault) old.picture (sym (take-append-drop n bytes))
      (wire_other fault) steps (λ s prefix stands.
      let h = at_head viewing old part s.point s.picture prefix (here viewing old (Head part) s prefix was stands) in
      let left = h.2.left_is in
      subst (λ (a : ServerAt). ShowsLast a s.picture (prefix ++ take n bytes) old.picture) (sym h.1)
      (inl (λ some. absurd (omega (arith, some, left)), h.3)))

  pub rect_head_ends : (more : ℕ) (part : ArrayVec ℕ) (n : ℕ)
      (bytes whole : List ℕ) (fault : WireFault) (stored : Option (Grid Colour)) → stored ≡ old.picture →
      old.progress ≡ RectHead more part → whole ≡ part.items ++ take n bytes → length whole ≡ 12 →
      StepsBy (viewer viewing) (StandsFor viewing) old (take n bytes) (Err (fault_of_wire fault)) after →
      EndsHere viewing (fault_of_wire fault) stored old bytes
  rect_head_ends more part n bytes whole fault stored same was is size steps =
      step_ends (take n bytes) (drop n bytes) bytes (fault_of_wire fault) stored (sym (take-append-drop n bytes))
      (wire_other fault) steps (λ s prefix stands.
      let h = at_rect_head viewing old more part s.point s.picture prefix
      (here viewing old (RectHead more part) s prefix was stands) in
      let all : prefix ++ take n bytes ≡ whole = ap (λ (ys : List ℕ). ys ++ take n bytes) h.4 ∙ sym is in
      let twelve : length (prefix ++ take n bytes) ≡ 12 = ap length all ∙ size in
      subst (λ (a : ServerAt). ShowsLast a s.picture (prefix ++ take n bytes) stored) (sym h.1)
      (inl (λ some. omega (arith, twelve), same ∙ h.3)))

  -- a painter's fault
  refused_as : (painter : UnderWay) (k : Painting) (before : Grid Colour) (body unit : List ℕ)
      (fault : PaintFault) (now : Grid Colour) → painting painter ≡ k →
      IsRefused painter.form painter.rect (painting painter).encoding before body unit fault now →
      IsRefused k.form k.rect k.encoding before body unit fault now
  refused_as painter k before body unit fault now is refused =
      subst (λ (j : Painting). IsRefused j.form j.rect j.encoding before body unit fault now) is refused

  pub opened_ends : (more : ℕ) (part : ArrayVec ℕ) (unit whole rest : List ℕ) (head : HeadOfRect)
      (picture now : Grid Colour) (painter : UnderWay) (fault : PaintFault) (bytes : List ℕ) → bytes ≡ unit ++ rest →
      IsOpened old more part unit whole head picture painter → Refuses painter picture rest now fault →
      StepsBy (viewer viewing) (StandsFor viewing) old (unit ++ rest) (Err (fault_of_paint fault)) after →
      EndsHere viewing (fault_of_paint fault) (Some now) old bytes
  opened_ends more part unit whole rest head picture now painter fault bytes cut opened refuses steps =
      step_ends (unit ++ rest) [] bytes (fault_of_paint fault) (Some now) (cut ∙ sym (append-nil (unit ++ rest)))
      (paint_other fault) steps (λ s prefix stands.
      let o = opened_at viewing old after s prefix more part unit whole head picture painter opened stands in
      let refused =
      refused_as painter _ o.ready.screen [] rest fault now o.painting_is ((refuses o.ready.screen [] o.fresh).1) in
      subst (λ (a : ServerAt). ShowsLast a s.picture (prefix ++ (unit ++ rest)) (Some now)) (sym o.at)
      (inr (
        o.ready.screen,
        now,
        o.ready.picture_is,
        refl,
        record {
          head = head;
          front = whole;
          body = [];
          unit = rest;
          bytes_are = o.all rest;
          awaits = o.awaits;
          fault = fault;
          refused = refused;
        },
      )))

  pub paint_ends : (more : ℕ) (painter : UnderWay) (picture now : Grid Colour) (bytes : List ℕ) (fault : PaintFault) →
      old.progress ≡ Data more painter → old.picture ≡ Some picture → Refuses painter picture bytes now fault →
      StepsBy (viewer viewing) (StandsFor viewing) old bytes (Err (fault_of_paint fault)) after →
      EndsHere viewing (fault_of_paint fault) (Some now) old bytes
  paint_ends more painter picture now bytes fault was shown refuses steps =
      step_ends bytes [] bytes (fault_of_paint fault) (Some now) (sym (append-nil bytes))
      (paint_other fault) steps (λ s prefix stands.
      let h = at_data viewing old more painter s.point s.picture prefix
      (here viewing old (Data more painter) s prefix was stands) in
      let p = h.3 in
      let stood = painted_now viewing old after painter h.0 h.2.screen picture prefix shown p in
      let refused =
      refused_as painter _ h.2.screen p.body bytes fault now p.painting_is ((refuses h.2.screen p.body stood).1) in
      subst (λ (a : ServerAt). ShowsLast a s.picture (prefix ++ bytes) (Some now)) (sym h.1)
      (inr (
        h.2.screen,
        now,
        h.2.picture_is,
        refl,
        record {
          head = p.head;
          front = p.front;
          body = p.body;
          unit = bytes;
          bytes_are = joined viewing old after prefix p.front p.body bytes p.prefix_is;
          awaits = p.awaits;
          fault = fault;
          refused = refused;
        },
      )))

-- ---- want of memory

-- where what is stored shows what came before
pub starved_ends : (viewing : Viewing) (old : Viewer) (bytes : List ℕ) →
    ((s : ViewerState) (prefix front : List ℕ) →
    StandsFor viewing old s prefix → ShowsLast s.point s.picture front old.picture) →
    ((s : ViewerState) (prefix : List ℕ) → StandsFor viewing old s prefix → (front later : List ℕ)
    × (prefix ++ bytes ≡ front ++ later) × AsksMemory viewing s front) → EndsHere viewing NoMemory old.picture old bytes
starved_ends viewing old bytes shown asks s prefix stands =
    let r = asks s prefix stands in (
      r.0,
      r.1,
      r.2,
      record {
        bad = λ other. absurd (other refl);
        asks = λ _. r.3;
        shows = shown s prefix r.0 stands;
      },
    )

-- after a head
pub asked_ends : (viewing : Viewing) (old : Viewer) (part : ArrayVec ℕ) (bytes : List ℕ) →
    old.progress ≡ Head part →
    ((s : ViewerState) (prefix : List ℕ) → StandsFor viewing old s prefix → (front later : List ℕ)
    × (prefix ++ bytes ≡ front ++ later) × AsksMemory viewing s front) →
    EndsHere viewing NoMemory old.picture old bytes
asked_ends viewing old part bytes was = starved_ends viewing old bytes (λ s prefix front stands.
    let h = at_head viewing old part s.point s.picture prefix (here viewing old (Head part) s prefix was stands) in
    let left = h.2.left_is in
    subst (λ (a : ServerAt). ShowsLast a s.picture front old.picture) (sym h.1)
    (inl (λ some. absurd (omega (arith, some, left)), h.3)))

-- and after the head of a text
pub head_memory : (viewing : Viewing) (old : Viewer) (part : ArrayVec ℕ)
    (byte : ℕ) (bytes : List ℕ) (head : ServerHead) → old.progress ≡ Head part → take 1 bytes ≡ byte ∷ [] →
    ((begun : IsHeadBegun part.items) → SpellsServerHead head (part.items ++ byte ∷ [])) → AsksAfter head →
    EndsHere viewing NoMemory old.picture old bytes
head_memory viewing old part byte bytes (CutTextHead n) was one spelled asked =
    asked_ends viewing old part bytes was (λ s prefix stands.
    let r = head_asks viewing old old part byte bytes (CutTextHead n) was one spelled asked s prefix stands in
    (r.front, r.later, r.reads, r.asked))
head_memory viewing old part byte bytes (Update count) was one spelled asked = absurd asked
head_memory viewing old part byte bytes (ColourMap first count) was one spelled asked = absurd asked
head_memory viewing old part byte bytes BellHead was one spelled asked = absurd asked
