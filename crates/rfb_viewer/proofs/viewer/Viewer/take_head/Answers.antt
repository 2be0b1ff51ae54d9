use Rattle.std.proofs.Common.{◌≡◌, ◌∙◌, ℕ, List, ◌++◌, None, length}
use Rattle.std.proofs.Common.{take, slice_index, ap, sym, subst, refl, arith}
use Rattle.std.proofs.lemmas.List.{length-take-le}
use Rattle.rfb_wire.specs.Heads.{IsUnknown}
use Rattle.rfb_wire.specs.declared.server_head.ServerHead.TheVariants.{Update}
use Rattle.rfb_wire.specs.ServerHead.{SpellsServerHead, SpellsUpdate}
use Rattle.rfb_wire.proofs.stream_laws.FeedLaws.{step_refuses}
use Rattle.rfb_viewer.specs.declared.fault.ViewerFault.{ViewerFault}
use Rattle.rfb_viewer.specs.declared.viewer.progress.Progress.TheVariants.{Head, Failed}
use Rattle.rfb_viewer.specs.Fault.{fault_of_wire}
use Rattle.rfb_viewer.specs.Told.{seen}
use Rattle.rfb_viewer.specs.Viewer.{viewer}
use Rattle.rfb_viewer.specs.Progress.{IsHeadBegun}
use Rattle.rfb_viewer.specs.Model.{StandsFor}
use Rattle.rfb_viewer.proofs.StepLemmas.{made_so}
use Rattle.rfb_viewer.proofs.HeadLemmas.{misses_begun, one_byte, head_whole}
use Rattle.rfb_viewer.proofs.MessageLemmas.{head_part, head_bad, head_got, head_asks}
use Rattle.rfb_viewer.proofs.FailLemmas.{head_ends, head_memory, none_at, wire_other}
use Rattle.rfb_viewer.proofs.RectLemmas.{past_going}
use Rattle.rfb_viewer.proofs.PlaceLemmas.{first_bad_placed, first_memory_placed}
use Rattle.rfb_viewer.proofs.TakingLemmas.{damages_at, after_going, head_keeps, past_keeps, wire_fails, memory_fails}
use Rattle.rfb_viewer.proofs.MovedLemmas.{quiet_takes}
use Rattle.rfb_viewer.proofs.viewer.Viewer.take_head.Goals as goal

pub returns-in-Some : goal.returns-in-Some
returns-in-Some c =
    let old = c.args.self.now in
    let bytes = c.args.bytes.now in
    let part = c.in-Head.part in
    let used = c.in-Some.used in
    let count = c.in-Some.count in
    let within = c.in-Some.ensures.within in
    let size = c.in-Some.ensures.spelled.size in
    let long : length (take used bytes) ≡ used = length-take-le used bytes within in
    let after = c.go_on-ends_update.ensures in
    let told = ap seen c.end_of.ensures ∙ after.told in
    quiet_takes old _ bytes used _ (Head part) c.in-Head.is tt refl (omega (arith, size, long)) within
    (λ viewing. rw told (head_got viewing old _ part (take used bytes) (Update count) c.in-Head.is
    (λ begun. subst (λ (ys : List ℕ). SpellsUpdate count (ys ++ take used bytes)) (sym c.in-Some.ensures.none)
    c.in-Some.ensures.spelled)
    (made_so refl after.progress after.request refl)))
    (rw told (past_keeps old _ bytes refl count))
    (rw after.progress (past_going count)) refl refl refl

pub returns-in-More : goal.returns-in-More
returns-in-More c =
    let old = c.args.self.now in
    let one = one_byte c.args.bytes.now c.requires.some in
    let part = c.in-Head.part in
    quiet_takes c.args.self.now _ c.args.bytes.now 1 None (Head part) c.in-Head.is tt refl (omega arith)
    (omega (arith, c.requires.some)) (λ viewing. head_part viewing old _ part c.read_head.new.part
    (take 1 c.args.bytes.now) c.in-Head.is (c.in-More.ensures.kept ∙ ap (λ (ys : List ℕ). part.items ++ ys)
    (sym one))
    (subst IsHeadBegun (sym c.in-More.ensures.kept) (misses_begun _ _ c.in-More.ensures.more))
    (made_so refl refl refl refl)) refl refl refl refl refl

pub returns-in-Bad : goal.returns-in-Bad
returns-in-Bad c =
    let old = c.args.self.now in
    let bytes = c.args.bytes.now in
    let fault = c.in-Bad.fault in
    let part = c.in-Head.part in
    let one = one_byte bytes c.requires.some in
    let unknown =
    subst (λ (ys : List ℕ). IsUnknown SpellsServerHead fault (part.items ++ ys)) (sym one) c.in-Bad.ensures.bad in
    rw (c.fail-fault.ensures.value, c.of_wire.ensures)
    (wire_fails old _ bytes (damages_at old _ bytes (Head part) c.in-Head.is refl) refl refl refl refl 1 fault
    (first_bad_placed old bytes (fault_of_wire fault) c.requires.some (wire_other fault) (λ viewing. step_refuses
    (viewer viewing) (StandsFor viewing) old old (take 1 bytes) (fault_of_wire fault)
    (head_bad viewing old old part (take 1 bytes) fault c.in-Head.is unknown)))
    (λ viewing. head_ends viewing old old part 1 bytes fault c.in-Head.is
    (head_bad viewing old old part (take 1 bytes) fault c.in-Head.is unknown))
    refl (c.fail-fault.ensures.after ∙ ap (λ (f : ViewerFault). Failed f) c.of_wire.ensures))

pub returns-in_default-go_on_after : goal.returns-in_default-go_on_after
returns-in_default-go_on_after c =
    let old = c.args.self.now in
    let bytes = c.args.bytes.now in
    let part = c.in-Head.part in
    let byte = slice_index bytes 0 in
    let head = c.in-Got.head in
    let one = one_byte bytes c.requires.some in
    let got = c.in-Got.ensures.got in
    let asked = c.in_default-go_on_after.ensures.asked in
    rw (c.fail-fault-in_default-go_on_after.ensures.value)
    (memory_fails old _ bytes (damages_at old _ bytes (Head part) c.in-Head.is refl) refl refl refl refl 1
    (first_memory_placed old bytes c.requires.some (λ viewing. head_asks viewing old old part byte
    (take 1 bytes) head c.in-Head.is (ap (take 1) one) (λ begun. head_whole head part.items byte _ begun got.0
    got.1) asked))
    (λ viewing. head_memory viewing old part byte bytes head c.in-Head.is one
    (λ begun. head_whole head part.items byte _ begun got.0 got.1) asked)
    (none_at old old.hello refl) c.fail-fault-in_default-go_on_after.ensures.after)

pub returns : goal.returns
returns c =
    let old = c.args.self.now in
    let bytes = c.args.bytes.now in
    let one = one_byte bytes c.requires.some in
    let part = c.in-Head.part in
    let got = c.in-Got.ensures.got in
    quiet_takes old _ bytes 1 _ (Head part) c.in-Head.is tt refl (omega arith) (omega (arith, c.requires.some))
    (λ viewing. rw c.in-Ok.ensures.told (head_got viewing old _ part (take 1 bytes) c.in-Got.head c.in-Head.is
    (λ begun. subst (λ (ys : List ℕ). SpellsServerHead c.in-Got.head (part.items ++ ys)) (sym one)
    (head_whole c.in-Got.head part.items (slice_index bytes 0) _ begun got.0 got.1))
    (made_so refl c.in-Ok.ensures.progress c.in-Ok.ensures.request refl)))
    (rw c.in-Ok.ensures.told (head_keeps old _ bytes refl c.in-Got.head))
    (rw c.in-Ok.ensures.progress (after_going old.text_limit c.in-Got.head)) refl refl refl
