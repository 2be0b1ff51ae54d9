use Rattle.std.proofs.Common.{◌≡◌, ap, slice_index, sym, ◌∙◌, arith, Ok, Some}
use Rattle.std.specs.Result.{result_err}
use Rattle.std.proofs.lemmas.Result.{err_from_is_err_and}
use Rattle.std.proofs.lemmas.Bool.Decides.{nat_tests}
use Rattle.rfb_pixel.specs.FormatBytes.{number_at}
use Rattle.rfb_pixel.proofs.FieldsReadLemmas.{HeadPasses, after_maxima, blue_refused, field_read, green_refused}
use Rattle.rfb_pixel.proofs.FieldsReadLemmas.{head_passes, red_refused}
use Rattle.rfb_pixel.proofs.format.Format.read.Goals.{Else-bytes-eq0, In_ok-green, In_ok-red}
use Rattle.rfb_pixel.proofs.format.Format.read.Goals as goal

-- the bytes before the fields pass
head : (c : Else-bytes-eq0) → HeadPasses c.args.bytes.now
head c = head_passes c.args.bytes.now (grind (arith, nat_tests)) c.if-depth-bits_per_pixel.false c.if-bytes-eq0.false

-- the red field is read, and the green one
red : (c : In_ok-red) →
    Ok c.in_ok-red.red ≡ field_read (number_at 4 c.args.bytes.now) (slice_index c.args.bytes.now 10)
red c = c.in_ok-red.ensures.value ∙ ap (λ m. field_read m (slice_index c.args.bytes.now 10)) c.max_at.ensures

green : (c : In_ok-green) →
    Ok c.in_ok-green.green ≡ field_read (number_at 6 c.args.bytes.now) (slice_index c.args.bytes.now 11)
green c = c.in_ok-green.ensures.value ∙ ap (λ m. field_read m (slice_index c.args.bytes.now 11)) c.max_at-2.ensures

pub returns-in_err-red-clause-fault : goal.returns-in_err-red-clause-fault
returns-in_err-red-clause-fault c =
    let at = goal.at.returns-in_err-red-clause-fault c in
    let it = c.in_err-red.ensures.value
    ∙ ap (λ m. field_read m (slice_index c.args.bytes.now 10)) c.max_at.ensures in
    let p = err_from_is_err_and c.from_residual.result c.from_residual.ensures.1 in
    ap result_err p.1 ∙ ap Some p.2 ∙ red_refused c.args.bytes.now _ (head at.Else-bytes-eq0) it

pub returns-in_err-green-clause-fault : goal.returns-in_err-green-clause-fault
returns-in_err-green-clause-fault c =
    let at = goal.at.returns-in_err-green-clause-fault c in
    let it = c.in_err-green.ensures.value
    ∙ ap (λ m. field_read m (slice_index c.args.bytes.now 11)) c.max_at-2.ensures in
    let p = err_from_is_err_and c.from_residual-in_err-green.result c.from_residual-in_err-green.ensures.1 in
    ap result_err p.1 ∙ ap Some p.2
    ∙ green_refused c.args.bytes.now c.in_ok-red.red _ (head at.Else-bytes-eq0) (red at.In_ok-red) it

pub returns-in_err-blue-clause-fault : goal.returns-in_err-blue-clause-fault
returns-in_err-blue-clause-fault c =
    let at = goal.at.returns-in_err-blue-clause-fault c in
    let p = err_from_is_err_and c.from_residual-in_err-blue.result c.from_residual-in_err-blue.ensures.1 in
    ap result_err p.1 ∙ ap Some p.2
    ∙ blue_refused c.args.bytes.now c.in_ok-red.red c.in_ok-green.green _ (head at.Else-bytes-eq0) (red at.In_ok-red)
    (green at.In_ok-green) (c.in_err-blue.ensures.value
    ∙ ap (λ m. field_read m (slice_index c.args.bytes.now 12)) c.max_at-3.ensures)

pub returns-clause-fault : goal.returns-clause-fault
returns-clause-fault c =
    let at = goal.at.returns-clause-fault c in
    c.of_fields.ensures.fault
    ∙ sym (after_maxima c.args.bytes.now c.in_ok-red.red c.in_ok-green.green c.in_ok-blue.blue
    (head at.Else-bytes-eq0) (red at.In_ok-red) (green at.In_ok-green) (c.in_ok-blue.ensures.value
    ∙ ap (λ m. field_read m (slice_index c.args.bytes.now 12)) c.max_at-3.ensures))
