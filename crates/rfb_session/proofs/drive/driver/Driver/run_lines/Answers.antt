use Rattle.std.proofs.Common.{inl, inr, sym, arith, length}
use Rattle.rfb_session.specs.drive.driver.LineRun.{LastLine, LongLine, NextLine, NoLine}
use Rattle.rfb_session.proofs.DriverLineLemmas.{all_rests, end_rests, fewer_more, long_rests}
use Rattle.rfb_session.proofs.drive.driver.Driver.run_lines.Goals as goal

pub loop-line-init : goal.loop-line-init
loop-line-init g c = record { runs = NoLine; fewer = inl (omega arith) }

pub returns-then-not-may_begin : goal.returns-then-not-may_begin
returns-then-not-may_begin g c =
    record { runs = c.loop-line.invariant.runs; rests = λ small. inl (sym c.if-not-may_begin.ensures) }

pub returns-in-Partial : goal.returns-in-Partial
returns-in-Partial g c =
    record { runs = c.loop-line.invariant.runs; rests = λ small. inr c.in-Partial.ensures }

pub returns-in-Over : goal.returns-in-Over
returns-in-Over g c = record {
  runs = LastLine c.loop-line.invariant.runs (sym c.if-not-may_begin.ensures) c.in-Over.ensures.0 c.in-Over.ensures.1
      c.end.ensures;
  rests = λ small. end_rests _ c.loop-line.self c.end.new.self c.end.ensures;
}

pub returns-in-TooLong : goal.returns-in-TooLong
returns-in-TooLong g c = record {
  runs = LongLine c.loop-line.invariant.runs (sym c.if-not-may_begin.ensures) c.in-TooLong.ensures
      c.refuse_long.ensures;
  rests = λ small. long_rests c.loop-line.self c.refuse_long.new.self c.refuse_long.ensures;
}

pub loop-line-preserved : goal.loop-line-preserved
loop-line-preserved g c = record {
  runs = NextLine c.in-Line.count c.loop-line.invariant.runs (sym c.if-not-may_begin.ensures) c.in-Line.ensures
      c.run_line.ensures;
  fewer = fewer_more g.R.Rig.steps c.in-Line.count c.args.now c.loop-line._line _ c.loop-line.self c.run_line.new.self
      c.loop-line.invariant.fewer (sym c.if-not-may_begin.ensures) c.in-Line.ensures c.run_line.ensures;
}

pub returns : goal.returns
returns g c = record {
  runs = c.loop-line.invariant.runs;
  rests = λ small.
      all_rests c.loop-line.self (length c.args.self.now.input.waiting) c.loop-line._line c.loop-line.invariant.fewer
      (omega (
        arith,
        c.loop-line-test.false,
        c.loop-line.auto._line-end,
        c.saturating_add-line-end.ensures,
        c.len.ensures,
      )) small;
}
