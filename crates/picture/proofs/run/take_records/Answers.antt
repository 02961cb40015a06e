-- What is left of the run at each record is the run from the start.
use Rattle.std.proofs.Common.{sym, ◌∙◌, ap, arith}
use Rattle.ledger.specs.Outcomes.{given}
use Rattle.picture.specs.Run.{Ended}
use Rattle.picture.proofs.RunSteps.{went_on, stopped, run_end}
use Rattle.picture.proofs.run.take_records.Goals as goal

pub returns-in-Err : goal.returns-in-Err
returns-in-Err c =
    let l = c.loop-at in
    let h = c.in-Err.ensures in
    let run = sym l.invariant.run ∙ stopped (given l.canvas l.cells l.labels) _ c.args.file.now l.at _ c.loop-at-test.true h.step h.state in
    record { stop = sym (ap (λ (x : Ended). x.stop) run); state = sym (ap (λ (x : Ended). x.state) run) }

pub loop-at-smaller : goal.loop-at-smaller
loop-at-smaller c =
    let l = c.loop-at in
    let h = c.in-Ok.ensures in
    let r = went_on (given l.canvas l.cells l.labels) _ c.args.file.now l.at _ c.loop-at-test.true h.step h.state in
    omega (arith, r.0, c.loop-at-test.true)

pub loop-at-preserved : goal.loop-at-preserved
loop-at-preserved c =
    let l = c.loop-at in
    let h = c.in-Ok.ensures in
    let r = went_on (given l.canvas l.cells l.labels) _ c.args.file.now l.at _ c.loop-at-test.true h.step h.state in
    record { run = r.1 ∙ l.invariant.run }

pub returns : goal.returns
returns c =
    let l = c.loop-at in
    let run = sym l.invariant.run ∙ run_end c.args.file.now l.at (given l.canvas l.cells l.labels) c.loop-at-test.false in
    record { stop = sym (ap (λ (x : Ended). x.stop) run); state = sym (ap (λ (x : Ended). x.state) run) }
