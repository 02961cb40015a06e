-- Short words are refused; else the opening's canvas is put into them.
use mathlib.Core.Path.{refl, sym, ◌∙◌}
use Rattle.std.proofs.Common.{Ok, Err}
use Rattle.words.specs.Hosted.{host}
use Rattle.hosts.specs.Calls.{opening_with}
use Rattle.hosts.proofs.LentCalls.{opened-short, opened-long}
use Rattle.hosts.proofs.calls.mossbuckle_open.Goals as goal

pub returns-then-is_short-clause-opened : goal.returns-then-is_short-clause-opened
returns-then-is_short-clause-opened c =
    let a = c.args in
    opened-short (host a.canvas.now a.cells.now a.labels.now) (opening_with a.columns a.rows a.left a.right a.bottom a.top a.number a.character a.background)
    (sym c.is_short.ensures ∙ c.if-is_short.true)

pub returns-in-Ok-clause-opened : goal.returns-in-Ok-clause-opened
returns-in-Ok-clause-opened c =
    let a = c.args in
    let is = rw c.in-Ok.is at c.«open».ensures.canvas in
    opened-long (host a.canvas.now a.cells.now a.labels.now) (opening_with a.columns a.rows a.left a.right a.bottom a.top a.number a.character a.background)
    (Ok c.in-Ok.c) (sym c.is_short.ensures ∙ c.if-is_short.false) is c.«open».ensures.cells c.keep_all.ensures refl

pub returns-in-Err-clause-opened : goal.returns-in-Err-clause-opened
returns-in-Err-clause-opened c =
    let a = c.args in
    let is = rw c.in-Err.is at c.«open».ensures.canvas in
    let words = rw c.zero_canvas.ensures at c.keep_all-in-Err.ensures in
    opened-long (host a.canvas.now a.cells.now a.labels.now) (opening_with a.columns a.rows a.left a.right a.bottom a.top a.number a.character a.background)
    (Err c.in-Err.refusal) (sym c.is_short.ensures ∙ c.if-is_short.false) is c.«open».ensures.cells words c.from.ensures
