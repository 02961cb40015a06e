-- The words that `held_words` counts are those of the dots' cells: by columns where a step goes a whole one, else by rows.
use Rattle.std.proofs.Common.{arith}
use Rattle.lines.proofs.WordLoops.{by-columns, by_rows, words_inside, words-over, columns-fit, rows_fit}
use Rattle.lines.proofs.held.held_plain.Goals as goal

pub held_words-requires : goal.held_words-requires
held_words-requires c =
    let a = c.args in
    (columns-fit a.c.column a.c.count (omega arith) (omega arith), words_inside a.p a.c a.cells.now c.requires.1 _ (by-columns c.args.p c.args.c (omega arith) (omega arith) c.requires.2 c.if-c-eq-ONE.true))

pub held_words-requires-else-c-eq-ONE : goal.held_words-requires-else-c-eq-ONE
held_words-requires-else-c-eq-ONE c =
    let a = c.args in
    (rows_fit a.c.row a.p.grid.columns a.c.count (omega arith) (omega arith) (omega arith), words_inside a.p a.c a.cells.now c.requires.1 _ (by_rows c.args.p c.args.c (omega arith) (omega arith) c.requires.2 c.if-c-eq-ONE.false))

pub returns-then-c-eq-ONE : goal.returns-then-c-eq-ONE
returns-then-c-eq-ONE c =
    words-over c.args.p c.args.c c.args.cells.now c.requires.1 _ (by-columns c.args.p c.args.c (omega arith) (omega arith) c.requires.2 c.if-c-eq-ONE.true) c.requires.0 _ c.held_words.ensures

pub returns-else-c-eq-ONE : goal.returns-else-c-eq-ONE
returns-else-c-eq-ONE c =
    words-over c.args.p c.args.c c.args.cells.now c.requires.1 _ (by_rows c.args.p c.args.c (omega arith) (omega arith) c.requires.2 c.if-c-eq-ONE.false) c.requires.0 _ c.held_words-else-c-eq-ONE.ensures
