-- By the test on the two limits; a product of two 16-bit numbers is below 2^32.
use mathlib.Core.Path.{sym}
use native.Mathlib.Omega.{arith}
use borrow.Author.Rules.{rules}
use Rattle.text.proofs.Sizes.{product-below}
use Rattle.report.specs.Screen.{picture_size}
use Rattle.report.proofs.screen.picture_size.Goals as goal

pub returns-then-columns-largest : goal.returns-then-columns-largest
unfolding picture_size
returns-then-columns-largest c = rw (sym c.read-columns.ensures, sym c.read-rows.ensures, c.if-columns-largest.true)

pub overflow_mul-result : goal.overflow_mul-result
overflow_mul-result c = rw (c.from.ensures, c.from-2.ensures) (omega (arith, product-below c.read-columns.result c.read-rows.result (search rules) (search rules)))

pub overflow_mul-result-2 : goal.overflow_mul-result-2
overflow_mul-result-2 c = rw (c.from.ensures, c.from-2.ensures) (omega (arith, product-below c.read-columns.result c.read-rows.result (search rules) (search rules)))

pub returns : goal.returns
unfolding picture_size
returns c = rw (c.from.ensures, c.from-2.ensures, sym c.read-columns.ensures, sym c.read-rows.ensures, c.if-columns-largest.false)
