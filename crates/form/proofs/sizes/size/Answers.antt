-- One field more.
use Rattle.std.proofs.Common.{◌≡◌, ℕ, ◌+◌, ◌*◌, ◌%◌, ◌^◌, ◌<◌, ◌≤◌, true, false, List, length, sum, take, get_or, sym, ◌∙◌, arith, add-one, add-zero}
use Rattle.std.proofs.lemmas.List.Sums.{sum_by_more}
use Rattle.std.proofs.lemmas.Nat.{pow_pos}
use Rattle.std.proofs.Math.Pow.{pow_mono}
use Rattle.form.specs.Fields.{place_of, width_in, stands}
use Rattle.form.proofs.sizes.size.Goals as goal
use Rattle.form.proofs.sizes.size.Goals.{then-has, else-has}

-- the bit of one of eight fields, by a shift
bit-is : (k : ℕ) → k < 8 → (1 * 2 ^ k % 256 ≡ 2 ^ k) × (1 ≤ 2 ^ k)
bit-is k h =
    let m : 2 ^ k ≤ 128 = pow_mono {i = k} {j = 7} (omega arith) in
    (omega arith, omega (arith, pow_pos k))

-- the place and the bound after a field
more : (map k end after width : ℕ) (widths : List ℕ) → k < length widths → end ≡ place_of map widths k → end ≤ sum (take k widths) → after ≡ end + width → width ≡ width_in map (2 ^ k) (get_or widths k 0)
    → width ≤ get_or widths k 0 → (after ≡ place_of map widths (k + 1)) × (after ≤ sum (take (k + 1) widths))
more map k end after width widths h e b a w l =
    let s : sum (take (k + 1) widths) ≡ sum (take k widths) + get_or widths k 0 = sum_by_more (λ x. x) widths k 0 h in
    (rw (add-one k) (a ∙ rw (e, w)), omega arith)

pub loop-k-preserved : goal.loop-k-preserved
loop-k-preserved c =
    let k = c.loop-k.k in
    let a = c.args in
    let bit = bit-is k (omega arith) in
    let told : c.has.result ≡ stands a.map (2 ^ k) = rw bit.0 at c.has.ensures bit.1 in
    let i = c.loop-k.invariant in
    let p : (c.if-has.end ≡ place_of a.map a.widths.now (k + 1)) × (c.if-has.end ≤ sum (take (k + 1) a.widths.now)) = elim c.if-has.branch [
      | then-has w ↦
          let s : stands a.map (2 ^ k) ≡ true = sym told ∙ w.if-has.true in
          more a.map k c.loop-k.end c.if-has.end _ a.widths.now c.loop-k-test.true i.place i.bound w.end-is (rw s) (omega arith)
      | else-has w ↦
          let s : stands a.map (2 ^ k) ≡ false = sym told ∙ w.if-has.false in
          more a.map k c.loop-k.end c.if-has.end 0 a.widths.now c.loop-k-test.true i.place i.bound (w.end-is ∙ sym (add-zero c.loop-k.end)) (rw s) (omega arith)
    ] in
    record { place = p.0; bound = p.1 }
