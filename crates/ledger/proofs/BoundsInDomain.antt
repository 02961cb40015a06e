-- Bounds that an opening does not refuse are in the domain, each of the four.
use mathlib.Core.Path.{◌≡◌}
use mathlib.Core.Bool.{false, ◌&&◌}
use borrow.Author.Tests.{not-false}
use Rattle.std.proofs.lemmas.Bool.{and_parts}
use Rattle.floats.specs.Domain.{in_domain}
use Rattle.walk.specs.declared.clip.Bounds.{Bounds}
use Rattle.ledger.specs.Calls.{bad_bounds}
use Rattle.view.proofs.ClampIdle.{InDomain}

pub bounds-in-domain : (b : Bounds) → bad_bounds b ≡ false → InDomain b
bounds-in-domain b h =
    let sides = in_domain b.left && in_domain b.right in
    let ends = in_domain b.bottom && in_domain b.top in
    let all = not-false (sides && ends) h in
    let s = (and_parts sides ends all).0 in
    let e = (and_parts sides ends all).1 in
    record {
      left = (and_parts (in_domain b.left) (in_domain b.right) s).0;
      right = (and_parts (in_domain b.left) (in_domain b.right) s).1;
      bottom = (and_parts (in_domain b.bottom) (in_domain b.top) e).0;
      top = (and_parts (in_domain b.bottom) (in_domain b.top) e).1;
    }
