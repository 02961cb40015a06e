-- Clipping what the cuts made of the line, with the cuts that are left, gives the answer.
use Rattle.std.proofs.Common.{◌≡◌, ◌-◌}
use Rattle.walk.specs.Clip.{clip_from, clip_of}
use Rattle.walk.proofs.clip.clip_outside.Given as goal

abbrev pub invariant-loop-cuts : goal.invariant-loop-cuts
invariant-loop-cuts l = clip_from (8 - l.cuts) l.cuts l.b l.s ≡ clip_of l.b l.initial.s
