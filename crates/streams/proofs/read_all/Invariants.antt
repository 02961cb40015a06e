-- What was read lies in the buffer. The measure is the room that is left: a read that is not the last one counts something.
use Rattle.std.proofs.Common.{length, ◌-◌, ◌≤◌}
use Rattle.streams.proofs.read_all.Given as goal

abbrev pub invariant-loop-count : goal.invariant-loop-count
invariant-loop-count g l = record { in_buffer : l.count ≤ length l.buffer }

abbrev pub decreases-loop-count : goal.decreases-loop-count
decreases-loop-count g l = length l.buffer - l.count
