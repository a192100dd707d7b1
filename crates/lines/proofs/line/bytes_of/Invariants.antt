-- `line::bytes_of` meets its contract. The invariant: no more bytes than a line may have.
use Rattle.std.proofs.Common.{◌≤◌}
use Rattle.lines.proofs.line.bytes_of.Given as goal

abbrev pub invariant-loop-byte : goal.invariant-loop-byte
invariant-loop-byte l = l.bytes.count ≤ 40
