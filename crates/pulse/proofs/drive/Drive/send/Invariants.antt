use Rattle.pulse.proofs.TrainsLaws.{Sending}
use Rattle.pulse.proofs.drive.Drive.send.Given as goal

abbrev pub invariant-loop-i : goal.invariant-loop-i
invariant-loop-i l = Sending l.counts l.initial.levels l.initial.drive l.levels l.drive l.i
