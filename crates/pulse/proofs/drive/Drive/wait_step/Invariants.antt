use Rattle.pulse.proofs.WaitLaws.{Going}
use Rattle.pulse.proofs.drive.Drive.wait_step.Given as goal

abbrev pub invariant-loop-used : goal.invariant-loop-used
invariant-loop-used l = Going l.limit l.initial.now l.used l.now
