-- `exporting::export_length` meets its contract. The invariant: what is left to count gives what the whole gives.
use Rattle.exchange.proofs.ExportLaws.{Measuring}
use Rattle.exchange.proofs.exporting.export_length.Given as goal

abbrev pub invariant-loop-i : goal.invariant-loop-i
invariant-loop-i l = Measuring l.image l.h l.i l.n
