-- `exporting::write_elements` meets its contract. The invariant: what is left to write, written from here on, gives the whole file.
use Rattle.exchange.proofs.ExportLaws.{Writing}
use Rattle.exchange.proofs.exporting.write_elements.Given as goal

abbrev pub invariant-loop-i : goal.invariant-loop-i
invariant-loop-i l = Writing l.image l.h l.initial.file l.file l.i l.at
