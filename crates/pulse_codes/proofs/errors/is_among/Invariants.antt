-- `errors::is_among` meets its contract. The invariant: what is left to look at gives what the whole table gives.
use mathlib.Core.Path.{◌≡◌}
use lib.ListN.{drop}
use Rattle.numbers.specs.Member.{is_in}
use Rattle.pulse_codes.proofs.errors.is_among.Given as goal

abbrev pub invariant-loop-listed : goal.invariant-loop-listed
invariant-loop-listed l = is_in l.error (drop l.listed-index l.table) ≡ is_in l.error l.table
