-- What the judging of a file finds, and an item's turn in it.
-- Assumes nothing.
use Rattle.std.specs.Prelude.{ℕ, ◌+◌, length, if◌then◌else◌, Result, Ok, Err}
use Rattle.numbers.specs.Choice.{◌≡ᵇ◌}
use Rattle.numbers.specs.declared.refusals.Refusal.{Refusal}
use Rattle.numbers.specs.declared.refusals.Refusal.TheVariants.{CutLengths, OtherLength}
use Rattle.tap.specs.declared.items.Item.{Item}
use Rattle.tap.specs.declared.items.Item.TheVariants.{Ends, Mark, Record, Cut}
use Rattle.tap.specs.declared.judging.Found.{Found}
use Rattle.tap.specs.declared.judging.Turn.{Turn}
use Rattle.tap.specs.declared.judging.Turn.TheVariants.{Takes, Stops}
use Rattle.tap.specs.Files.{Reading, Refused, Holds}

unfoldable pub turn_of : ℕ → Item → Result Turn Refusal
turn_of size (Ends used) = Ok (Stops used)
turn_of size Cut = Err CutLengths
turn_of size (Mark next) = Ok (Takes next)
turn_of size (Record r) = if r.length ≡ᵇ size then Ok (Takes r.next) else Err OtherLength

-- of a file whose first n elements were met before
abbrev pub found_from : ℕ → Reading → Result Found Refusal
found_from n (Refused reason) = Err reason
found_from n (Holds es used) = Ok (record { elements = n + length es; used = used })
