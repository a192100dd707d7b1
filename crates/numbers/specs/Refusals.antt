-- 01, "House refusal numbers": why a call is refused, and the number that tells it.
-- Assumes nothing.
use Rattle.std.specs.Prelude.{ℕ}
use Rattle.numbers.specs.declared.refusals.Refusal.{Refusal}
use Rattle.numbers.specs.declared.refusals.Refusal.TheVariants.{NotTwelveBytes, BrokenImage, UnrulyRecord, ShortBuffer, EmptyTrain, OutsideRanges, AlreadySo}
use Rattle.numbers.specs.declared.refusals.Refusal.TheVariants.{RulesBroken, ShortIndex, StaleIndex, CutLengths, OtherLength, TooManyItems}

abbrev pub number_of : Refusal → ℕ
number_of NotTwelveBytes = 1
number_of BrokenImage = 2
number_of UnrulyRecord = 3
number_of ShortBuffer = 4
number_of EmptyTrain = 5
number_of OutsideRanges = 6
number_of AlreadySo = 7
number_of RulesBroken = 8
number_of ShortIndex = 9
number_of StaleIndex = 10
number_of CutLengths = 11
number_of OtherLength = 12
number_of TooManyItems = 13
