-- No refusal has the number of a call that is answered, and none that of another.
-- Assumes nothing.
use Prim.Native.Nat.{ℕ, zero, suc}
use mathlib.Core.Bool.{false}
use mathlib.Core.List.{List, [], ◌∷◌}
use mathlib.Core.Path.{◌≡◌, refl}
use lib.ListN.{get_or}
use Rattle.std.specs.Prelude.{Result, Ok, Err}
use Rattle.numbers.specs.Choice.{◌≡ᵇ◌}
use Rattle.numbers.specs.declared.refusals.Refusal.{Refusal}
use Rattle.numbers.specs.declared.refusals.Refusal.TheVariants.{NotTwelveBytes, BrokenImage, UnrulyRecord, ShortBuffer, EmptyTrain, OutsideRanges, AlreadySo}
use Rattle.numbers.specs.declared.refusals.Refusal.TheVariants.{RulesBroken, ShortIndex, StaleIndex, CutLengths, OtherLength, TooManyItems}
use Rattle.numbers.specs.Refusals.{number_of}

pub not_zero : (r : Refusal) → (number_of r ≡ᵇ 0) ≡ false
not_zero NotTwelveBytes = refl
not_zero BrokenImage = refl
not_zero UnrulyRecord = refl
not_zero ShortBuffer = refl
not_zero EmptyTrain = refl
not_zero OutsideRanges = refl
not_zero AlreadySo = refl
not_zero RulesBroken = refl
not_zero ShortIndex = refl
not_zero StaleIndex = refl
not_zero CutLengths = refl
not_zero OtherLength = refl
not_zero TooManyItems = refl

-- in the order of their numbers, from 1 on
abbrev reasons : List Refusal
reasons =
    NotTwelveBytes ∷ BrokenImage ∷ UnrulyRecord ∷ ShortBuffer ∷ EmptyTrain ∷ OutsideRanges ∷ AlreadySo ∷ RulesBroken ∷ ShortIndex ∷ StaleIndex ∷ CutLengths
    ∷ OtherLength ∷ TooManyItems ∷ []

-- a result by its number
abbrev pub by_number : {A : Type 0} → ℕ → A → Result A Refusal
by_number zero x = Ok x
by_number (suc n) x = Err (get_or reasons n NotTwelveBytes)

pub by_reason : {A : Type 0} (reason : Refusal) (x : A) → by_number (number_of reason) x ≡ Err reason
by_reason NotTwelveBytes x = refl
by_reason BrokenImage x = refl
by_reason UnrulyRecord x = refl
by_reason ShortBuffer x = refl
by_reason EmptyTrain x = refl
by_reason OutsideRanges x = refl
by_reason AlreadySo x = refl
by_reason RulesBroken x = refl
by_reason ShortIndex x = refl
by_reason StaleIndex x = refl
by_reason CutLengths x = refl
by_reason OtherLength x = refl
by_reason TooManyItems x = refl
