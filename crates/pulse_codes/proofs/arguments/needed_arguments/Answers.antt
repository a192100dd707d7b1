-- `arguments::needed_arguments` meets its contract.
use Prim.Native.Nat.{ℕ}
use native.Mathlib.Omega.{arith}
use mathlib.Core.List.{List, [], ◌∷◌}
use mathlib.Core.Bool.{Bool}
use lib.Dec.{eqb, eqb→eq}
use lib.ListN.{get_or}
use Rattle.numbers.proofs.TableRule.{at}
use Rattle.pulse_codes.specs.Arguments.{needed}
use Rattle.pulse_codes.proofs.ArgumentLaws.{needed_none}
use Rattle.pulse_codes.proofs.arguments.needed_arguments.Goals as goal

counts : List ℕ
counts =
    0 ∷ 0 ∷ 0 ∷ 0 ∷ 0 ∷ 0 ∷ 0 ∷ 0 ∷ 0 ∷ 0 ∷ 0 ∷ 0
    ∷ 0 ∷ 1 ∷ 0 ∷ 0 ∷ 0 ∷ 0 ∷ 0 ∷ 0 ∷ 0 ∷ 0 ∷ 0 ∷ 0
    ∷ 0 ∷ 2 ∷ 2 ∷ 1 ∷ 0 ∷ 0 ∷ 0 ∷ 0 ∷ 0 ∷ 0 ∷ 3 ∷ 3 ∷ []

right : ℕ → ℕ → Bool
right code count = eqb count (needed code)

pub returns-then-code-lt36 : goal.returns-then-code-lt36
unfolding counts right needed
returns-then-code-lt36 c = eqb→eq (get_or counts c.args.code 0) (needed c.args.code) (at right counts tt c.args.code (omega arith))

pub returns : goal.returns
returns c = needed_none c.args.code (omega arith)
