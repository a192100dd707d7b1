-- `floppy_command` meets its contract: one test, computed over the 256 entries, holds the table to the list of commands.
use mathlib.Core.List.{List, ◌∷◌}
use Prim.Native.Nat.{ℕ}
use lib.ListN.{replicate}
use borrow.Author.Rules.{rules}
use Rattle.opcodes.specs.Commands.{floppy_commands, floppy_command}
use Rattle.opcodes.proofs.Classes.{by_table}
use Rattle.opcodes.proofs.floppy_command.Goals as goal

-- the table up to 2Bh; every byte beyond is unknown
classes : List ℕ
classes =
    1 ∷ 0 ∷ 0 ∷ 3 ∷ 0 ∷ 0 ∷ 0 ∷ 0 ∷ 4 ∷ 0 ∷ 5 ∷ 0 ∷ 0 ∷ 0 ∷ 0 ∷ 0 ∷ 6 ∷ 0 ∷ 8 ∷ 0 ∷ 0 ∷ 9 ∷ 0 ∷ 0 ∷ 0 ∷ 0 ∷ 10 ∷ 11
    ∷ 0 ∷ 0 ∷ 14 ∷ 0 ∷ 0 ∷ 0 ∷ 0 ∷ 0 ∷ 0 ∷ 0 ∷ 0 ∷ 0 ∷ 0 ∷ 0 ∷ 0 ∷ 12 ∷ replicate 212 0

pub returns : goal.returns
unfolding classes floppy_command
returns c = by_table floppy_commands classes c.args.opcode _ c.from.ensures (search rules) tt
