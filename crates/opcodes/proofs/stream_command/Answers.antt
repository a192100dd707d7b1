-- `stream_command` meets its contract: one test, computed over the 256 entries, holds the table to the list of commands.
use mathlib.Core.List.{List, ◌∷◌}
use Prim.Native.Nat.{ℕ}
use lib.ListN.{replicate}
use borrow.Author.Rules.{rules}
use Rattle.opcodes.specs.Commands.{stream_commands, stream_command}
use Rattle.opcodes.proofs.Classes.{by_table}
use Rattle.opcodes.proofs.stream_command.Goals as goal

-- the table up to 34h; every byte beyond is unknown
classes : List ℕ
classes =
    1 ∷ 2 ∷ 0 ∷ 3 ∷ 0 ∷ 0 ∷ 0 ∷ 0 ∷ 4 ∷ 0 ∷ 5 ∷ 0 ∷ 0 ∷ 0 ∷ 0 ∷ 0 ∷ 6 ∷ 7 ∷ 8 ∷ 0 ∷ 0 ∷ 9 ∷ 0 ∷ 0 ∷ 0 ∷ 0 ∷ 10 ∷ 11
    ∷ 0 ∷ 0 ∷ 14 ∷ 0 ∷ 0 ∷ 0 ∷ 0 ∷ 0 ∷ 0 ∷ 0 ∷ 0 ∷ 0 ∷ 0 ∷ 0 ∷ 0 ∷ 12 ∷ 0 ∷ 0 ∷ 0 ∷ 0 ∷ 0 ∷ 0 ∷ 0 ∷ 0 ∷ 13 ∷ replicate 203 0

pub returns : goal.returns
unfolding classes stream_command
returns c = by_table stream_commands classes c.args.opcode _ c.from.ensures (search rules) tt
