-- The class of each command; a table of classes is held to its list of commands by one computed test, for any list.
-- Assumes nothing.
use Rattle.std.specs.Prelude.{if◌then◌else◌}
use Prim.Native.Nat.{ℕ, ◌<◌}
use mathlib.Core.Path.{◌≡◌, refl, sym, ap, ◌∙◌}
use mathlib.Core.List.{List, [], ◌∷◌}
use mathlib.Core.Bool.{Bool, true, false, ◌&&◌}
use lib.Dec.{T, eqb, eqb→eq}
use lib.ListN.{length, get_or}
use borrow.Author.Tests.{eqb-true}
use Rattle.numbers.proofs.Cases.{test, never, and_l, and_r}
use Rattle.numbers.proofs.TableRule.{every, at}
use Rattle.opcodes.specs.declared.Command.{Command}
use Rattle.opcodes.specs.declared.Command.TheVariants.{Unknown, TestUnitReady, Rewind, RequestSense, Read, Write, WriteFilemarks, Space}
use Rattle.opcodes.specs.declared.Command.TheVariants.{Inquiry, ModeSelect, ModeSense, LoadUnload, Locate, ReadPosition, PreventAllow}
use Rattle.opcodes.specs.Commands.{Supported, look_up, command_of_class}

abbrev pub class_of : Command → ℕ
class_of Unknown = 0
class_of TestUnitReady = 1
class_of Rewind = 2
class_of RequestSense = 3
class_of Read = 4
class_of Write = 5
class_of WriteFilemarks = 6
class_of Space = 7
class_of Inquiry = 8
class_of ModeSelect = 9
class_of ModeSense = 10
class_of LoadUnload = 11
class_of Locate = 12
class_of ReadPosition = 13
class_of PreventAllow = 14

pub class_names : (c : Command) → command_of_class (class_of c) ≡ c
unfolding command_of_class
class_names Unknown = refl
class_names TestUnitReady = refl
class_names Rewind = refl
class_names RequestSense = refl
class_names Read = refl
class_names Write = refl
class_names WriteFilemarks = refl
class_names Space = refl
class_names Inquiry = refl
class_names ModeSelect = refl
class_names ModeSense = refl
class_names LoadUnload = refl
class_names Locate = refl
class_names ReadPosition = refl
class_names PreventAllow = refl

-- the test of a whole table: each entry is the class of its opcode's command
abbrev pub agrees : List Supported → ℕ → ℕ → Bool
agrees commands opcode class = eqb class (class_of (look_up commands opcode))

-- a table that passes it names the command of each opcode
pub by_table : (commands : List Supported) (table : List ℕ) (opcode : ℕ) (r : Command) → r ≡ command_of_class (get_or table opcode 0) → opcode < length table
    → T (every (agrees commands) 0 table) → r ≡ look_up commands opcode
by_table commands table opcode r e h t =
    let c = look_up commands opcode in
    e ∙ ap command_of_class (eqb→eq (get_or table opcode 0) (class_of c) (at (agrees commands) table t opcode h)) ∙ class_names c

-- the test of a whole list: what it has of this class stands under this opcode
abbrev pub under : ℕ → ℕ → List Supported → Bool
under class opcode [] = true
under class opcode (c ∷ cs) = (if eqb (class_of c.command) class then eqb c.opcode opcode else true) && under class opcode cs

-- a list that passes it has the command under no other byte
pub only_under : (class opcode x : ℕ) (commands : List Supported) → under class opcode commands ≡ true → eqb 0 class ≡ false
    → eqb (class_of (look_up commands x)) class ≡ true → x ≡ opcode
only_under class opcode x [] u z e = never e z
only_under class opcode x (c ∷ cs) u z e =
    let first : Bool = if eqb (class_of c.command) class then eqb c.opcode opcode else true in
    let rest = under class opcode cs in
    test (eqb c.opcode x)
    (λ h.
    let own : eqb (class_of c.command) class ≡ true = rw h at e in
    let here : eqb c.opcode opcode ≡ true = rw own at (and_l first rest u) in
    sym (eqb-true c.opcode x h) ∙ eqb-true c.opcode opcode here)
    (λ h. only_under class opcode x cs (and_r first rest u) z (rw h at e))
