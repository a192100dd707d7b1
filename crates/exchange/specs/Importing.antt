-- 02, A7: "read theirs in."
-- Assumes nothing.
use Rattle.std.specs.Prelude.{ℕ, ◌+◌, true, false, not, List, [], ◌∷◌, ◌≡◌, length, if◌then◌else◌, Result}
use Rattle.numbers.specs.Refusals.{number_of}
use Rattle.numbers.specs.declared.refusals.Refusal.{Refusal}
use Rattle.image.specs.declared.header.Header.{Header}
use Rattle.image.specs.Elements.{lay_block, lay_unreadable, lay_mark, set_recorded}
use Rattle.image.specs.Header.{fields_of, keeps_header_rules, broken_image}
use Rattle.packet_state.specs.declared.state.Outcome.{Outcome}
use Rattle.packet_state.specs.declared.state.State.{State}
use Rattle.packet_state.specs.States.{changed_state}
use Rattle.packet_parts.specs.Answers.{Left, done, left, told, good_status}
use Rattle.packet_parts.specs.Shell.{refuses}
use Rattle.tap.specs.Files.{Element, TapeMark, Block, Reading, Refused, Holds, reads}

-- "stores an unreadable block as kind 0", with its bytes; a tape mark stores a filemark and no bytes
abbrev pub lay_element : Header → Element → ℕ → List ℕ → List ℕ
lay_element h TapeMark i s = lay_mark s h.kinds i
lay_element h (Block false bytes) i s = lay_block s h.size h.kinds h.blocks i bytes
lay_element h (Block true bytes) i s = lay_unreadable s h.size h.kinds h.blocks i bytes

-- the elements stored from place i on
unfoldable pub lay_elements : Header → List Element → ℕ → List ℕ → List ℕ
lay_elements h [] i s = s
lay_elements h (e ∷ es) i s = lay_elements h es (i + 1) (lay_element h e i s)

-- "Import sets U to the elements read and leaves what it doesn't store"
unfoldable pub taken_into : Header → List Element → List ℕ → List ℕ
taken_into h es s = set_recorded (lay_elements h es 0 s) (length es)

-- "leaves the packet record as after a cartridge change"; the answer tells the elements stored and the bytes used
unfoldable pub imports_as : List ℕ → Header → State → List ℕ → Reading → Left State
imports_as s h st file (Refused reason) = refuses st (number_of reason) s file
imports_as s h st file (Holds es used) =
    done (record { answer = told good_status (length es) used; state = changed_state st }) (taken_into h es s) file

-- all that an import leaves: answer and record, image, and the file as it was. "2 comes before these"; write protection and the record are not looked at
unfoldable pub imports : List ℕ → State → List ℕ → Left State
imports s st file =
    if not (keeps_header_rules s) then refuses st broken_image s file else
    imports_as s (fields_of s) st file (reads (fields_of s).size file (fields_of s).capacity 0)

-- ---- the promise of the public call

abbrev pub ImportPromise : List ℕ → State → List ℕ → Result (Outcome State) Refusal → List ℕ → Type 0
ImportPromise s st file result image = left st result image file ≡ imports s st file
