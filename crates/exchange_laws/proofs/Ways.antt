-- The ways that an import and an export go.
-- Assumes nothing.
use Prim.Native.Nat.{ℕ, ◌<◌, ◌≤◌}
use mathlib.Core.Bool.{true, false}
use mathlib.Core.List.{List}
use mathlib.Core.Path.{◌≡◌, refl}
use borrow.Author.Tests.{ltb-true, ltb-false}
use lib.Dec.{ltb}
use lib.ListN.{length}
use Rattle.numbers.specs.Over.{over}
use Rattle.numbers.proofs.Cases.{test}
use Rattle.numbers.specs.Refusals.{number_of}
use Rattle.numbers.specs.declared.refusals.Refusal.{Refusal}
use Rattle.image.specs.Header.{fields_of, keeps_header_rules, broken_image}
use Rattle.packet_state.specs.declared.state.State.{State}
use Rattle.packet_state.specs.States.{changed_state}
use Rattle.packet_state.specs.Answers.{refusal}
use Rattle.packet_parts.specs.Answers.{Left, done, told, answered, good_status, short_buffer}
use Rattle.packet_parts.specs.Shell.{refuses}
use Rattle.tap.specs.Files.{Element, Reading, Refused, Holds, reads, file_of}
use Rattle.exchange.specs.Exporting.{Exported, elements_of, exported, exports}
use Rattle.exchange.specs.Importing.{taken_into, imports_as, imports}

-- what an import into the image s finds in a file
abbrev pub reading : List ℕ → List ℕ → Reading
reading s file = reads (fields_of s).size file (fields_of s).capacity 0

-- what an import leaves that takes these elements
abbrev pub taking : List ℕ → State → List ℕ → List Element → ℕ → Left State
taking s st file es used =
    done (record { answer = told good_status (length es) used; state = changed_state st }) (taken_into (fields_of s) es s) file

pub data ImportWay (s : List ℕ) (st : State) (file : List ℕ) : Left State → Type 0 where
  broken : keeps_header_rules s ≡ false → ImportWay s st file (refuses st broken_image s file)
  refused : (reason : Refusal) → keeps_header_rules s ≡ true → reading s file ≡ Refused reason → ImportWay s st file (refuses st (number_of reason) s file)
  taken : (es : List Element) (used : ℕ) → keeps_header_rules s ≡ true → reading s file ≡ Holds es used → ImportWay s st file (taking s st file es used)

pub data ExportWay (s file : List ℕ) : Exported → Type 0 where
  bad : keeps_header_rules s ≡ false → ExportWay s file (exported (refusal broken_image) file)
  short : keeps_header_rules s ≡ true → length file < length (file_of (elements_of s)) → ExportWay s file (exported (refusal short_buffer) file)
  well : keeps_header_rules s ≡ true → length (file_of (elements_of s)) ≤ length file
      → ExportWay s file (exported (answered good_status (fields_of s).recorded (length (file_of (elements_of s)))) (over file 0 (file_of (elements_of s))))

module _ (s : List ℕ) (st : State) (file : List ℕ) where
  by_reading : (good : keeps_header_rules s ≡ true) (R : Reading) → reading s file ≡ R → ImportWay s st file (imports_as s (fields_of s) st file R)
  unfolding imports_as
  by_reading good (Refused reason) e = refused reason good e
  by_reading good (Holds es used) e = taken es used good e

  pub import_way : ImportWay s st file (imports s st file)
  unfolding imports
  import_way =
      test (keeps_header_rules s) (λ e. rw e (by_reading e (reading s file) refl)) (λ e. rw e (broken e))

pub export_way : (s file : List ℕ) → ExportWay s file (exports s file)
unfolding exports
export_way s file =
    test (keeps_header_rules s)
    (λ e.
    test (ltb (length file) (length (file_of (elements_of s))))
    (λ l. rw (e, l) (short e (ltb-true (length file) (length (file_of (elements_of s))) l)))
    (λ l. rw (e, l) (well e (ltb-false (length file) (length (file_of (elements_of s))) l))))
    (λ e. rw e (bad e))
