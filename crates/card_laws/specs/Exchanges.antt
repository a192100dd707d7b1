-- What an export and an import (02, A7) promise on the bytes themselves; proofs/ keeps each, under its name.
-- Assumes nothing.
use Rattle.std.specs.Prelude.{◌≡◌, true, List, ℕ, ◌≤◌, get_or}
use Rattle.numbers.specs.Outcomes.{Settles}
use Rattle.image.specs.Header.{fields_of, keeps_header_rules}
use Rattle.packet_record.specs.PacketRecord.{decode_state}
use Rattle.exchange.specs.Exporting.{elements_of, exports}
use Rattle.exchange.specs.Importing.{imports}
use Rattle.tapecard.specs.ExchangeCalls.{export_call, import_call, ExportCallPromise, ImportCallPromise}
use Rattle.tapecard.specs.PacketCalls.{packet_card, packet_change}
use Rattle.card_laws.specs.Promises.{Bytes, CountsIn, LockedIn, Refused}

-- the number, byte 0 of the answer, is 0
abbrev pub Accepted : List ℕ → Type 0
Accepted answer = get_or answer 0 0 ≡ 0

-- "A refused call (number not 0) leaves the record's bytes, the image and every buffer exactly as they were; only the answer is written."; an export only
-- reads its image
pub record ExchangeRefusedUntouched : Type 0 where
  pub exported : (image file : List ℕ) → Refused (export_call image file).answer → (export_call image file).file ≡ file
  pub imported : (state image file : List ℕ) → Refused (import_call state image file).answer
      → import_call state image file ≡ packet_card state image file (import_call state image file).answer

-- "leaves the packet record as after a cartridge change": the 16 bytes that `tapecard_change` leaves
abbrev pub ImportIsChange : Type 0
ImportIsChange = (state image file : List ℕ) → Accepted (import_call state image file).answer → (import_call state image file).state ≡ packet_change state

-- "Export then import returns the elements": by the two C calls, whatever record the second is given
abbrev pub CardExportThenImport : Type 0
CardExportThenImport =
    (image file other state : List ℕ) → Accepted (export_call image file).answer → keeps_header_rules other ≡ true
    → (fields_of other).size ≡ (fields_of image).size → (fields_of image).recorded ≤ (fields_of other).capacity
    → Accepted (import_call state other (export_call image file).file).answer
    × (elements_of (import_call state other (export_call image file).file).image ≡ elements_of image)

-- what they leave are bytes again: the file of an image that is bytes, the record, and each answer
pub record ExchangeStaysBytes : Type 0 where
  pub file : (image file : List ℕ) → Bytes image → Bytes file → Bytes (export_call image file).file
  pub export_answer : (image file : List ℕ) → Bytes (export_call image file).answer
  pub state : (state image file : List ℕ) → Bytes state → Bytes (import_call state image file).state
  pub import_answer : (state image file : List ℕ) → Bytes (import_call state image file).answer

-- and no count of an answer is cut
pub record ExchangeCountsWhole : Type 0 where
  pub exported : (image file : List ℕ) → CountsIn (export_call image file).answer (exports image file).answer
  pub imported : (state image file : List ℕ) → CountsIn (import_call state image file).answer (imports image (decode_state state) file).answer

-- a lock that the record holds is held after an import too
abbrev pub ExchangeLockedStays : Type 0
ExchangeLockedStays = (state image file : List ℕ) → Bytes state → LockedIn state → LockedIn (import_call state image file).state

-- "Prove that any two outcomes allowed by it coincide"
pub record ExchangeSettled : Type 0 where
  pub exported : (image file : List ℕ) → Settles (ExportCallPromise image file)
  pub imported : (state image file : List ℕ) → Settles (ImportCallPromise state image file)
