-- 02, A7: everything that an export or an import leaves.
-- Assumes nothing.
use Rattle.std.specs.Prelude.{ℕ, List, ◌≡◌}
use Rattle.packet_record.specs.PacketRecord.{decode_state, encode_answer}
use Rattle.exchange.specs.Exporting.{Exported, exports}
use Rattle.exchange.specs.Importing.{imports}
use Rattle.tapecard.specs.PacketCalls.{PacketCard, packet_left}

-- what an export leaves: it only reads the image
pub record ExportTold : Type 0 where
  pub file : List ℕ
  pub answer : List ℕ

abbrev pub export_told : List ℕ → List ℕ → ExportTold
export_told file answer = record { file = file; answer = answer }

unfoldable pub export_left : Exported → ExportTold
export_left x = export_told x.file (encode_answer x.answer)

-- all that `tapecard_export` leaves, file and answer: "Write ours out"
unfoldable pub export_call : List ℕ → List ℕ → ExportTold
export_call image file = export_left (exports image file)

-- all that `tapecard_import` leaves, record, image and answer, and the file as it was: "read theirs in"
unfoldable pub import_call : List ℕ → List ℕ → List ℕ → PacketCard
import_call state image file = packet_left state (imports image (decode_state state) file)

-- ---- the promise of each call on what it leaves

abbrev pub ExportCallPromise : List ℕ → List ℕ → ExportTold → Type 0
ExportCallPromise image file left = left ≡ export_call image file

abbrev pub ImportCallPromise : List ℕ → List ℕ → List ℕ → PacketCard → Type 0
ImportCallPromise state image file left = left ≡ import_call state image file
