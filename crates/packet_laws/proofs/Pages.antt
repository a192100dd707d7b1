-- The device page that 1Ah gives.
-- Assumes nothing.
use Prim.Native.Nat.{ℕ, ◌+◌, ◌<◌, min}
use native.Mathlib.Omega.{arith}
use mathlib.Core.List.{List}
use mathlib.Core.Path.{◌≡◌, refl, ap, ◌∙◌}
use lib.ListN.{length, get_or}
use Rattle.image.specs.declared.header.Header.{Header}
use Rattle.image.specs.Header.{fields_of}
use Rattle.opcodes.specs.declared.Command.TheVariants.{ModeSense}
use Rattle.packet_parts.specs.declared.requests.Request.{Request}
use Rattle.packet_parts.specs.Answers.{Left}
use Rattle.packet_parts.specs.Replies.{device_page, short_list, full_list, replied_into}
use Rattle.packet_parts.specs.Requests.{page_code}
use Rattle.packet_parts.specs.Shell.{Device, answers_to}
use Rattle.packet_work.specs.Replies.{device_mode}
use Rattle.packet_laws.specs.Words.{AsksPage}
use Rattle.packet_laws.proofs.Refusals.{begins-room, begins-work}
use Rattle.packet_laws.proofs.Replies.{reply_at}

-- a device that gives the page of the shared record, whatever else of the page is the device's own
pub record GivesPage {R : Type 0} (d : Device R) : Type 0 where
  pub byte4 : R → ℕ
  pub unit : R → ℕ
  pub needs : (h : Header) (st : R) (q : Request) → q.command ≡ ModeSense → page_code q ≡ device_page → (d.asks h st q).needed ≡ min q.length full_list
  pub gives : (s : List ℕ) (h : Header) (st : R) (q : Request) (buf : List ℕ) → q.command ≡ ModeSense → page_code q ≡ device_page
      → (d.work s h st q buf).buf ≡ replied_into (device_mode h (d.shared st) (byte4 st) (unit st)) q.length buf

module _ {R : Type 0} (d : Device R) (page : GivesPage d) (s : List ℕ) (st : R) (packet buf : List ℕ) where
  abbrev pub meant : List ℕ
  meant = device_mode (fields_of s) (d.shared st) (page.byte4 st) (page.unit st)

  -- each byte of header and page that is asked for stands in the buffer
  pub page_at : {n : ℕ} → AsksPage d s st packet buf n → (i : ℕ) → i < short_list + n → i < full_list
      → get_or (answers_to d s st packet buf).buf i 0 ≡ get_or meant i 0
  page_at t i few has =
      let q = d.request packet in
      let whole : length meant ≡ full_list = refl in
      let room = begins-room d s st packet buf t.begins in
      let needed = page.needs (fields_of s) st q t.mode_sense t.page in
      ap (λ (x : Left R). get_or x.buf i 0) (begins-work d s st packet buf t.begins)
      ∙ ap (λ (b : List ℕ). get_or b i 0) (page.gives s (fields_of s) st q buf t.mode_sense t.page)
      ∙ reply_at meant buf q.length i (omega (arith, t.asked)) (omega arith) (omega arith)
