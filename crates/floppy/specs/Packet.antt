-- What a packet leaves of the floppy tape device, and what the fresh record and the cartridge change leave, for every input.
-- Assumes nothing.
use Rattle.std.specs.Prelude.{ℕ, not, List, [], ◌≡◌, if◌then◌else◌, Result}
use Rattle.numbers.specs.declared.refusals.Refusal.{Refusal}
use Rattle.image.specs.declared.header.Header.{Header}
use Rattle.image.specs.Header.{fields_of, broken_image}
use Rattle.packet_state.specs.Answers.{Good}
use Rattle.packet_state.specs.declared.state.Outcome.{Outcome}
use Rattle.packet_state.specs.declared.state.State.{State}
use Rattle.packet_state.specs.States.{fresh_state, changed_state}
use Rattle.packet_parts.specs.declared.requests.Request.{Request}
use Rattle.packet_parts.specs.Answers.{Left, done, left, ends}
use Rattle.packet_parts.specs.Shell.{Device, refuses, answers_to}
use Rattle.floppy_parts.specs.declared.tape.Floppy.{Floppy}
use Rattle.floppy_parts.specs.Checks.{asked_by}
use Rattle.floppy_parts.specs.Headers.{is_full}
use Rattle.floppy_parts.specs.Requests.{floppy_request}
use Rattle.floppy_parts.specs.Rules.{keeps_floppy_rules}
use Rattle.floppy_parts.specs.Tape.{product, reset_tape, with_shared, joined, beside}
use Rattle.floppy_parts.specs.Settings.{tape_after}
use Rattle.floppy.specs.Work.{work_of}

-- the work, and the tape parameters after it
abbrev pub floppy_work : List ℕ → Header → Floppy → Request → List ℕ → Left Floppy
floppy_work s h f q buf = beside (work_of q.command s h f.shared f.tape q buf) (tape_after q.command h f.tape q buf)

-- "Add it beside the stream device, over the same image with U = C."; "Refusals: 2 also when U is below C here ..; 3 also when the product exceeds C or P
-- exceeds the product"
abbrev pub floppy_device : Device Floppy
floppy_device =
    record {
      shared = λ f. f.shared;
      with_shared = with_shared;
      accepts = is_full;
      keeps_rules = keeps_floppy_rules;
      request = floppy_request;
      asks = λ h f q. asked_by q.command h (product f.tape) q;
      work = floppy_work;
    }

-- the order of every packet device
abbrev pub floppy_step : List ℕ → Floppy → List ℕ → List ℕ → Left Floppy
floppy_step s f packet buf = answers_to floppy_device s f packet buf

-- "given by the fresh record and the cartridge change too, which read C from the image": 2, and the record f stays; or the next record, its parameters reset.
-- The image s is only read, and no buffer is lent.
unfoldable pub mounted : List ℕ → Floppy → State → Left Floppy
mounted s f next =
    if not (is_full s) then refuses f broken_image s [] else
    done (joined (ends next Good 0 0) (reset_tape (fields_of s).capacity)) s []

-- "in a fresh record": beside the one of every packet device
abbrev pub fresh_floppy : List ℕ → Floppy → Left Floppy
fresh_floppy s f = mounted s f fresh_state

-- 01: "Changing the cartridge .. sets only P 0, loaded, attention medium changed, sense zero."
abbrev pub changed_floppy : List ℕ → Floppy → Left Floppy
changed_floppy s f = mounted s f (changed_state f.shared)

-- ---- the promises of the public calls

abbrev pub FreshPromise : List ℕ → Floppy → Result (Outcome Floppy) Refusal → Type 0
FreshPromise s f r = left f r s [] ≡ fresh_floppy s f

abbrev pub ChangedPromise : List ℕ → Floppy → Result (Outcome Floppy) Refusal → Type 0
ChangedPromise s f r = left f r s [] ≡ changed_floppy s f

-- the outcome, and image and buffer at the end
abbrev pub PacketPromise : List ℕ → Floppy → List ℕ → List ℕ → Result (Outcome Floppy) Refusal → List ℕ → List ℕ → Type 0
PacketPromise s f packet buf r image' buf' = left f r image' buf' ≡ floppy_step s f packet buf
