-- "Packet order: 1, 2, 3, attention, opcode, fields, not ready, protection, 4, list contents, the work.", for any packet device.
-- Assumes nothing.
use Rattle.std.specs.Prelude.{ℕ, Bool, not, List, length, ◌≡◌, true, if◌then◌else◌, Option, Some, None, Result, Ok, Err}
use Rattle.numbers.specs.Choice.{◌≡ᵇ◌}
use Rattle.image.specs.declared.header.Header.{Header}
use Rattle.image.specs.Header.{fields_of, header_of, refusal_of}
use Rattle.numbers.specs.declared.refusals.Refusal.{Refusal}
use Rattle.numbers.specs.declared.refusals.Refusal.TheVariants.{NotTwelveBytes, BrokenImage, UnrulyRecord}
use Rattle.numbers.specs.Refusals.{number_of}
use Rattle.packet_state.specs.Answers.{refusal}
use Rattle.packet_state.specs.declared.state.Outcome.{Outcome}
use Rattle.packet_state.specs.declared.state.Sense.{Sense}
use Rattle.packet_state.specs.declared.state.State.{State}
use Rattle.packet_state.specs.declared.state.Verdict.{Verdict}
use Rattle.packet_state.specs.declared.state.Verdict.TheVariants.{Refuses, Ends, Works}
use Rattle.packet_parts.specs.declared.requests.Request.{Request}
use Rattle.packet_parts.specs.declared.verdicts.Asked.{Asked}
use Rattle.packet_parts.specs.Answers.{Left, told, answered, ended_before, check_condition, not_twelve_bytes, unruly_record}
use Rattle.packet_parts.specs.Requests.{packet_length}
use Rattle.packet_parts.specs.Verdicts.{is_protected, ends_early, verdict_by}

-- a device with the record R: its own judge of image and record, what a packet asks of it, and its work
pub record Device (R : Type 0) : Type 0 where
  pub shared : R → State
  pub with_shared : R → State → R
  pub accepts : List ℕ → Bool
  pub keeps_rules : Header → R → Bool
  pub request : List ℕ → Request
  pub asks : Header → R → Request → Asked
  pub work : List ℕ → Header → R → Request → List ℕ → Left R

-- the header of an image that the device takes
abbrev pub accepted_header : {R : Type 0} → Device R → List ℕ → Option Header
accepted_header d s = if d.accepts s then Some (fields_of s) else None

-- what a packet has passed when it is judged: the device takes the image, whose header is h, and the record keeps the device's rules
pub record Begun {R : Type 0} (d : Device R) (s : List ℕ) (h : Header) (st : R) : Type 0 where
  pub taken : accepted_header d s ≡ Some h
  pub header : header_of s ≡ Some h
  pub ruled : d.keeps_rules h st ≡ true

-- the same device with another work
abbrev pub with_work : {R : Type 0} → Device R → (List ℕ → Header → R → Request → List ℕ → Left R) → Device R
with_work d work =
    record {
      shared = d.shared;
      with_shared = d.with_shared;
      accepts = d.accepts;
      keeps_rules = d.keeps_rules;
      request = d.request;
      asks = d.asks;
      work = work;
    }

-- a refusal "alters nothing"
abbrev pub refuses : {R : Type 0} → R → ℕ → List ℕ → List ℕ → Left R
refuses st number s buf = record { answer = refusal number; state = st; image = s; buf = buf }

module _ {R : Type 0} (d : Device R) where
  unfoldable pub carried_out : Verdict → List ℕ → Header → R → Request → List ℕ → Left R
  carried_out (Refuses r) s h st q buf = refuses st (number_of r) s buf
  carried_out (Ends sense) s h st q buf =
      record { answer = answered check_condition 0 0; state = d.with_shared st (ended_before (d.shared st) sense); image = s; buf = buf }
  carried_out Works s h st q buf = d.work s h st q buf

  -- an ending before the work "changes only sense and attention"
  abbrev pub ended_early : R → Sense → Outcome R
  ended_early st sense = record { answer = told check_condition 0 0; state = d.with_shared st (ended_before (d.shared st) sense) }

  -- refusals 1 to 3, or the header of the image
  unfoldable pub begun : List ℕ → R → List ℕ → Result Header Refusal
  begun s st packet =
      if not (length packet ≡ᵇ packet_length) then Err NotTwelveBytes else
      if not (d.accepts s) then Err BrokenImage else
      if not (d.keeps_rules (fields_of s) st) then Err UnrulyRecord else
      Ok (fields_of s)

  -- what is found before the work
  abbrev pub found_by : Header → R → Request → ℕ → Verdict
  found_by h st q room = verdict_by (d.asks h st q) (is_protected h) (d.shared st) room

  -- one of the endings before the work holds
  abbrev pub ends_first : Header → R → Request → Bool
  ends_first h st q = ends_early (d.asks h st q) (is_protected h) (d.shared st)

  unfoldable pub decided : List ℕ → Header → R → Request → List ℕ → Left R
  decided s h st q buf = carried_out (found_by h st q (length buf)) s h st q buf

  -- what a packet leaves: answer, record, image and buffer, for every packet, image, record and buffer
  unfoldable pub answers_to : List ℕ → R → List ℕ → List ℕ → Left R
  answers_to s st packet buf =
      if not (length packet ≡ᵇ packet_length) then refuses st not_twelve_bytes s buf else
      if not (d.accepts s) then refuses st (refusal_of None) s buf else
      if not (d.keeps_rules (fields_of s) st) then refuses st unruly_record s buf else
      decided s (fields_of s) st (d.request packet) buf
