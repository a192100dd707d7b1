-- What a call of the packet drive leaves of its record, and what it answers, are bytes.
-- Assumes nothing.
use Rattle.std.specs.Prelude.{if◌then◌else◌, Ok, Err}
use mathlib.Core.Path.{◌≡◌, refl, ◌∙◌}
use mathlib.Core.Bool.{Bool, true, false, cond, not, ◌&&◌}
use mathlib.Core.List.{List, ◌++◌}
use Prim.Native.Nat.{ℕ, ◌<◌}
use native.Mathlib.Omega.{arith}
use borrow.Author.Tests.{eqb-true, ltb-true}
use lib.ListN.{length}
use Rattle.numbers.specs.Choice.{◌<ᵇ◌, ◌≡ᵇ◌}
use Rattle.numbers.proofs.Cases.{ands, either}
use Rattle.numbers.proofs.RefusalLaws.{not_zero}
use Rattle.numbers.specs.Refusals.{number_of as number}
use Rattle.image.specs.declared.header.Header.{Header}
use Rattle.image.specs.Header.{fields_of}
use Rattle.opcodes.specs.declared.Command.{Command}
use Rattle.opcodes.specs.declared.Command.TheVariants.{Unknown, TestUnitReady, Rewind, RequestSense, Read, Write, WriteFilemarks}
use Rattle.opcodes.specs.declared.Command.TheVariants.{Space, Inquiry, ModeSelect, ModeSense, LoadUnload, Locate, ReadPosition, PreventAllow}
use Rattle.transfer.specs.declared.Moved.{Moved}
use Rattle.transfer.specs.declared.Stop.{Stop}
use Rattle.transfer.specs.declared.Stop.TheVariants.{Full, AtFilemark, AtBadBlock, AtEnd, AtBeginning}
use Rattle.packet_state.specs.declared.state.Attention.{Attention}
use Rattle.packet_state.specs.declared.state.Attention.TheVariants.{Nothing, MediumChanged, Reset}
use Rattle.packet_state.specs.Answers.{Answer, Ending, accepted}
use Rattle.packet_state.specs.declared.state.Outcome.{Outcome}
use Rattle.packet_state.specs.declared.state.Sense.{Sense}
use Rattle.packet_state.specs.declared.state.State.{State}
use Rattle.packet_state.specs.declared.state.Verdict.{Verdict}
use Rattle.packet_state.specs.declared.state.Verdict.TheVariants.{Refuses, Ends, Works}
use Rattle.packet_state.specs.Senses.{unit_attention}
use Rattle.packet_state.specs.States.{changed_state, fresh_state}
use Rattle.packet_parts.specs.declared.requests.Request.{Request}
use Rattle.packet_parts.specs.Answers.{Left, ends, ended_before}
use Rattle.packet_parts.specs.declared.verdicts.Asked.{Asked}
use Rattle.packet_parts.specs.Replies.{reply_ends}
use Rattle.packet_parts.specs.Requests.{packet_length}
use Rattle.packet_parts.specs.Shell.{Device, carried_out, decided, answers_to}
use Rattle.packet_parts.specs.Verdicts.{found_first, verdict_by}
use Rattle.stream.specs.Packet.{stream_device, packet_step}
use Rattle.stream.specs.Work.{ending_of, locate_work, mark_work, read_ends, read_work, select_work, space_work, work_of}
use Rattle.stream.specs.Work.{write_ending, write_ends, write_work}
use Rattle.packet_work.specs.Settings.{load_work, lock_work, speed_work}
use Rattle.packet_laws.specs.Words.{number_of}
use Rattle.stream_laws.proofs.Leaving.{accepted_leaves}
use Rattle.packet_record.specs.PacketRecord.{attention_byte, decode_state, encode_answer, encode_state}
use Rattle.tapecard.specs.PacketCalls.{packet_call, packet_change, packet_fresh, packet_left}
use Rattle.card_laws.specs.Promises.{Bytes, PacketStaysBytes}
use Rattle.card_laws.proofs.ByteLaws.{weight_most}
use Rattle.card_laws.proofs.BytesKept.{All, bytes_of_lem, count_all, next, none}

-- ---- every number that a packet tells, and both codes of every sense that it leaves, stand in a byte each

abbrev pub low : Sense → Bool
low x = (x.asc <ᵇ 256) && (x.ascq <ᵇ 256)

-- the record is left only where the packet is not refused
abbrev pub fits : Answer → State → Bool
fits a st = (a.number <ᵇ 256) && (a.status <ᵇ 256) && (if a.number ≡ᵇ 0 then low st.sense else true)

-- a packet that is not refused
abbrev pub fits_out : Outcome State → Bool
fits_out x = fits (accepted x.answer) x.state

pub alike : (b : Bool) → cond b true true ≡ true
alike true = refl
alike false = refl

-- before the work
abbrev low_verdict : Verdict → Bool
low_verdict (Refuses reason) = number reason <ᵇ 256
low_verdict (Ends x) = low x
low_verdict Works = true

verdict_of : (b : Bool) (x y : Verdict) → low_verdict (cond b x y) ≡ cond b (low_verdict x) (low_verdict y)
verdict_of true x y = refl
verdict_of false x y = refl

attention_low : (a : Attention) → low (unit_attention a) ≡ true
attention_low Nothing = refl
attention_low MediumChanged = refl
attention_low Reset = refl

verdict_low : (a : Asked) (protected : Bool) (st : State) (room : ℕ) → low_verdict (verdict_by a protected st room) ≡ true
unfolding verdict_by found_first
verdict_low a protected st room = simp (verdict_of, attention_low st.attention, alike)

-- the work
abbrev pub low_ending : Ending → Bool
low_ending (Ok done) = true
low_ending (Err x) = low x

pub ending_of_lem : (b : Bool) (x y : Ending) → low_ending (cond b x y) ≡ cond b (low_ending x) (low_ending y)
ending_of_lem true x y = refl
ending_of_lem false x y = refl

ending_low : (h : Header) (stop : Stop) (left : ℕ) → low_ending (ending_of h stop left) ≡ true
unfolding ending_of
ending_low h Full left = refl
ending_low h AtFilemark left = refl
ending_low h AtBadBlock left = refl
ending_low h AtEnd left = refl
ending_low h AtBeginning left = refl

write_low : (h : Header) (asked : ℕ) (m : Moved) → low_ending (write_ending h asked m) ≡ true
unfolding write_ending
write_low h asked m = simp (ending_of_lem, alike)

pub ends_fits : (st : State) (e : Ending) (blocks bytes : ℕ) → fits_out (ends st e blocks bytes) ≡ low_ending e
unfolding ends
ends_fits st (Ok done) blocks bytes = refl
ends_fits st (Err x) blocks bytes = refl

pub fits_of : (b : Bool) (x y : Outcome State) → fits_out (cond b x y) ≡ cond b (fits_out x) (fits_out y)
fits_of true x y = refl
fits_of false x y = refl

work_fits : (c : Command) (s : List ℕ) (h : Header) (st : State) (q : Request) (buf : List ℕ)
    → fits (work_of c s h st q buf).answer (work_of c s h st q buf).state ≡ true
unfolding work_of read_work read_ends write_work write_ends mark_work space_work reply_ends select_work speed_work load_work lock_work locate_work
work_fits Unknown s h st q buf = ends_fits _ _ _ _
work_fits TestUnitReady s h st q buf = ends_fits _ _ _ _
work_fits Rewind s h st q buf = ends_fits _ _ _ _
work_fits RequestSense s h st q buf = ends_fits _ _ _ _
work_fits Read s h st q buf = ends_fits _ _ _ _ ∙ ending_low _ _ _
work_fits Write s h st q buf = ends_fits _ _ _ _ ∙ write_low _ _ _
work_fits WriteFilemarks s h st q buf = ends_fits _ _ _ _ ∙ write_low _ _ _
work_fits Space s h st q buf = simp (fits_of, ends_fits, ending_low, alike)
work_fits Inquiry s h st q buf = ends_fits _ _ _ _
work_fits ModeSelect s h st q buf = simp (fits_of, ends_fits, alike)
work_fits ModeSense s h st q buf = ends_fits _ _ _ _
work_fits LoadUnload s h st q buf = ends_fits _ _ _ _
work_fits Locate s h st q buf = simp (fits_of, ends_fits, alike)
work_fits ReadPosition s h st q buf = ends_fits _ _ _ _
work_fits PreventAllow s h st q buf = ends_fits _ _ _ _

-- the whole packet, of any device that keeps the record it is given
module _ {R : Type 0} (d : Device R) where
  abbrev pub Fits : Left R → Type 0
  Fits x = fits x.answer (d.shared x.state) ≡ true

  module _ (shares : (st : R) (next : State) → d.shared (d.with_shared st next) ≡ next)
      (works : (s : List ℕ) (h : Header) (st : R) (q : Request) (buf : List ℕ) → Fits (d.work s h st q buf)) where
    carried-fits : (v : Verdict) (s : List ℕ) (h : Header) (st : R) (q : Request) (buf : List ℕ) → low_verdict v ≡ true → Fits (carried_out d v s h st q buf)
    unfolding carried_out
    carried-fits (Refuses reason) s h st q buf e = rw (e, not_zero reason)
    carried-fits (Ends x) s h st q buf e = rw (shares st (ended_before (d.shared st) x)) e
    carried-fits Works s h st q buf e = works s h st q buf

    pub answer-fits : (s : List ℕ) (st : R) (packet buf : List ℕ) → Fits (answers_to d s st packet buf)
    unfolding answers_to decided
    answer-fits s st packet buf =
        either Fits (not (length packet ≡ᵇ packet_length)) _ _ (λ e. refl) (λ e.
        either Fits (not (d.accepts s)) _ _ (λ e. refl) (λ e.
        either Fits (not (d.keeps_rules (fields_of s) st)) _ _ (λ e. refl) (λ e.
        carried-fits _ s (fields_of s) st _ buf (verdict_low _ _ (d.shared st) (length buf)))))

packet_fits : (s : List ℕ) (st : State) (packet buf : List ℕ) → Fits stream_device (packet_step s st packet buf)
packet_fits = answer-fits stream_device (λ st next. refl) (λ s h st q buf. work_fits q.command s h st q buf)

-- ---- the bytes

attention_byte_lem : (a : Attention) → attention_byte a < 256
attention_byte_lem Nothing = omega arith
attention_byte_lem MediumChanged = omega arith
attention_byte_lem Reset = omega arith

-- a record's bytes, before others
pub state_all : (st : State) {xs : List ℕ} → st.sense.key < 256 → low st.sense ≡ true → All xs → All (encode_state st ++ xs)
unfolding encode_state
state_all st key l a =
    let x = st.sense in
    let asc = ltb-true x.asc 256 (search ands) in
    let ascq = ltb-true x.ascq 256 (search ands) in
    count_all 4 st.position
    (next (omega (arith, weight_most st.loaded 1, weight_most st.locked 2))
    (next (attention_byte_lem st.attention)
    (count_all 2 st.speed
    (next key
    (next asc
    (next ascq
    (next (omega (arith, weight_most x.valid 1, weight_most x.eom 2, weight_most x.filemark 4)) (count_all 4 x.information a))))))))

state_bytes : (st : State) → st.sense.key < 256 → low st.sense ≡ true → Bytes (encode_state st)
unfolding encode_state
state_bytes st key l = bytes_of_lem (state_all st key l none)

pub sense_low : (a : Answer) (st : State) → (a.number ≡ᵇ 0) ≡ true → fits a st ≡ true → low st.sense ≡ true
sense_low a st e f =
    let g : (if a.number ≡ᵇ 0 then low st.sense else true) ≡ true = search ands in
    rw e at g

pub answer_bytes : (a : Answer) (st : State) → fits a st ≡ true → Bytes (encode_answer a)
unfolding encode_answer
answer_bytes a st e =
    let told = ltb-true a.number 256 (search ands) in
    let status = ltb-true a.status 256 (search ands) in
    let zero : 0 < 256 = omega arith in
    bytes_of_lem
    (next told
    (next status (next zero (next zero (count_all 4 a.blocks (count_all 4 a.bytes (count_all 4 a.marked none)))))))

-- ---- the promises

record_bytes_lem : (state image packet buf : List ℕ) → Bytes state → Bytes (packet_call state image packet buf).state
unfolding packet_call packet_left
record_bytes_lem state image packet buf b =
    let st = decode_state state in
    let x = packet_step image st packet buf in
    either Bytes (number_of x ≡ᵇ 0) (encode_state x.state) state
    (λ e.
    let w = accepted_leaves image st packet buf (eqb-true (number_of x) 0 e) in
    state_bytes x.state (omega (arith, w.accepted.ruly.key)) (sense_low x.answer x.state e (packet_fits image st packet buf)))
    (λ e. b)

pub packet_stays_bytes : PacketStaysBytes
unfolding packet_fresh packet_change packet_call packet_left
packet_stays_bytes =
    record {
      fresh = state_bytes fresh_state (omega arith) refl;
      change = λ state. state_bytes (changed_state (decode_state state)) (omega arith) refl;
      packet = record_bytes_lem;
      answer = λ state image packet buf.
          let x = packet_step image (decode_state state) packet buf in
          answer_bytes x.answer x.state (packet_fits image (decode_state state) packet buf);
    }
