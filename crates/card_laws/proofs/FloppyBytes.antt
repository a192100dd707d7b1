-- What a call of the floppy tape device leaves of its record, and what a packet answers, are bytes.
-- Assumes nothing.
use mathlib.Core.Path.{◌≡◌, refl, ◌∙◌}
use mathlib.Core.Bool.{true, not}
use mathlib.Core.List.{List}
use Prim.Native.Nat.{ℕ, ◌<◌}
use native.Mathlib.Omega.{arith}
use borrow.Author.Tests.{eqb-true, not-false}
use Rattle.numbers.specs.Choice.{◌≡ᵇ◌}
use Rattle.numbers.proofs.Cases.{either}
use Rattle.image.specs.declared.header.Header.{Header}
use Rattle.image.specs.Header.{fields_of, broken_image}
use Rattle.opcodes.specs.declared.Command.{Command}
use Rattle.opcodes.specs.declared.Command.TheVariants.{Unknown, TestUnitReady, Rewind, RequestSense, Read, Write, WriteFilemarks}
use Rattle.opcodes.specs.declared.Command.TheVariants.{Space, Inquiry, ModeSelect, ModeSense, LoadUnload, Locate, ReadPosition, PreventAllow}
use Rattle.transfer.specs.declared.Stop.{Stop}
use Rattle.transfer.specs.declared.Stop.TheVariants.{Full, AtFilemark, AtBadBlock, AtEnd, AtBeginning}
use Rattle.packet_state.specs.Answers.{Good, accepted, refusal}
use Rattle.packet_state.specs.declared.state.State.{State}
use Rattle.packet_state.specs.States.{fresh_state, changed_state}
use Rattle.packet_parts.specs.declared.requests.Request.{Request}
use Rattle.packet_parts.specs.Answers.{Left, ends}
use Rattle.packet_parts.specs.Replies.{reply_ends}
use Rattle.packet_work.specs.Settings.{load_work, lock_work, speed_work}
use Rattle.packet_laws.specs.Words.{number_of}
use Rattle.floppy_parts.specs.declared.tape.Floppy.{Floppy}
use Rattle.floppy_parts.specs.declared.tape.Tape.{Tape}
use Rattle.floppy_parts.specs.Headers.{is_full}
use Rattle.floppy_parts.specs.Tape.{flags_byte}
use Rattle.floppy.specs.Packet.{floppy_device, floppy_step, mounted}
use Rattle.floppy.specs.Work.{read_ending, read_ends, read_work, write_ending, write_ends, write_work, tape_work, select_work, work_of}
use Rattle.floppy_laws.proofs.Leaving.{accepted_leaves}
use Rattle.packet_record.specs.PacketRecord.{encode_answer}
use Rattle.floppy_record.specs.FloppyRecord.{decode_floppy, encode_floppy, encode_tape}
use Rattle.tapecard.specs.FloppyCalls.{floppy_record, floppy_left, floppy_packet_left, floppy_fresh_call, floppy_change_call, floppy_packet_call}
use Rattle.card_laws.specs.Promises.{Bytes, FitsTape, FloppyStaysBytes}
use Rattle.card_laws.proofs.ByteLaws.{weight_most}
use Rattle.card_laws.proofs.BytesKept.{All, bytes_of_lem, count_all, next, none}
use Rattle.card_laws.proofs.CycleLaws.{decoded_tape_fits}
use Rattle.card_laws.proofs.FloppyFollowing.{full_sound, reset_fits, tape_left}
use Rattle.card_laws.proofs.PacketBytes.{Fits, alike, answer_bytes, answer-fits, ending_of_lem, ends_fits, fits, fits_of, low, low_ending, sense_low}
use Rattle.card_laws.proofs.PacketBytes.{state_all}

-- ---- every number that a packet tells, and both codes of every sense that it leaves, stand in a byte each

read_low : (stop : Stop) (left : ℕ) → low_ending (read_ending stop left) ≡ true
unfolding read_ending
read_low Full left = refl
read_low AtFilemark left = refl
read_low AtBadBlock left = refl
read_low AtEnd left = refl
read_low AtBeginning left = refl

write_low : (left : ℕ) → low_ending (write_ending left) ≡ true
unfolding write_ending
write_low left = simp (ending_of_lem, alike)

work_fits : (c : Command) (s : List ℕ) (h : Header) (st : State) (t : Tape) (q : Request) (buf : List ℕ)
    → fits (work_of c s h st t q buf).answer (work_of c s h st t q buf).state ≡ true
unfolding work_of read_work read_ends write_work write_ends reply_ends select_work speed_work tape_work load_work lock_work
work_fits Unknown s h st t q buf = ends_fits _ _ _ _
work_fits TestUnitReady s h st t q buf = ends_fits _ _ _ _
work_fits Rewind s h st t q buf = ends_fits _ _ _ _
work_fits RequestSense s h st t q buf = ends_fits _ _ _ _
work_fits Read s h st t q buf = ends_fits _ _ _ _ ∙ read_low _ _
work_fits Write s h st t q buf = ends_fits _ _ _ _ ∙ write_low _
work_fits WriteFilemarks s h st t q buf = ends_fits _ _ _ _
work_fits Space s h st t q buf = ends_fits _ _ _ _
work_fits Inquiry s h st t q buf = ends_fits _ _ _ _
work_fits ModeSelect s h st t q buf = simp (fits_of, ends_fits, alike)
work_fits ModeSense s h st t q buf = ends_fits _ _ _ _
work_fits LoadUnload s h st t q buf = ends_fits _ _ _ _
work_fits Locate s h st t q buf = ends_fits _ _ _ _
work_fits ReadPosition s h st t q buf = ends_fits _ _ _ _
work_fits PreventAllow s h st t q buf = ends_fits _ _ _ _

packet_fits : (s : List ℕ) (f : Floppy) (packet buf : List ℕ) → Fits floppy_device (floppy_step s f packet buf)
packet_fits = answer-fits floppy_device (λ f next. refl) (λ s h f q buf. work_fits q.command s h f.shared f.tape q buf)

-- ---- the bytes

tape_all : (t : Tape) → FitsTape t → All (encode_tape t)
unfolding encode_tape
tape_all t f =
    let x = t.reported in
    let zero : 0 < 256 = omega arith in
    next f.density
    (next f.fill
    (next f.bseg
    (next {x = flags_byte x} (omega (arith, weight_most x.deleted 0x80, weight_most x.reduced 0x40, weight_most x.formatting 0x20))
    (count_all 2 t.segtrk
    (count_all 2 t.trks
    (next f.sector (next f.cylinder (next f.head (next zero (next zero (next zero (next zero (next zero none)))))))))))))

floppy_bytes : (f : Floppy) → f.shared.sense.key < 256 → low f.shared.sense ≡ true → FitsTape f.tape → Bytes (encode_floppy f)
unfolding encode_floppy
floppy_bytes f key l t = bytes_of_lem (state_all f.shared key l (tape_all f.tape t))

record_bytes_lem : (state image packet buf : List ℕ) → Bytes state → Bytes buf → Bytes (floppy_packet_call state image packet buf).state
unfolding floppy_packet_call floppy_packet_left decode_floppy
record_bytes_lem state image packet buf a b =
    let f = decode_floppy state in
    let x = floppy_step image f packet buf in
    either Bytes (number_of x ≡ᵇ 0) (encode_floppy x.state) state
    (λ e.
    let w = accepted_leaves image f packet buf (eqb-true (number_of x) 0 e) in
    floppy_bytes x.state (omega (arith, w.ruled.key)) (sense_low x.answer x.state.shared e (packet_fits image f packet buf))
    (tape_left image f packet buf b (decoded_tape_fits state a)))
    (λ e. a)

mount_bytes : (state image : List ℕ) (new : State) → Bytes state
    → Bytes (floppy_left state (mounted image (decode_floppy state) new)).state
unfolding floppy_left mounted ends
mount_bytes state image new b =
    either (λ (x : Left Floppy). Bytes (floppy_record state x.answer x.state)) (not (is_full image)) _ _ (λ e. b)
    (λ e.
    let g = full_sound image (not-false _ e) in
    floppy_bytes _ (omega arith) refl (reset_fits (fields_of image).capacity (omega arith)))

mount_answer : (state image : List ℕ) (new : State) → Bytes (floppy_left state (mounted image (decode_floppy state) new)).answer
unfolding floppy_left mounted
mount_answer state image new =
    either (λ (x : Left Floppy). Bytes (encode_answer x.answer)) (not (is_full image)) _ _
    (λ e. answer_bytes (refusal broken_image) new refl)
    (λ e. answer_bytes (accepted (ends new Good 0 0).answer) (ends new Good 0 0).state (ends_fits _ _ _ _))

pub floppy_stays_bytes : FloppyStaysBytes
unfolding floppy_fresh_call floppy_change_call floppy_packet_call floppy_packet_left
floppy_stays_bytes =
    record {
      fresh = λ state image b. mount_bytes state image fresh_state b;
      change = λ state image b. mount_bytes state image (changed_state (decode_floppy state).shared) b;
      fresh_answer = λ state image. mount_answer state image fresh_state;
      change_answer = λ state image. mount_answer state image (changed_state (decode_floppy state).shared);
      packet = record_bytes_lem;
      answer = λ state image packet buf.
          let x = floppy_step image (decode_floppy state) packet buf in
          answer_bytes x.answer x.state.shared (packet_fits image (decode_floppy state) packet buf);
    }
