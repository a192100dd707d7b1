-- What the calls promise beyond their definitions; proofs/ keeps each, under its name.
-- Assumes nothing.
use Rattle.std.specs.Prelude.{◌≡◌, true, false, List, map, ℕ, ◌^◌, ◌<◌, ◌≤◌, get_or, Option, Some, None}
use Rattle.packet_state.specs.Answers.{Answer}
use Rattle.packet_state.specs.declared.state.State.{State}
use Rattle.pulse_codes.specs.declared.arguments.Waiting.{Waiting}
use Rattle.pulse.specs.declared.drive.Drive.{Drive}
use Rattle.pulse.specs.Calls.{train_call, tick_call, insert_call, remove_call, wait_call}
use Rattle.pulse.specs.Drives.{power_on}
use Rattle.pulse.specs.Rules.{keeps_rules}
use Rattle.pulse.specs.Trains.{trains_call}
use Rattle.pulse_laws.specs.Demands.{Recovered, Regained}
use Rattle.pulse_laws.specs.Runs.{answers, paced_answers, recovery_trains, silent_ticks}
use Rattle.card_laws.specs.Sessions.{answers_on, paced_answers_on, paced_on, ticks_on, told, trains_on}
use Rattle.packet_state.specs.States.{fresh_state, changed_state}
use Rattle.stream.specs.Packet.{packet_step}
use Rattle.packet_laws.specs.Words.{blocks_of, bytes_of, marked_of}
use Rattle.numbers.specs.Counts.{count_at}
use Rattle.numbers.specs.Flags.{is_set}
use Rattle.numbers.specs.Outcomes.{Settles}
use Rattle.packet_record.specs.PacketRecord.{decode_state, encode_state}
use Rattle.floppy_parts.specs.declared.tape.Floppy.{Floppy}
use Rattle.floppy_parts.specs.declared.tape.Tape.{Tape}
use Rattle.floppy.specs.Packet.{fresh_floppy, changed_floppy, floppy_step}
use Rattle.floppy_record.specs.FloppyRecord.{decode_floppy, decode_tape, encode_floppy}
use Rattle.tapecard.specs.PacketCalls.{packet_card, packet_fresh, packet_change, packet_call}
use Rattle.tapecard.specs.PacketCalls.{PacketFreshPromise, PacketChangePromise, PacketCallPromise}
use Rattle.index.specs.Keeping.{makes, indexed_step, short_index, stale_index}
use Rattle.tapecard.specs.IndexCalls.{index_card, index_make_call, index_packet_call, IndexMakePromise, IndexCallPromise}
use Rattle.tapecard.specs.FloppyCalls.{floppy_card, floppy_fresh_call, floppy_change_call, floppy_packet_call}
use Rattle.tapecard.specs.FloppyCalls.{FloppyFreshPromise, FloppyChangePromise, FloppyCallPromise}
use Rattle.pulse_record.specs.PulseRecord.{decode_drive, encode_drive, described_cartridge, described_place}
use Rattle.tapecard.specs.PulseCalls.{PulseCard, pulse_power_on, pulse_train, pulse_trains, pulse_tick, pulse_insert, pulse_remove, pulse_wait}
use Rattle.tapecard.specs.PulseCalls.{PulsePowerOnPromise, PulseTrainPromise, PulseTrainsPromise, PulseTickPromise, PulseInsertPromise}
use Rattle.tapecard.specs.PulseCalls.{PulseRemovePromise, PulseWaitPromise}

-- ---- "A refused call (number not 0) leaves the record's bytes, the image and every buffer exactly as they were; only the answer is written."

-- the number is byte 0 of every answer
abbrev pub Refused : List ℕ → Type 0
Refused answer = get_or answer 0 0 ≡ 0 → ⊥

abbrev pub PacketRefusedUntouched : Type 0
PacketRefusedUntouched =
    (state image packet buf : List ℕ) → Refused (packet_call state image packet buf).answer
    → packet_call state image packet buf ≡ packet_card state image buf (packet_call state image packet buf).answer

-- 02, A4: the index buffer too; the making of an index only reads its image
pub record IndexRefusedUntouched : Type 0 where
  pub make : (image index : List ℕ) → Refused (index_make_call image index).answer → (index_make_call image index).index ≡ index
  pub packet : (state image index packet buf : List ℕ) → Refused (index_packet_call state image index packet buf).card.answer
      → index_packet_call state image index packet buf
      ≡ index_card (packet_card state image buf (index_packet_call state image index packet buf).card.answer) index

-- the fresh record and the cartridge change only read their image
pub record FloppyRefusedUntouched : Type 0 where
  pub fresh : (state image : List ℕ) → Refused (floppy_fresh_call state image).answer → (floppy_fresh_call state image).state ≡ state
  pub change : (state image : List ℕ) → Refused (floppy_change_call state image).answer → (floppy_change_call state image).state ≡ state
  pub packet : (state image packet buf : List ℕ) → Refused (floppy_packet_call state image packet buf).answer
      → floppy_packet_call state image packet buf ≡ floppy_card state image buf (floppy_packet_call state image packet buf).answer

abbrev pub UntouchedIfRefused : List ℕ → PulseCard → Type 0
UntouchedIfRefused state x = Refused x.answer → x.state ≡ state

abbrev pub TrainRefusedUntouched : Type 0
TrainRefusedUntouched = (state : List ℕ) (pulses : ℕ) → UntouchedIfRefused state (pulse_train state pulses)

abbrev pub TickRefusedUntouched : Type 0
TickRefusedUntouched = (state : List ℕ) → UntouchedIfRefused state (pulse_tick state)

abbrev pub InsertRefusedUntouched : Type 0
InsertRefusedUntouched = (state cartridge : List ℕ) → UntouchedIfRefused state (pulse_insert state cartridge)

abbrev pub RemoveRefusedUntouched : Type 0
RemoveRefusedUntouched = (state : List ℕ) → UntouchedIfRefused state (pulse_remove state)

abbrev pub WaitRefusedUntouched : Type 0
WaitRefusedUntouched = (state : List ℕ) (limit : ℕ) → UntouchedIfRefused state (pulse_wait state limit)

-- ---- a card that keeps its record across a power cycle loses nothing

-- every element is a byte, as in each array that C or Rust lends
abbrev pub Bytes : List ℕ → Type 0
Bytes s = (i : ℕ) → get_or s i 0 < 256

-- the numbers that are wider inside fit their bytes
pub record FitsRecord (st : State) : Type 0 where
  pub position : st.position < 2 ^ 32
  pub speed : st.speed < 2 ^ 16
  pub information : st.sense.information < 2 ^ 32

abbrev pub StateKeptByCycle : Type 0
StateKeptByCycle = (st : State) → FitsRecord st → decode_state (encode_state st) ≡ st

-- every record that is read fits
abbrev pub DecodedStateFits : Type 0
DecodedStateFits = (s : List ℕ) → Bytes s → FitsRecord (decode_state s)

-- the tape parameters' numbers fit theirs
pub record FitsTape (t : Tape) : Type 0 where
  pub bseg : t.bseg < 2 ^ 8
  pub segtrk : t.segtrk < 2 ^ 16
  pub trks : t.trks < 2 ^ 16
  pub density : t.reported.density < 2 ^ 8
  pub fill : t.reported.fill < 2 ^ 8
  pub sector : t.reported.sector < 2 ^ 8
  pub cylinder : t.reported.cylinder < 2 ^ 8
  pub head : t.reported.head < 2 ^ 8

abbrev pub FloppyKeptByCycle : Type 0
FloppyKeptByCycle = (f : Floppy) → FitsRecord f.shared → FitsTape f.tape → decode_floppy (encode_floppy f) ≡ f

-- every record that is read fits
abbrev pub DecodedTapeFits : Type 0
DecodedTapeFits = (s : List ℕ) → Bytes s → FitsTape (decode_tape s)

-- "the value is read modulo 16^held"
abbrev pub HeldAlone : Option Waiting → Type 0
HeldAlone None = Unit {0}
HeldAlone (Some w) = w.value < 16 ^ w.held

-- what the rules leave open: numbers fit their bytes, no bits where no report is open, no nibble beyond those held
pub record FitsBytes (d : Drive) : Type 0 where
  pub vendor : d.vendor < 2 ^ 16
  pub rom : d.rom < 2 ^ 8
  pub command : d.fault.command < 2 ^ 8
  pub bits : d.report.bits < 2 ^ 16
  pub closed : d.report.left ≡ 0 → d.report.bits ≡ 0
  pub held : HeldAlone d.waiting

abbrev pub DriveKeptByCycle : Type 0
DriveKeptByCycle = (d : Drive) → keeps_rules d ≡ true → FitsBytes d → decode_drive (encode_drive d) ≡ d

-- every record that is read fits
abbrev pub DecodedDriveFits : Type 0
DecodedDriveFits = (s : List ℕ) → Bytes s → FitsBytes (decode_drive s)

-- ---- so bytes kept between calls follow the engine: whatever bytes a call is given, those it leaves spell what the engine's call left

pub record PacketFollows : Type 0 where
  pub fresh : decode_state packet_fresh ≡ fresh_state
  pub change : (state : List ℕ) → Bytes state → decode_state (packet_change state) ≡ changed_state (decode_state state)
  pub packet : (state image packet buf : List ℕ) → Bytes packet
      → decode_state (packet_call state image packet buf).state ≡ (packet_step image (decode_state state) packet buf).state

-- and so with an index beside it
abbrev pub IndexFollows : Type 0
IndexFollows =
    (state image index packet buf : List ℕ) → Bytes packet
    → decode_state (index_packet_call state image index packet buf).card.state ≡ (indexed_step image index (decode_state state) packet buf).left.state

-- a list of 28 bytes, in the buffer, sets the tape parameters
pub record FloppyFollows : Type 0 where
  pub fresh : (state image : List ℕ) → decode_floppy (floppy_fresh_call state image).state ≡ (fresh_floppy image (decode_floppy state)).state
  pub change : (state image : List ℕ) → Bytes state
      → decode_floppy (floppy_change_call state image).state ≡ (changed_floppy image (decode_floppy state)).state
  pub packet : (state image packet buf : List ℕ) → Bytes state → Bytes packet → Bytes buf
      → decode_floppy (floppy_packet_call state image packet buf).state ≡ (floppy_step image (decode_floppy state) packet buf).state

pub record PulseFollows : Type 0 where
  pub by_power_on : (vendor rom : ℕ) → vendor < 2 ^ 16 → rom < 2 ^ 8 → decode_drive (pulse_power_on vendor rom) ≡ power_on vendor rom
  pub train : (state : List ℕ) (n : ℕ) → Bytes state → decode_drive (pulse_train state n).state ≡ (train_call (decode_drive state) n).drive
  pub tick : (state : List ℕ) → Bytes state → decode_drive (pulse_tick state).state ≡ (tick_call (decode_drive state)).drive
  pub insert : (state cartridge : List ℕ) → Bytes state
      → decode_drive (pulse_insert state cartridge).state ≡ (insert_call (decode_drive state) (described_cartridge cartridge) (described_place cartridge)).drive
  pub remove : (state : List ℕ) → Bytes state → decode_drive (pulse_remove state).state ≡ (remove_call (decode_drive state)).drive
  pub wait : (state : List ℕ) (limit : ℕ) → Bytes state → decode_drive (pulse_wait state limit).state ≡ (wait_call (decode_drive state) limit).drive
  pub trains : (state counts levels : List ℕ) → Bytes state
      → decode_drive (pulse_trains state counts levels).card.state ≡ (trains_call (decode_drive state) counts levels).step.drive

-- and what they leave are bytes again, so this holds call after call
pub record StaysBytes : Type 0 where
  pub by_power_on : (vendor rom : ℕ) → vendor < 2 ^ 16 → rom < 2 ^ 8 → Bytes (pulse_power_on vendor rom)
  pub train : (state : List ℕ) (n : ℕ) → Bytes state → Bytes (pulse_train state n).state
  pub tick : (state : List ℕ) → Bytes state → Bytes (pulse_tick state).state
  pub insert : (state cartridge : List ℕ) → Bytes state → Bytes (pulse_insert state cartridge).state
  pub remove : (state : List ℕ) → Bytes state → Bytes (pulse_remove state).state
  pub wait : (state : List ℕ) (limit : ℕ) → Bytes state → Bytes (pulse_wait state limit).state
  pub trains : (state counts levels : List ℕ) → Bytes state → Bytes (pulse_trains state counts levels).card.state
  pub levels : (state counts levels : List ℕ) → Bytes levels → Bytes (pulse_trains state counts levels).levels

-- and so with the packet drive's record; its answer is bytes too
pub record PacketStaysBytes : Type 0 where
  pub fresh : Bytes packet_fresh
  pub change : (state : List ℕ) → Bytes (packet_change state)
  pub packet : (state image packet buf : List ℕ) → Bytes state → Bytes (packet_call state image packet buf).state
  pub answer : (state image packet buf : List ℕ) → Bytes (packet_call state image packet buf).answer

-- and so with an index beside it, which is bytes again
pub record IndexStaysBytes : Type 0 where
  pub make : (image index : List ℕ) → Bytes index → Bytes (index_make_call image index).index
  pub make_answer : (image index : List ℕ) → Bytes (index_make_call image index).answer
  pub packet : (state image index packet buf : List ℕ) → Bytes state → Bytes (index_packet_call state image index packet buf).card.state
  pub index : (state image index packet buf : List ℕ) → Bytes index → Bytes (index_packet_call state image index packet buf).index
  pub answer : (state image index packet buf : List ℕ) → Bytes (index_packet_call state image index packet buf).card.answer

pub record FloppyStaysBytes : Type 0 where
  pub fresh : (state image : List ℕ) → Bytes state → Bytes (floppy_fresh_call state image).state
  pub change : (state image : List ℕ) → Bytes state → Bytes (floppy_change_call state image).state
  pub fresh_answer : (state image : List ℕ) → Bytes (floppy_fresh_call state image).answer
  pub change_answer : (state image : List ℕ) → Bytes (floppy_change_call state image).answer
  pub packet : (state image packet buf : List ℕ) → Bytes state → Bytes buf → Bytes (floppy_packet_call state image packet buf).state
  pub answer : (state image packet buf : List ℕ) → Bytes (floppy_packet_call state image packet buf).answer

-- "From any reachable pulse state with a cartridge in: after as many silent ticks as a track has segments, the 46 recovery trains ..", on the bytes
-- themselves: whatever 32 bytes spell a drive that keeps the rules, with a cartridge in
pub record BytesRecovered (before rested last : List ℕ) : Type 0 where
  pub drive : Recovered (decode_drive before) (decode_drive rested) (decode_drive last)
  pub answered : answers_on rested recovery_trains ≡ map told (answers (decode_drive rested) recovery_trains)

abbrev pub CardRecovers : Type 0
CardRecovers =
    (state : List ℕ) → Bytes state → keeps_rules (decode_drive state) ≡ true → (decode_drive state).marks.inside ≡ true
    → BytesRecovered state (ticks_on (silent_ticks (decode_drive state)) state)
    (trains_on (ticks_on (silent_ticks (decode_drive state)) state) recovery_trains)

-- the same at any pace: any number of tick calls from G up, and any number before each train
pub record BytesRegained (pauses : ℕ → ℕ) (before rested last : List ℕ) : Type 0 where
  pub drive : Regained (paced_answers pauses (decode_drive rested) recovery_trains) (decode_drive before) (decode_drive rested) (decode_drive last)
  pub answered : paced_answers_on pauses rested recovery_trains ≡ map told (paced_answers pauses (decode_drive rested) recovery_trains)

abbrev pub CardRecoversAtAnyPace : Type 0
CardRecoversAtAnyPace =
    (state : List ℕ) (k : ℕ) (pauses : ℕ → ℕ) → Bytes state
    → keeps_rules (decode_drive state) ≡ true → (decode_drive state).marks.inside ≡ true → silent_ticks (decode_drive state) ≤ k
    → BytesRegained pauses state (ticks_on k state) (paced_on pauses (ticks_on k state) recovery_trains)

-- ---- 02, A4: "SPACE over filemarks through the index gives the same answer, sense and position as without it.", and so does every other packet: whatever
-- bytes are given, where the index is not what refuses, record, image, data and answer are those that `tapecard_packet` leaves

-- the number is neither 9 nor 10
abbrev pub IndexPasses : List ℕ → Type 0
IndexPasses answer = (get_or answer 0 0 ≡ short_index → ⊥) × (get_or answer 0 0 ≡ stale_index → ⊥)

abbrev pub CardSameAsPacket : Type 0
CardSameAsPacket =
    (state image index packet buf : List ℕ) → IndexPasses (index_packet_call state image index packet buf).card.answer
    → (index_packet_call state image index packet buf).card ≡ packet_call state image packet buf

-- ---- 02, A8, on the bytes themselves: a cartridge that is locked in stays in, whatever is sent, until it is allowed out

-- bits 0 and 1 of byte 4: loaded and locked
abbrev pub LockedIn : List ℕ → Type 0
LockedIn state = (is_set (get_or state 4 0) 1 ≡ true) × (is_set (get_or state 4 0) 2 ≡ true)

-- 1Eh with bit 0 of byte 4 clear
abbrev pub Allows : List ℕ → Type 0
Allows packet = (get_or packet 0 0 ≡ 0x1e) × (is_set (get_or packet 4 0) 1 ≡ false)

pub record CardLockedStays : Type 0 where
  pub packet : (state image packet buf : List ℕ) → Bytes packet → (Allows packet → ⊥)
      → LockedIn state → LockedIn (packet_call state image packet buf).state
  pub index_packet : (state image index packet buf : List ℕ) → Bytes packet → (Allows packet → ⊥)
      → LockedIn state → LockedIn (index_packet_call state image index packet buf).card.state
  pub change : (state : List ℕ) → Bytes state → LockedIn state → LockedIn (packet_change state)
  pub floppy_packet : (state image packet buf : List ℕ) → Bytes state → Bytes packet → Bytes buf → (Allows packet → ⊥)
      → LockedIn state → LockedIn (floppy_packet_call state image packet buf).state
  pub floppy_change : (state image : List ℕ) → Bytes state → LockedIn state → LockedIn (floppy_change_call state image).state

-- and no count of an answer is cut: "4-7 blocks; 8-11 bytes; 12-15 .. marked" of a packet and of an index made, "4-7 ticks" of a wait

-- the three counts of an answer of 16 bytes
pub record CountsIn (answer : List ℕ) (a : Answer) : Type 0 where
  pub blocks : count_at answer 4 4 ≡ a.blocks
  pub bytes : count_at answer 8 4 ≡ a.bytes
  pub marked : count_at answer 12 4 ≡ a.marked

pub record CountsWhole : Type 0 where
  pub blocks : (state image packet buf : List ℕ) → Bytes packet
      → count_at (packet_call state image packet buf).answer 4 4 ≡ blocks_of (packet_step image (decode_state state) packet buf)
  pub bytes : (state image packet buf : List ℕ) → Bytes packet
      → count_at (packet_call state image packet buf).answer 8 4 ≡ bytes_of (packet_step image (decode_state state) packet buf)
  pub marked : (state image packet buf : List ℕ) → Bytes packet
      → count_at (packet_call state image packet buf).answer 12 4 ≡ marked_of (packet_step image (decode_state state) packet buf)
  pub index_make : (image index : List ℕ) → CountsIn (index_make_call image index).answer (makes image index).answer
  pub index_packet : (state image index packet buf : List ℕ) → Bytes packet
      → CountsIn (index_packet_call state image index packet buf).card.answer (indexed_step image index (decode_state state) packet buf).left.answer
  pub floppy_blocks : (state image packet buf : List ℕ) → Bytes packet
      → count_at (floppy_packet_call state image packet buf).answer 4 4 ≡ blocks_of (floppy_step image (decode_floppy state) packet buf)
  pub floppy_bytes : (state image packet buf : List ℕ) → Bytes packet
      → count_at (floppy_packet_call state image packet buf).answer 8 4 ≡ bytes_of (floppy_step image (decode_floppy state) packet buf)
  pub floppy_marked : (state image packet buf : List ℕ) → Bytes packet
      → count_at (floppy_packet_call state image packet buf).answer 12 4 ≡ marked_of (floppy_step image (decode_floppy state) packet buf)
  pub ticks : (state : List ℕ) (limit : ℕ) → limit < 2 ^ 32 → count_at (pulse_wait state limit).answer 4 4 ≡ (wait_call (decode_drive state) limit).ticks

-- ---- 01: "Prove that any two outcomes allowed by it coincide"

pub record Settled : Type 0 where
  pub fresh : Settles PacketFreshPromise
  pub change : (state : List ℕ) → Settles (PacketChangePromise state)
  pub packet : (state image packet buf : List ℕ) → Settles (PacketCallPromise state image packet buf)
  pub index_make : (image index : List ℕ) → Settles (IndexMakePromise image index)
  pub index_packet : (state image index packet buf : List ℕ) → Settles (IndexCallPromise state image index packet buf)
  pub floppy_fresh : (state image : List ℕ) → Settles (FloppyFreshPromise state image)
  pub floppy_change : (state image : List ℕ) → Settles (FloppyChangePromise state image)
  pub floppy_packet : (state image packet buf : List ℕ) → Settles (FloppyCallPromise state image packet buf)
  pub by_power_on : (vendor rom : ℕ) → Settles (PulsePowerOnPromise vendor rom)
  pub train : (state : List ℕ) (pulses : ℕ) → Settles (PulseTrainPromise state pulses)
  pub tick : (state : List ℕ) → Settles (PulseTickPromise state)
  pub insert : (state cartridge : List ℕ) → Settles (PulseInsertPromise state cartridge)
  pub remove : (state : List ℕ) → Settles (PulseRemovePromise state)
  pub wait : (state : List ℕ) (limit : ℕ) → Settles (PulseWaitPromise state limit)
  pub trains : (state counts levels : List ℕ) → Settles (PulseTrainsPromise state counts levels)
