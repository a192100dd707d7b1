-- The work of each command of the floppy tape device, once nothing before it ended the packet.
-- Assumes nothing.
use Rattle.std.specs.Prelude.{ℕ, ◌-◌, ◌≤◌, false, not, List, ◌≡◌, if◌then◌else◌, Some}
use Rattle.numbers.specs.Choice.{◌≡ᵇ◌, ◌<ᵇ◌, ◌≤ᵇ◌}
use Rattle.image.specs.declared.header.Header.{Header}
use Rattle.image.specs.Header.{header_of}
use Rattle.opcodes.specs.declared.Command.{Command}
use Rattle.opcodes.specs.declared.Command.TheVariants.{Unknown, TestUnitReady, Rewind, RequestSense, Read, Write, WriteFilemarks, Space, Inquiry}
use Rattle.opcodes.specs.declared.Command.TheVariants.{ModeSelect, ModeSense, LoadUnload, Locate, ReadPosition, PreventAllow}
use Rattle.transfer.specs.declared.Stop.{Stop}
use Rattle.transfer.specs.declared.Stop.TheVariants.{Full, AtFilemark, AtBadBlock, AtEnd, AtBeginning}
use Rattle.transfer.specs.Reading.{Reading, read_from}
use Rattle.transfer.specs.Writing.{Writing, write_from}
use Rattle.packet_state.specs.Answers.{Ending, Good, Check}
use Rattle.packet_state.specs.declared.state.Outcome.{Outcome}
use Rattle.packet_state.specs.declared.state.State.{State}
use Rattle.packet_state.specs.Senses.{unreadable_block, end_of_data, volume_overflow, wrong_list}
use Rattle.packet_state.specs.States.{highest_key, at_place}
use Rattle.packet_parts.specs.declared.requests.Request.{Request}
use Rattle.packet_parts.specs.Answers.{Left, done, ends}
use Rattle.packet_parts.specs.Replies.{sense_bytes, full_list}
use Rattle.packet_parts.specs.Requests.{load_bit, prevent_bit}
use Rattle.packet_work.specs.Moving.{moves, read_moves}
use Rattle.packet_work.specs.Replies.{reply_work}
use Rattle.packet_work.specs.Settings.{speed_work, load_work, lock_work}
use Rattle.floppy_parts.specs.declared.tape.Tape.{Tape}
use Rattle.floppy_parts.specs.Replies.{floppy_inquiry, tape_list, mode_bytes}
use Rattle.floppy_parts.specs.Requests.{blocks_asked, block_number}
use Rattle.floppy_parts.specs.Settings.{good_tape_list}
use Rattle.floppy_parts.specs.Tape.{product, listed_tape}

-- what a packet has passed when it comes to its work: the image has the header h, and the record keeps rule 3
pub record Passed (s : List ℕ) (h : Header) (st : State) (t : Tape) : Type 0 where
  pub header : header_of s ≡ Some h
  pub within : product t ≤ h.capacity
  pub place : st.position ≤ product t
  pub key : st.sense.key ≤ highest_key

-- ---- 08h READ

-- "Reads and writes stop at the product as the stream device does at U and at C; .. kind 2 counts as unreadable. Its residue on an unreadable block leaves
-- out the block in error"; "W plays no part": no EOM; no READ stops at the beginning
unfoldable pub read_ending : Stop → ℕ → Ending
read_ending Full left = Good
read_ending AtFilemark left = Check (unreadable_block (left - 1))
read_ending AtBadBlock left = Check (unreadable_block (left - 1))
read_ending AtEnd left = Check (end_of_data false left)
read_ending AtBeginning left = Good

unfoldable pub read_ends : Header → State → ℕ → List ℕ → Reading → Left State
read_ends h st asked s r = done (read_moves s h.kinds st asked h.size r.moved (read_ending r.moved.stop r.moved.left)) s r.buf

-- up to the product, `end`
unfoldable pub read_work : List ℕ → Header → ℕ → State → ℕ → List ℕ → Left State
read_work s h end st asked buf =
    read_ends h st asked s (read_from s h.size h.kinds h.blocks end asked 0 st.position buf)

-- ---- 0Ah WRITE

-- "W plays no part": no early warning
unfoldable pub write_ending : ℕ → Ending
write_ending left = if 1 ≤ᵇ left then Check (volume_overflow left) else Good

-- "a write leaves U": bytes and kind 1 stored, no header byte; A6: "WRITE still stores kind 1", whatever the tape parameter WDAM says
unfoldable pub write_ends : State → ℕ → ℕ → List ℕ → Writing → Left State
write_ends st asked size buf w = done (moves st asked size w.moved (write_ending w.moved.left)) w.image buf

unfoldable pub write_work : List ℕ → Header → ℕ → State → ℕ → List ℕ → Left State
write_work s h end st asked buf =
    write_ends st asked h.size buf (write_from h.size h.kinds h.blocks end buf asked 0 st.position s)

-- ---- 15h MODE SELECT

-- "one that puts it below P sets P 0"
unfoldable pub place_under : ℕ → ℕ → ℕ
place_under end p = if end <ᵇ p then 0 else p

unfoldable pub tape_work : Header → State → List ℕ → Outcome State
tape_work h st list =
    if not (good_tape_list h list) then ends st (Check wrong_list) 0 0 else
    ends (at_place st (place_under (product (listed_tape list)) st.position)) Good 0 tape_list

-- lengths 0 and 12 set nothing; 32 sets the speed, as 01 says; 28 the tape parameters
unfoldable pub select_work : Header → State → ℕ → List ℕ → Outcome State
select_work h st asked list =
    if asked ≡ᵇ full_list then speed_work st list else
    if asked ≡ᵇ tape_list then tape_work h st list else
    ends st Good 0 asked

-- ---- by command

-- 10h "flushes and stores nothing"; 2Bh "LOCATE runs to BSEG*SEGTRK*TRKS - 1", judged before the work; 01h, 11h, 34h and every unknown byte end before it
unfoldable pub work_of : Command → List ℕ → Header → State → Tape → Request → List ℕ → Left State
work_of Unknown s h st t q buf = done (ends st Good 0 0) s buf
work_of TestUnitReady s h st t q buf = done (ends st Good 0 0) s buf
work_of Rewind s h st t q buf = done (ends st Good 0 0) s buf
work_of RequestSense s h st t q buf = reply_work (sense_bytes st.sense) q.length st s buf
work_of Read s h st t q buf = read_work s h (product t) st (blocks_asked q) buf
work_of Write s h st t q buf = write_work s h (product t) st (blocks_asked q) buf
work_of WriteFilemarks s h st t q buf = done (ends st Good 0 0) s buf
work_of Space s h st t q buf = done (ends st Good 0 0) s buf
work_of Inquiry s h st t q buf = reply_work floppy_inquiry q.length st s buf
work_of ModeSelect s h st t q buf = done (select_work h st q.length buf) s buf
work_of ModeSense s h st t q buf = reply_work (mode_bytes h st t q) q.length st s buf
work_of LoadUnload s h st t q buf = done (load_work st (load_bit q)) s buf
work_of Locate s h st t q buf = done (ends (at_place st (block_number q)) Good 0 0) s buf
work_of ReadPosition s h st t q buf = done (ends st Good 0 0) s buf
work_of PreventAllow s h st t q buf = done (lock_work st (prevent_bit q)) s buf
