-- The work of each command, once nothing before it ended the packet.
-- Assumes nothing.
use Rattle.std.specs.Prelude.{ℕ, ◌-◌, ◌^◌, ◌<◌, ◌≤◌, not, ◌&&◌, List, ◌≡◌, Some, if◌then◌else◌}
use Rattle.numbers.specs.Choice.{◌≡ᵇ◌, ◌<ᵇ◌, ◌≤ᵇ◌}
use Rattle.image.specs.declared.header.Header.{Header}
use Rattle.image.specs.Elements.{record_to}
use Rattle.image.specs.Header.{header_of}
use Rattle.opcodes.specs.declared.Command.{Command}
use Rattle.opcodes.specs.declared.Command.TheVariants.{Unknown, TestUnitReady, Rewind, RequestSense, Read, Write, WriteFilemarks, Space, Inquiry}
use Rattle.opcodes.specs.declared.Command.TheVariants.{ModeSelect, ModeSense, LoadUnload, Locate, ReadPosition, PreventAllow}
use Rattle.transfer.specs.declared.Moved.{Moved}
use Rattle.transfer.specs.declared.Stop.{Stop}
use Rattle.transfer.specs.declared.Stop.TheVariants.{Full, AtFilemark, AtBadBlock, AtEnd, AtBeginning}
use Rattle.transfer.specs.Reading.{Reading, read_from}
use Rattle.transfer.specs.Writing.{Writing, write_from, mark_from}
use Rattle.transfer.specs.Spacing.{blocks_on, blocks_back, marks_on, marks_back}
use Rattle.packet_state.specs.Answers.{Ending, Good, Check}
use Rattle.packet_state.specs.declared.state.Outcome.{Outcome}
use Rattle.packet_state.specs.declared.state.State.{State}
use Rattle.packet_parts.specs.declared.requests.Request.{Request}
use Rattle.packet_parts.specs.Answers.{Left, done, ends}
use Rattle.packet_parts.specs.Replies.{sense_bytes, full_list}
use Rattle.packet_parts.specs.Requests.{load_bit, prevent_bit}
use Rattle.packet_work.specs.Moving.{moves, read_moves}
use Rattle.packet_work.specs.Replies.{reply_work}
use Rattle.packet_work.specs.Settings.{speed_work, load_work, lock_work}
use Rattle.stream_parts.specs.Replies.{stream_inquiry, mode_bytes, position_bytes, position_length}
use Rattle.stream_parts.specs.Requests.{space_code, over_blocks, to_end_of_data, is_back, magnitude}
use Rattle.stream_parts.specs.Warning.{past_warning}
use Rattle.packet_state.specs.Senses.{filemark_detected, unreadable_block, end_of_data, volume_overflow, early_warning, beginning_of_tape, beyond_data}
use Rattle.packet_state.specs.States.{highest_key, at_place}

-- what a packet has passed when it comes to its work: the image has the header h, the record keeps rule 3, and a count has three bytes
pub record Passed (s : List ℕ) (h : Header) (st : State) (q : Request) : Type 0 where
  pub header : header_of s ≡ Some h
  pub place : st.position ≤ h.recorded
  pub key : st.sense.key ≤ highest_key
  pub count : q.count < 2 ^ 24

-- ---- 08h READ

-- "Filemark: P + 1, stop, key 0, filemark, 00/01. Unreadable: P + 1, stop, 3/11/00. P = U: stop, 8/00/05, no EOM. A stop is valid with information N minus
-- blocks copied."; SPACE's "End of data 8/00/05; beginning key 0, EOM, 00/04"; 02, A3: "So 8/00/05 on READ and SPACE carries EOM when U > C - W."
unfoldable pub ending_of : Header → Stop → ℕ → Ending
ending_of h Full left = Good
ending_of h AtFilemark left = Check (filemark_detected left)
ending_of h AtBadBlock left = Check (unreadable_block left)
ending_of h AtEnd left = Check (end_of_data (past_warning h h.recorded) left)
ending_of h AtBeginning left = Check (beginning_of_tape left)

unfoldable pub read_ends : Header → State → ℕ → List ℕ → Reading → Left State
read_ends h st asked s r = done (read_moves s h.kinds st asked h.size r.moved (ending_of h r.moved.stop r.moved.left)) s r.buf

unfoldable pub read_work : List ℕ → Header → State → ℕ → List ℕ → Left State
read_work s h st asked buf =
    read_ends h st asked s (read_from s h.size h.kinds h.blocks h.recorded asked 0 st.position buf)

-- ---- 0Ah WRITE, 10h WRITE FILEMARK

-- "At P = C: stop, key D, EOM, 00/02, valid, information the rest. .. If all N >= 1 are stored and P > C - W: CHECK CONDITION, key 0, EOM, 00/02, valid,
-- information 0."
unfoldable pub write_ending : Header → ℕ → Moved → Ending
write_ending h asked moved =
    if 1 ≤ᵇ moved.left then Check (volume_overflow moved.left) else
    if (1 ≤ᵇ asked) && past_warning h moved.place then Check early_warning else
    Good

-- "U = new P", once for all that the run stored
unfoldable pub write_ends : Header → State → ℕ → ℕ → List ℕ → Writing → Left State
write_ends h st asked size buf w =
    done (moves st asked size w.moved (write_ending h asked w.moved)) (record_to w.image st.position w.moved.place) buf

unfoldable pub write_work : List ℕ → Header → State → ℕ → List ℕ → Left State
write_work s h st asked buf =
    write_ends h st asked h.size buf (write_from h.size h.kinds h.blocks h.capacity buf asked 0 st.position s)

-- "N (bytes 2-4) filemarks by WRITE's rules": no bytes are taken from the buffer
unfoldable pub mark_work : List ℕ → Header → State → ℕ → List ℕ → Left State
mark_work s h st asked buf = write_ends h st asked 0 buf (mark_from h.kinds h.capacity asked st.position s)

-- ---- 11h SPACE

-- "Code 0 passes blocks .. Code 1 passes filemarks", on, or back where the count is negative
unfoldable pub space_run : List ℕ → Header → ℕ → ℕ → ℕ → Moved
space_run s h p code count =
    if (code ≡ᵇ over_blocks) && is_back count then blocks_back s h.kinds p (magnitude count) else
    if code ≡ᵇ over_blocks then blocks_on s h.kinds h.recorded (magnitude count) p else
    if is_back count then marks_back s h.kinds p (magnitude count) else
    marks_on s h.kinds (h.recorded - p) (magnitude count) p

abbrev pub space_ends : Header → State → Moved → Outcome State
space_ends h st moved = ends (at_place st moved.place) (ending_of h moved.stop moved.left) 0 0

-- "Code 3: P = U."
unfoldable pub space_work : List ℕ → Header → State → ℕ → ℕ → Outcome State
space_work s h st code count =
    if code ≡ᵇ to_end_of_data then ends (at_place st h.recorded) Good 0 0 else
    space_ends h st (space_run s h st.position code count)

-- ---- 15h MODE SELECT

-- "list length (byte 4, a field) 0, 12 or 32 .. Length 32: page bytes 2Ah 12h and speed .., else 5/26/00; other bytes ignored."
unfoldable pub select_work : State → ℕ → List ℕ → Outcome State
select_work st asked list =
    if not (asked ≡ᵇ full_list) then ends st Good 0 asked else
    speed_work st list

-- ---- 2Bh LOCATE

-- "Above U: P = U, 8/00/05, not valid. Else P = target."
unfoldable pub locate_work : Header → State → ℕ → Outcome State
locate_work h st target =
    if h.recorded <ᵇ target then ends (at_place st h.recorded) (Check beyond_data) 0 0 else
    ends (at_place st target) Good 0 0

-- ---- by command

unfoldable pub work_of : Command → List ℕ → Header → State → Request → List ℕ → Left State
work_of Unknown s h st q buf = done (ends st Good 0 0) s buf
work_of TestUnitReady s h st q buf = done (ends st Good 0 0) s buf
work_of Rewind s h st q buf = done (ends (at_place st 0) Good 0 0) s buf
work_of RequestSense s h st q buf = reply_work (sense_bytes st.sense) q.length st s buf
work_of Read s h st q buf = read_work s h st q.count buf
work_of Write s h st q buf = write_work s h st q.count buf
work_of WriteFilemarks s h st q buf = mark_work s h st q.count buf
work_of Space s h st q buf = done (space_work s h st (space_code q) q.count) s buf
work_of Inquiry s h st q buf = reply_work stream_inquiry q.length st s buf
work_of ModeSelect s h st q buf = done (select_work st q.length buf) s buf
work_of ModeSense s h st q buf = reply_work (mode_bytes h st q) q.length st s buf
work_of LoadUnload s h st q buf = done (load_work st (load_bit q)) s buf
work_of Locate s h st q buf = done (locate_work h st q.target) s buf
work_of ReadPosition s h st q buf = reply_work (position_bytes h st) position_length st s buf
work_of PreventAllow s h st q buf = done (lock_work st (prevent_bit q)) s buf
