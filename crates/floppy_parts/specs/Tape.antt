-- 02, A1: the tape parameters, and the record of the floppy tape device.
-- Assumes nothing.
use Rattle.std.specs.Prelude.{ℕ, ◌+◌, ◌*◌, List, get_or}
use Rattle.numbers.specs.Counts.{count_at}
use Rattle.numbers.specs.Flags.{is_set, weight_of}
use Rattle.packet_state.specs.declared.state.Outcome.{Outcome}
use Rattle.packet_state.specs.declared.state.State.{State}
use Rattle.packet_parts.specs.Answers.{Left}
use Rattle.packet_parts.specs.Replies.{short_list}
use Rattle.floppy_parts.specs.declared.tape.Reported.{Reported}
use Rattle.floppy_parts.specs.declared.tape.Tape.{Tape}
use Rattle.floppy_parts.specs.declared.tape.Floppy.{Floppy}

-- "BSEG*SEGTRK*TRKS": the blocks that the device has
unfoldable pub product : Tape → ℕ
product t = t.bseg * t.segtrk * t.trks

-- ---- the rest, "only stored and reported"

-- 004, byte 15 of the page: WDAM 80h, RM 40h, FW 20h; the other bits are reserved
abbrev pub flags_byte : Reported → ℕ
flags_byte x = weight_of x.deleted 0x80 + weight_of x.reduced 0x40 + weight_of x.formatting 0x20

abbrev pub reported_of : ℕ → ℕ → ℕ → ℕ → ℕ → ℕ → Reported
reported_of density fill sector cylinder head flags =
    record {
      density = density;
      fill = fill;
      sector = sector;
      cylinder = cylinder;
      head = head;
      deleted = is_set flags 0x80;
      reduced = is_set flags 0x40;
      formatting = is_set flags 0x20;
    }

-- ---- where the parameters come from

-- "After a load, in a fresh record and after a cartridge change BSEG is 1, SEGTRK C, TRKS 1 and the rest 0"
unfoldable pub reset_tape : ℕ → Tape
reset_tape capacity = record { bseg = 1; segtrk = capacity; trks = 1; reported = reported_of 0 0 0 0 0 0 }

-- "The Tape Parameters page 2Bh is .. set; its list has 28 bytes": byte n of the page stands after the header
abbrev pub page_byte : List ℕ → ℕ → ℕ
page_byte list n = get_or list (short_list + n) 0

-- 004, table 3-4: 2 density, 4 fill byte, 5 BSEG, 6-7 SEGTRK, 8-9 TRKS, 10 MAXSECT, 11 MAXCYL, 12 MAXHD, 15 flags
unfoldable pub listed_tape : List ℕ → Tape
listed_tape list =
    record {
      bseg = page_byte list 5;
      segtrk = count_at list (short_list + 6) 2;
      trks = count_at list (short_list + 8) 2;
      reported = reported_of (page_byte list 2) (page_byte list 4) (page_byte list 10) (page_byte list 11) (page_byte list 12) (page_byte list 15);
    }

-- ---- the record: what every packet device keeps, and the tape parameters

abbrev pub floppy_of : State → Tape → Floppy
floppy_of shared tape = record { shared = shared; tape = tape }

abbrev pub with_shared : Floppy → State → Floppy
with_shared f shared = floppy_of shared f.tape

-- what was done with the shared record, beside these tape parameters
abbrev pub joined : Outcome State → Tape → Outcome Floppy
joined out tape = record { answer = out.answer; state = floppy_of out.state tape }

abbrev pub beside : Left State → Tape → Left Floppy
beside x tape = record { answer = x.answer; state = floppy_of x.state tape; image = x.image; buf = x.buf }
