-- The bytes that 12h and 1Ah give, where the floppy tape device has its own.
-- Assumes nothing.
use Rattle.std.specs.Prelude.{ℕ, ◌-◌, List, [], ◌∷◌, ◌++◌, if◌then◌else◌}
use Rattle.numbers.specs.Choice.{◌≡ᵇ◌}
use Rattle.numbers.specs.Counts.{count_bytes}
use Rattle.image.specs.declared.header.Header.{Header}
use Rattle.packet_state.specs.declared.state.State.{State}
use Rattle.packet_parts.specs.declared.requests.Request.{Request}
use Rattle.packet_parts.specs.Replies.{device_page, short_list, full_list, inquiry_bytes, mode_header, device_page_bytes}
use Rattle.packet_parts.specs.Requests.{page_code}
use Rattle.floppy_parts.specs.declared.tape.Tape.{Tape}
use Rattle.floppy_parts.specs.Tape.{flags_byte}

-- ---- 12h

-- "device type 1Fh"
abbrev pub floppy_inquiry : List ℕ
floppy_inquiry = inquiry_bytes 0x1f

-- ---- 1Ah

-- "The Tape Parameters page 2Bh"
abbrev pub tape_page : ℕ
tape_page = 0x2b

-- 004: "Page Length (0Eh)", the bytes of the page after these two
abbrev pub tape_page_length : ℕ
tape_page_length = 0x0e

-- "its list has 28 bytes": the header and the page
abbrev pub tape_list : ℕ
tape_list = 28

abbrev pub length_for : ℕ → ℕ
length_for code =
    if code ≡ᵇ device_page then full_list else
    if code ≡ᵇ tape_page then tape_list else
    short_list

abbrev pub mode_length : Request → ℕ
mode_length q = length_for (page_code q)

-- 004, table 3-3: byte 4 is FTM, 02h, "operating in floppy tape mode"; bytes 12-13 are the "Continuous Transfer Limit (in blocks)", a segment's
abbrev pub floppy_mode : ℕ
floppy_mode = 0x02

-- 004, table 3-4: 2Bh 0Eh, density, 0, fill byte, BSEG, SEGTRK, TRKS, MAXSECT, MAXCYL, MAXHD, 0, 0, flags
abbrev pub tape_page_bytes : Tape → List ℕ
tape_page_bytes t =
    tape_page ∷ tape_page_length ∷ t.reported.density ∷ 0 ∷ t.reported.fill ∷ t.bseg
    ∷ (count_bytes 2 t.segtrk ++ (count_bytes 2 t.trks
    ++ (t.reported.sector ∷ t.reported.cylinder ∷ t.reported.head ∷ 0 ∷ 0 ∷ flags_byte t.reported ∷ [])))

abbrev pub tape_mode : Header → Tape → List ℕ
tape_mode h t = mode_header h (tape_list - 1) ++ tape_page_bytes t

-- header and page of each page code; "0 the length after itself"
abbrev pub mode_bytes : Header → State → Tape → Request → List ℕ
mode_bytes h st t q =
    if page_code q ≡ᵇ device_page then mode_header h (full_list - 1) ++ device_page_bytes h st floppy_mode t.bseg else
    if page_code q ≡ᵇ tape_page then tape_mode h t else
    mode_header h (short_list - 1)
