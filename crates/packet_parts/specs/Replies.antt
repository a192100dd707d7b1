-- The bytes that 03h, 12h and 1Ah give, and the copying of a reply.
-- Assumes nothing.
use Rattle.std.specs.Prelude.{ℕ, ◌+◌, min, Bool, List, [], ◌∷◌, ◌++◌, length, take}
use Rattle.numbers.specs.Choice.{◌≡ᵇ◌}
use Rattle.numbers.specs.Counts.{count_bytes}
use Rattle.numbers.specs.Flags.{weight_of}
use Rattle.numbers.specs.Over.{over}
use Rattle.image.specs.declared.header.Header.{Header}
use Rattle.packet_state.specs.Answers.{Good}
use Rattle.packet_state.specs.declared.state.Outcome.{Outcome}
use Rattle.packet_state.specs.declared.state.Sense.{Sense}
use Rattle.packet_state.specs.declared.state.State.{State}
use Rattle.packet_parts.specs.Answers.{ends}
use Rattle.packet_parts.specs.Verdicts.{is_protected}

-- ---- 03h

abbrev pub sense_length : ℕ
sense_length = 20

-- "Byte 0 is 70h, F0h when valid; 2: filemark 80h, EOM 40h, key in the low four bits; 3-6 information; 7 is 0Ch, also when shortened; 12 ASC; 13 ASCQ;
-- others 0."
abbrev pub sense_bytes : Sense → List ℕ
sense_bytes x =
    (0x70 + weight_of x.valid 0x80) ∷ 0 ∷ (weight_of x.filemark 0x80 + weight_of x.eom 0x40 + x.key)
    ∷ (count_bytes 4 x.information ++ (0x0c ∷ 0 ∷ 0 ∷ 0 ∷ 0 ∷ x.asc ∷ x.ascq ∷ 0 ∷ 0 ∷ 0 ∷ 0 ∷ 0 ∷ 0 ∷ []))

-- ---- 12h

abbrev pub inquiry_length : ℕ
inquiry_length = 36

-- "36 bytes, 01h 80h 02h 02h 1Fh, three 00, "TYPEHAUS", "TAPE CARD" padded to 16 with spaces, "0100"", with the device's own first byte
abbrev pub inquiry_bytes : ℕ → List ℕ
inquiry_bytes device =
    device ∷ 0x80 ∷ 0x02 ∷ 0x02 ∷ 0x1f ∷ 0 ∷ 0 ∷ 0
    ∷ 0x54 ∷ 0x59 ∷ 0x50 ∷ 0x45 ∷ 0x48 ∷ 0x41 ∷ 0x55 ∷ 0x53
    ∷ 0x54 ∷ 0x41 ∷ 0x50 ∷ 0x45 ∷ 0x20 ∷ 0x43 ∷ 0x41 ∷ 0x52 ∷ 0x44 ∷ 0x20 ∷ 0x20 ∷ 0x20 ∷ 0x20 ∷ 0x20 ∷ 0x20 ∷ 0x20
    ∷ 0x30 ∷ 0x31 ∷ 0x30 ∷ 0x30 ∷ []

-- ---- 1Ah

-- "page .. 00h or 2Ah"
abbrev pub header_alone : ℕ
header_alone = 0

abbrev pub device_page : ℕ
device_page = 0x2a

-- "2Ah 12h": the bytes of the page after these two
abbrev pub device_page_length : ℕ
device_page_length = 0x12

-- the header, and with the device page: 15h, "list length (byte 4, a field) 0, 12 or 32"
abbrev pub short_list : ℕ
short_list = 12

abbrev pub full_list : ℕ
full_list = 32

-- "Header 12 bytes: 0 the length after itself, 1 medium type, 2 is 80h if protected."
abbrev pub mode_header : Header → ℕ → List ℕ
mode_header h after = after ∷ h.medium ∷ weight_of (is_protected h) 0x80 ∷ 0 ∷ 0 ∷ 0 ∷ 0 ∷ 0 ∷ 0 ∷ 0 ∷ 0 ∷ 0 ∷ []

-- "byte 6 08h"; 02, A8: "Page 2Ah shows LOCK (01h) always and LOCKED (02h) while locked, in byte 6."
abbrev pub door_byte : Bool → ℕ
door_byte locked = 0x08 + 0x01 + weight_of locked 0x02

-- "Page 20 bytes: 2Ah 12h; byte 6 08h; byte 7 04h if B is 1024; 8-9 500; 12-13 64; 14-15 speed; 16-17 128; others 0.", with byte 6 as above, and the
-- device's own byte 4 and bytes 12-13
abbrev pub device_page_bytes : Header → State → ℕ → ℕ → List ℕ
device_page_bytes h st byte4 unit =
    device_page ∷ device_page_length ∷ 0 ∷ 0 ∷ byte4 ∷ 0 ∷ door_byte st.locked ∷ weight_of (h.size ≡ᵇ 1024) 0x04
    ∷ (count_bytes 2 500 ++ (0 ∷ 0 ∷ (count_bytes 2 unit ++ (count_bytes 2 st.speed ++ (count_bytes 2 128 ++ (0 ∷ 0 ∷ []))))))

-- ---- the first of some bytes

unfoldable pub first_of : List ℕ → ℕ → List ℕ
first_of bytes asked = take (min asked (length bytes)) bytes

unfoldable pub reply_ends : List ℕ → ℕ → State → Outcome State
reply_ends bytes asked st = ends st Good 0 (min asked (length bytes))

-- the buffer with the first of the bytes at its start
abbrev pub replied_into : List ℕ → ℕ → List ℕ → List ℕ
replied_into bytes asked buf = over buf 0 (first_of bytes asked)
