-- The bytes that 12h, 1Ah and 34h give, where the stream device has its own.
-- Assumes nothing.
use Rattle.std.specs.Prelude.{ℕ, ◌+◌, ◌-◌, Bool, List, [], ◌∷◌, ◌++◌, if◌then◌else◌}
use Rattle.numbers.specs.Choice.{◌≡ᵇ◌}
use Rattle.numbers.specs.Counts.{count_bytes}
use Rattle.numbers.specs.Flags.{weight_of}
use Rattle.image.specs.declared.header.Header.{Header}
use Rattle.packet_state.specs.declared.state.State.{State}
use Rattle.packet_parts.specs.declared.requests.Request.{Request}
use Rattle.packet_parts.specs.Replies.{device_page, short_list, full_list, inquiry_bytes, mode_header, device_page_bytes}
use Rattle.packet_parts.specs.Requests.{page_code}
use Rattle.stream_parts.specs.Warning.{past_warning}

-- ---- 12h

-- "36 bytes, 01h ..": a sequential-access device
abbrev pub stream_inquiry : List ℕ
stream_inquiry = inquiry_bytes 0x01

-- ---- 1Ah

abbrev pub has_page : Request → Bool
has_page q = page_code q ≡ᵇ device_page

abbrev pub mode_length : Request → ℕ
mode_length q = if has_page q then full_list else short_list

-- "12-13 64 .. others 0"
abbrev pub mode_page : Header → State → List ℕ
mode_page h st = device_page_bytes h st 0 64

-- "0 the length after itself"
abbrev pub mode_bytes : Header → State → Request → List ℕ
mode_bytes h st q =
    if has_page q then mode_header h (full_list - 1) ++ mode_page h st else
    mode_header h (short_list - 1)

-- ---- 34h

abbrev pub position_length : ℕ
position_length = 20

-- "20 bytes; byte 0 80h if P = 0, plus 40h if P > C - W; 4-7 and 8-11 P; others 0."
abbrev pub position_bytes : Header → State → List ℕ
position_bytes h st =
    (weight_of (st.position ≡ᵇ 0) 0x80 + weight_of (past_warning h st.position) 0x40) ∷ 0 ∷ 0 ∷ 0
    ∷ (count_bytes 4 st.position ++ (count_bytes 4 st.position ++ (0 ∷ 0 ∷ 0 ∷ 0 ∷ 0 ∷ 0 ∷ 0 ∷ 0 ∷ [])))
