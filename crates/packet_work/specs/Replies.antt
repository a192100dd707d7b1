-- 03h, 12h, 1Ah: the first of some bytes.
-- Assumes nothing.
use Rattle.std.specs.Prelude.{ℕ, ◌-◌, List, ◌++◌}
use Rattle.image.specs.declared.header.Header.{Header}
use Rattle.packet_state.specs.declared.state.State.{State}
use Rattle.packet_parts.specs.Answers.{Left, done}
use Rattle.packet_parts.specs.Replies.{full_list, mode_header, device_page_bytes, reply_ends, replied_into}

abbrev pub reply_work : List ℕ → ℕ → State → List ℕ → List ℕ → Left State
reply_work bytes asked st s buf = done (reply_ends bytes asked st) s (replied_into bytes asked buf)

-- 1Ah: "0 the length after itself", header and device page
abbrev pub device_mode : Header → State → ℕ → ℕ → List ℕ
device_mode h st byte4 unit = mode_header h (full_list - 1) ++ device_page_bytes h st byte4 unit
