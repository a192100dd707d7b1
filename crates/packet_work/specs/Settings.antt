-- 15h with a list of 32 bytes, 1Bh and 1Eh.
-- Assumes nothing.
use Rattle.std.specs.Prelude.{ℕ, ◌+◌, Bool, not, ◌&&◌, List, get_or, if◌then◌else◌}
use Rattle.numbers.specs.Choice.{◌≡ᵇ◌}
use Rattle.numbers.specs.Counts.{count_at}
use Rattle.numbers.specs.Member.{is_in}
use Rattle.packet_state.specs.Answers.{Good, Check}
use Rattle.packet_state.specs.declared.state.Outcome.{Outcome}
use Rattle.packet_state.specs.declared.state.State.{State}
use Rattle.packet_state.specs.Senses.{wrong_list}
use Rattle.packet_state.specs.States.{speeds, at_place, with_loaded, with_locked, with_speed}
use Rattle.packet_parts.specs.Answers.{ends}
use Rattle.packet_parts.specs.Replies.{device_page, device_page_length, short_list, full_list}

-- ---- 15h MODE SELECT

-- "Length 32: page bytes 2Ah 12h and speed 0, 62, 125, 250 or 500"; the page stands after the header, its speed in its bytes 14-15
abbrev pub list_speed : List ℕ → ℕ
list_speed list = count_at list (short_list + 14) 2

unfoldable pub good_list : List ℕ → Bool
good_list list =
    (get_or list short_list 0 ≡ᵇ device_page) && (get_or list (short_list + 1) 0 ≡ᵇ device_page_length) && is_in (list_speed list) speeds

-- "Length 32: page bytes 2Ah 12h and speed .., else 5/26/00; other bytes ignored."
unfoldable pub speed_work : State → List ℕ → Outcome State
speed_work st list =
    if not (good_list list) then ends st (Check wrong_list) 0 0 else
    ends (with_speed st (list_speed list)) Good 0 full_list

-- ---- 1Bh LOAD/UNLOAD

-- "P = 0; loaded as the bit says."
unfoldable pub load_work : State → Bool → Outcome State
load_work st load = ends (with_loaded (at_place st 0) load) Good 0 0

-- ---- 1Eh PREVENT/ALLOW MEDIUM REMOVAL

-- 02, A8: "1Eh, byte 4 bit 0": locked as the bit says
unfoldable pub lock_work : State → Bool → Outcome State
lock_work st prevent = ends (with_locked st prevent) Good 0 0
